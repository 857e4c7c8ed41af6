-- The byte is the field's digit.
use mathlib.Core.Path.{◌∙◌}
use native.Mathlib.Omega.{arith}
use Rattle.class_records.proofs.Laws.Values.{symbol_digit}
use Rattle.class_records.proofs.symbol_in.Goals as goal

pub bounds-s-at : goal.bounds-s-at
bounds-s-at c = (symbol_digit c.args.s.now c.args.at c.requires).within

pub value_of-requires : goal.value_of-requires
value_of-requires c = (symbol_digit c.args.s.now c.args.at c.requires).digit

pub returns : goal.returns
returns c = let d = symbol_digit c.args.s.now c.args.at c.requires in (c.value_of.ensures ∙ d.value, omega (arith, d.small, c.value_of.ensures))
