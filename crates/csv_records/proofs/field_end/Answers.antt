-- The chain counts the digits at the front of the rest.
use mathlib.Core.Path.{ap, ◌∙◌, sym}
use native.Mathlib.Omega.{arith}
use borrow.Author.Rules.{rules}
use borrow.Author.Tests.{tests}
use lib.ListN.{drop}
use Rattle.std.proofs.Common.{length-drop, take_all}
use Rattle.std.specs.Slice.Iter.{iter_rest}
use Rattle.std.proofs.lemmas.Iterator.{YieldsList-from_slice}
use Rattle.std.proofs.lemmas.Iterator.Search.{YieldsList-from_take_while}
use Rattle.std.proofs.lemmas.Iterator.Consumers.{count_from_yields_List}
use Rattle.std.proofs.lemmas.List.Folds.{length-prefix_len}
use Rattle.std.proofs.lemmas.List.Sums.{prefix_len-le-length}
use Rattle.code.specs.Definitions.Sheets.{is_digit}
use Rattle.csv_records.specs.Fields.{leading_count}
use Rattle.csv_records.proofs.field_end.Goals as goal

pub returns : goal.returns
returns c =
    let rest = drop c.args.at c.args.s.now in
    let from = ap iter_rest c.take_while.ensures.source ∙ c.iter.ensures.rest ∙ take_all _ rest (omega (arith, length-drop c.args.at c.args.s.now)) in
    let digits = count_from_yields_List c.take_while.result _ c.count.ensures.ran
    (YieldsList-from_take_while _ is_digit (YieldsList-from_slice rest from) c.take_while.ensures.closure c.take_while.ensures.done (λ x b q k. search (rules, tests)))
    ∙ length-prefix_len is_digit rest ∙ sym (leading_count rest) in
    (omega arith, omega (arith, leading_count rest, prefix_len-le-length is_digit rest, length-drop c.args.at c.args.s.now))
