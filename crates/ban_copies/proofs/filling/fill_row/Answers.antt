use Rattle.std.specs.Prelude.{◌≡◌, Bool, true, false, if◌then◌else◌}
use Rattle.std.proofs.Common.{◌∙◌}
use mir.Val.{bool_byte}
use mathlib.Core.Path.{refl}
use native.Mathlib.Omega.{arith}
use lib.ListN.{replicate}
use Rattle.code.specs.Definitions.Lists.{tabulate}
use Rattle.code.specs.Definitions.Sheets.{limits}
use Rattle.code.specs.Laws.Filling.{fill_next}
use Rattle.ban_theory.specs.Triples.{bans_from}
use Rattle.ban_copies.specs.Coming.{entry_by, asked}
use Rattle.ban_copies.proofs.Laws.Filling.{entry_next, row_filled}
use borrow.Author.Rules.{rules}
use Rattle.ban_copies.proofs.filling.fill_row.Goals as goal

byte_is : (b : Bool) → bool_byte b ≡ (if b then 1 else 0)
byte_is true = refl
byte_is false = refl

pub loop-y-init : goal.loop-y-init
unfolding tabulate
loop-y-init c = refl

pub may_come-requires : goal.may_come-requires
may_come-requires c = let p = c.requires in asked p.0 p.1 p.2 (search rules)

pub loop-y-preserved : goal.loop-y-preserved
loop-y-preserved c =
    let l = c.loop-y in
    let a = c.args in
    let p = c.requires in
    let bs = bans_from a.numbers.now a.bans in
    let v = entry_next a.row.entries a.copies.originals bs a.x l.y (omega (arith, p.0.number)) c.may_come.ensures (c.from.ensures ∙ byte_is c.may_come.result) in
    rw (l.invariant, v) (fill_next (entry_by a.row.entries a.copies.originals bs a.x) (replicate limits.words 0) l.y (omega (arith, p.0.number, p.0.most)))

pub returns : goal.returns
returns c =
    let l = c.loop-y in
    let a = c.args in
    let p = c.requires in
    row_filled a.row.entries a.copies.originals (bans_from a.numbers.now a.bans) a.x l.y l.invariant (omega (arith, p.0.number)) (omega (arith, p.0.number, p.0.most))
