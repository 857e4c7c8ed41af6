-- `clear_marks` meets its contract: the marks are laid over a part that is as long (`laid_whole`), the rest is cleared, and so the whole is zero in two parts (`Parts`).
use mathlib.Core.Path.{sym, ◌∙◌}
use native.Mathlib.Omega.{arith}
use lib.ListN.{take}
use Rattle.code.specs.Definitions.Operations.{verdict_work}
use Rattle.code.specs.Definitions.Sheets.{limits}
use Rattle.read_core.proofs.Laws.Parts.{with_rest, used_length, all_zero}
use Rattle.decipher.specs.Lent.{laid_whole}
use Rattle.decipher.proofs.clear_marks.Goals as goal

pub slice_bounds-lay-end-3 : goal.slice_bounds-lay-end-3
slice_bounds-lay-end-3 c =
    sym (used_length c.args.work.now (verdict_work limits) c.fill.new.self c.requires (c.fill.ensures.after (λ y e. e)))

pub lay-requires : goal.lay-requires
lay-requires c =
    omega (arith, used_length c.args.work.now (verdict_work limits) c.fill.new.self c.requires (c.fill.ensures.after (λ y e. e)))

pub returns : goal.returns
returns c =
    let w = c.args.work.now in
    let z = c.fill.new.self in
    let used = used_length w (verdict_work limits) z c.requires (c.fill.ensures.after (λ y e. e)) in
    all_zero w (verdict_work limits) z c.requires (c.fill.ensures.after (λ y e. e)) _ (c.lay.ensures ∙ laid_whole (take (verdict_work limits) (with_rest w (verdict_work limits) z)) (verdict_work limits) used)
