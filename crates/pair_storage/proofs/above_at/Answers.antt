-- The number above two places is taken out of the link.
use mathlib.Core.Path.{ap, sym, ◌∙◌}
use Rattle.pair_storage.specs.Fields.{above_in}
use Rattle.pair_storage.specs.Entries.{link_at}
use Rattle.pair_storage.proofs.above_at.Goals as goal

pub returns : goal.returns
returns c =
    let a = c.args in
    (c.above_in.ensures.0 ∙ ap above_in (c.link_in.ensures.0 ∙ sym (link_at a.work.now a.i)), c.above_in.ensures.1)
