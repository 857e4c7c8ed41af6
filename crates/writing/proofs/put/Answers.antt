-- All bytes copied are the run of their stores (`paste_all`).
use mathlib.Core.Path.{refl, ◌∙◌}
use Rattle.copying.specs.Copies.{paste_all}
use Rattle.writing.proofs.put.Goals as goal

pub returns : goal.returns
returns c =
    let a = c.args in
    record { end = refl; out = c.copy_at.ensures ∙ paste_all a.out.now a.bytes.now a.at _ refl c.requires }
