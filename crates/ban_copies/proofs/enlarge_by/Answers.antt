-- Where the copies are within the limits the result is the enlarged code, else refusal 17.
use Rattle.ban_theory.specs.Triples.{bans_from}
use Rattle.ban_copies.proofs.Laws.Answers.{accepted, refused}
use Rattle.ban_copies.proofs.enlarge_by.Goals as goal

pub with_copies-enlarged-requires : goal.with_copies-enlarged-requires
with_copies-enlarged-requires c = let p = c.requires in (p.0, p.1, c.in-Some.ensures)

pub returns-in-Some : goal.returns-in-Some
returns-in-Some c = accepted c.args.code (bans_from c.args.numbers.now c.args.bans) c.requires.0 c.requires.2 c.in-Some.ensures c.with_copies-enlarged.ensures

pub returns-in-None : goal.returns-in-None
returns-in-None c = refused c.args.code (bans_from c.args.numbers.now c.args.bans) c.requires.0 c.requires.2 c.in-None.ensures c.blank_enlarged-blank.ensures
