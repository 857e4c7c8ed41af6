-- The filled code and the arrays are the enlarged code.
use Rattle.ban_theory.specs.Triples.{bans_from}
use Rattle.ban_copies.proofs.Laws.Answers.{enlarged_whole}
use Rattle.ban_copies.proofs.with_copies.Goals as goal

pub returns : goal.returns
returns c =
    enlarged_whole c.args.code (bans_from c.args.numbers.now c.args.bans) c.requires.2.arrays c.fill-filled.ensures
