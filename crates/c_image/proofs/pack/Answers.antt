-- Behind the code are stored the number of originals, the origins and the words behind.
use Rattle.c_image.specs.Packing.{packed}
use Rattle.c_image.proofs.pack.Goals as goal

pub returns : goal.returns
returns c =
    packed c.requires.0 _ _ c.requires.1 c.pack_code.ensures _ c.copy_at.ensures _ c.copy_at-2.ensures
