-- The code, the number of originals, the origins and the words behind are read from their places.
use Rattle.c_image.proofs.Laws.Unpacking.{unpacked}
use Rattle.c_image.proofs.unpack.Goals as goal

pub returns : goal.returns
returns c =
    rw c.from.ensures (unpacked _ _ _ _ c.unpack_code-code.ensures c.row_in-words.ensures c.row_in-others.ensures)
