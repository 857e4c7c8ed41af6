-- The words, the rows, the start marks and the count are stored one behind another.
use Rattle.c_image.specs.Packing.{packed_code}
use Rattle.c_image.proofs.pack_code.Goals as goal

pub returns : goal.returns
returns c =
    packed_code c.requires.0 c.args.table.now _ _ _ c.requires.1 c.put_words.ensures c.put_rows.ensures c.copy_at.ensures
