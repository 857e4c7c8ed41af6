-- `find_by_origin` meets its contract: the code in the order of its origins is well-formed, what is found in it lies in the buffers, and named it is what the
-- table of original words has (`renamed_found`).
use native.Mathlib.Omega.{arith}
use Rattle.code.specs.Definitions.Sheets.{limits}
use Rattle.read_core.specs.Counts.{first_words, second_words}
use Rattle.reading.specs.Named.{ordered_well, ordered_few, renamed_found}
use Rattle.reading.proofs.named.find_by_origin.Goals as goal

pub find_readings-r-requires : goal.find_readings-r-requires
find_readings-r-requires c =
    let p = c.requires in
    (ordered_well p.0 c.by_origin-old.ensures c.renumber-ordered.ensures, p.1, p.2, p.3, p.4)

pub rename-requires : goal.rename-requires
rename-requires c =
    let p = c.requires in
    let few = ordered_few p.0 c.by_origin-old.ensures c.renumber-ordered.ensures in
    let words = first_words limits.words few c.find_readings-r.ensures.finds in
    let count = c.first_count-n.ensures in
    (omega (arith, words.0, count), λ i h. omega (arith, words.1 i (omega (arith, count))))

pub rename-requires-2 : goal.rename-requires-2
rename-requires-2 c =
    let p = c.requires in
    let few = ordered_few p.0 c.by_origin-old.ensures c.renumber-ordered.ensures in
    let words = second_words limits.words few c.find_readings-r.ensures.finds in
    let count = c.second_count-k.ensures in
    (omega (arith, words.0, count), λ i h. omega (arith, words.1 i (omega (arith, count))))

pub returns : goal.returns
returns c =
    let p = c.requires in
    renamed_found p.0 c.by_origin-old.ensures c.renumber-ordered.ensures
    (c.reorder_entries-names.ensures 0) c.find_readings-r.ensures
    (rw c.first_count-n.ensures at c.rename.ensures) (rw c.second_count-k.ensures at c.rename-2.ensures)
