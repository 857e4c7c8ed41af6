-- An image too short to be read is found first; then an accepted list gives a table that can be packed, and its answer decides.
use Rattle.furlazon.specs.Packs.{list_packs}
use Rattle.furlazon.proofs.Laws.Ways.{list_unread, list_answered}
use Rattle.furlazon.proofs.furlazon_enlarge.Goals as goal

pub returns-then-table-lt-LENGTH : goal.returns-then-table-lt-LENGTH
returns-then-table-lt-LENGTH c = search list_unread

pub put_table-requires : goal.put_table-requires
put_table-requires c = search list_packs

pub returns : goal.returns
returns c = search list_answered
