-- `high_soon` meets its contract: the first symbols are lent, or all of them.
use mathlib.Core.Path.{sym}
use native.Mathlib.Omega.{arith}
use lib.Seq.{length-take-le}
use Rattle.next_word.proofs.Laws.Ways.{high_all}
use Rattle.next_word.proofs.high_soon.Goals as goal

pub slice_bounds-has_high-end : goal.slice_bounds-has_high-end
slice_bounds-has_high-end c = sym (length-take-le _ _ (omega arith))

pub returns : goal.returns
returns c = search high_all
