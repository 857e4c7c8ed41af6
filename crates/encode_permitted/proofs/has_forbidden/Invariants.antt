-- The loop keeps the number of the first word of what is left, and that all words as far as this one come.
use Rattle.std.proofs.Common.{◌≡◌, ◌-◌, ◌≤◌, length, drop}
use Rattle.std.specs.Slice.Iter.{windows_size, windows_rest}
use Rattle.encode_permitted.proofs.Laws.Walk.{Walked}
use Rattle.encode_permitted.proofs.has_forbidden.Given as goal

abbrev pub invariant-loop-pair : goal.invariant-loop-pair
invariant-loop-pair l =
    let rest = windows_rest l.pair-iterator in
    let i = length l.words - length rest in
    (windows_size l.pair-iterator ≡ 2) × (length rest ≤ length l.words) × (rest ≡ drop i l.words) × Walked l.fn.e l.words i l.last
