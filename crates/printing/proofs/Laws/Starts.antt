-- A text at the start of a buffer, for whoever writes it out.
use mathlib.Core.Path.{sym, ap}
use mathlib.Core.List.{List}
use Prim.Native.Nat.{ℕ, ◌≤◌}
use native.Mathlib.Omega.{arith}
use lib.ListN.{length, drop, length-append}
use lib.Seq.{length-take-le}
use Rattle.io.specs.Counts.{IsPrefixLen}
use Rattle.writing.specs.Puts.{Starts}

-- Its bytes lie within the buffer.
pub starts_counts : {r : ℕ} {text o p : List ℕ} → Starts text o p r → IsPrefixLen r p
starts_counts {r} {text} {o} {p} s =
    let within : r ≤ length p = omega (arith, s.count, ap length s.out, length-append text (drop (length text) o)) in
    (within, sym (length-take-le r p within))
