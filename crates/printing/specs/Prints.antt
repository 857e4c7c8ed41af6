-- What printing promises for every judgement and all buffers: the printed result at the start of the output buffer, or nothing.
use Rattle.std.specs.Prelude.{◌≡◌, List, ℕ, ◌+◌, ◌*◌, ◌≤◌, ◌<◌, length, take, get_or, Err, Ok, Result}
use Rattle.std.proofs.Common.{arith}
use Rattle.std.proofs.Math.Decide.{dec_lt}
use Rattle.std.proofs.Math.ListN.{get_or-eq_default}
use Rattle.code.specs.declared.Verdict.TheVariants.{Ambiguous as Two-ways, Finite, Unbounded}
use Rattle.code.specs.declared.Verdict.{Verdict}
use Rattle.code.specs.declared.Refusal.{Refusal}
use Rattle.code.specs.Definitions.Operations.{written}
use Rattle.printing.specs.declared.Lengths.{Lengths}
use Rattle.printing.specs.Printed.{printed}

-- How much of the three buffers is shown: a message and two readings where the verdict is ambiguous, else nothing.
abbrev pub lengths_of : Result Verdict Refusal → Lengths
lengths_of (Ok (Two-ways a b c)) = record { message = a.0; first = b.0; second = c.0 }
lengths_of (Ok (Finite d)) = record { message = 0; first = 0; second = 0 }
lengths_of (Ok Unbounded) = record { message = 0; first = 0; second = 0 }
lengths_of (Err r) = record { message = 0; first = 0; second = 0 }

-- The bytes that printing asks for: one for each symbol, four for each word number with its comma, and 35 for all else.
abbrev pub needed : Lengths → ℕ
needed n = 35 + n.message + 4 * (n.first + n.second)

-- Past the end a read gives 0, which is a symbol.
abbrev pub Symbols : List ℕ → Type 0
Symbols m = (k : ℕ) → get_or m k 0 < 16

pub all_symbols_lem : (m : List ℕ) (n : ℕ) → length m ≤ n → ((k : ℕ) → k < n → get_or m k 0 < 16) → Symbols m
all_symbols_lem m n h below k = by_size (dec_lt k n)
  where
    by_size : Dec (k < n) → get_or m k 0 < 16
    by_size (yes i) = below k i
    by_size (no i) = omega (arith, get_or-eq_default m 0 {n = k} (omega arith))

-- The message buffer m and the reading buffers f, g hold what the judgement shows, and there is room for `size` bytes.
pub record Printable (j : Result Verdict Refusal) (m f g : List ℕ) (size : ℕ) : Type 0 where
  pub message : (lengths_of j).message ≤ length m
  pub first : (lengths_of j).first ≤ length f
  pub second : (lengths_of j).second ≤ length g
  pub symbols : Symbols (take (lengths_of j).message m)
  pub room : needed (lengths_of j) ≤ size

-- The printed result of a judgement whose message and readings stand at the start of these buffers.
abbrev pub result_of : Result Verdict Refusal → (m f g : List ℕ) → List ℕ
result_of j m f g = printed j (take (lengths_of j).message m) (take (lengths_of j).first f) (take (lengths_of j).second g)

-- The output buffer o becomes o', and the answer is how many bytes were printed: none, or all.
pub data Prints (j : Result Verdict Refusal) (m f g o o' : List ℕ) : ℕ → Type 0 where
  all : {r : ℕ} → Printable j m f g (length o) → r ≡ length (result_of j m f g) → o' ≡ written (result_of j m f g) o → Prints j m f g o o' r
  none : (Printable j m f g (length o) → ⊥) → o' ≡ o → Prints j m f g o o' 0
