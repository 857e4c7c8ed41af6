-- The answers as numbers. Each call returns 0 for a result and this paper's number for a refusal; a result's kind and lengths are four entries at the start
-- of a lent buffer, 0 where there is nothing to say.
use Rattle.std.specs.Prelude.{List, [], ◌∷◌, ℕ, Err, Ok, Result}
use Rattle.code.specs.declared.Verdict.{Verdict}
use Rattle.code.specs.declared.Verdict.TheVariants.{Ambiguous, Finite, Unbounded}
use Rattle.code.specs.declared.Refusal.TheVariants.{ShortBuffer}
use Rattle.code.specs.declared.Readings.TheVariants.{One, Two}
use Rattle.code.specs.declared.Refusal.{Refusal}
use Rattle.code.specs.declared.Readings.{Readings}
use Rattle.code.specs.declared.ByteCount.{ByteCount}
use Rattle.code.specs.declared.SymbolCount.{SymbolCount}
use Rattle.code.specs.Definitions.Answers.{refusal_number}

-- the number of a buffer that is too short
abbrev pub short_number : ℕ
short_number = refusal_number ShortBuffer

-- entries of an answer
abbrev pub answer_length : ℕ
answer_length = 4

-- The number returned: 0 for a result.
abbrev pub answer_number : {T : Type 0} → Result T Refusal → ℕ
answer_number (Ok x) = 0
answer_number (Err r) = refusal_number r

-- The entries written: those of a result, and none for a refusal.
abbrev pub answer_entries : {T : Type 0} → (T → List ℕ) → Result T Refusal → List ℕ
answer_entries f (Ok x) = f x
answer_entries f (Err r) = []

-- the length of an encoded message
abbrev pub symbols_entries : SymbolCount → List ℕ
symbols_entries n = n.0 ∷ 0 ∷ 0 ∷ 0 ∷ []

-- the length of a text split into syllables
abbrev pub bytes_entries : ByteCount → List ℕ
bytes_entries n = n.0 ∷ 0 ∷ 0 ∷ 0 ∷ []

-- the number of the next word
abbrev pub word_entries : ℕ → List ℕ
word_entries x = x ∷ 0 ∷ 0 ∷ 0 ∷ []

-- 1 for one reading or 2 for several, and the lengths of the first and of the second
abbrev pub readings_entries : Readings → List ℕ
readings_entries (One n) = 1 ∷ n.0 ∷ 0 ∷ 0 ∷ []
readings_entries (Two n k) = 2 ∷ n.0 ∷ k.0 ∷ 0 ∷ []

-- 1 for ambiguous, with the lengths of the message and of its two readings; 2 for decipherable with this delay; 3 for decipherable without bound
abbrev pub verdict_entries : Verdict → List ℕ
verdict_entries (Ambiguous m s u) = 1 ∷ m.0 ∷ s.0 ∷ u.0 ∷ []
verdict_entries (Finite d) = 2 ∷ d.0 ∷ 0 ∷ 0 ∷ []
verdict_entries Unbounded = 3 ∷ 0 ∷ 0 ∷ 0 ∷ []
