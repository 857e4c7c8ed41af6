-- What the functions that read say of their buffer. Which bytes were read no contract can say.
use Rattle.std.specs.Prelude.{List, ℕ, Result, IfOk}
use Rattle.io.specs.Counts.{IsPrefixLen}

-- The bytes of an input stand at the start of a buffer.
abbrev pub Holds : {E : Type 0} → List ℕ → Result ℕ E → Type 0
Holds b r = IfOk r (λ n. IsPrefixLen n b)

-- `INTERRUPTIONS`
abbrev pub most_interruptions : ℕ
most_interruptions = 1000000
