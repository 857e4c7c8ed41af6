-- What the file that an argument names gives.
use Rattle.std.specs.Prelude.{◌≡◌, List, ℕ, ◌≤◌, Result, Ok}
use Rattle.streams.specs.Inputs.{Holds}

-- The bytes of the file that argument i names, of a program with so many arguments; none where it has no such argument.
pub record Named {E : Type 0} (i arguments : ℕ) (b : List ℕ) (r : Result ℕ E) : Type 0 where
  pub holds : Holds b r
  pub none : arguments ≤ i → r ≡ Ok 0
