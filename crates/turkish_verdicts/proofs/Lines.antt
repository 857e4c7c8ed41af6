-- The line of docs/GUIDE.md, section 10, by the six types: what its first five symbols tell, and what it tells where it ends before.
use Rattle.std.specs.Prelude.{refl, List, [], ◌∷◌, ℕ}
use Rattle.std.proofs.Common.{arith}
use Rattle.code.specs.Definitions.Lists.{tabulate}
use Rattle.code.specs.Definitions.NextWords.{Foretells}
use Rattle.code.specs.Definitions.Tables.{table_of, one, more, begun, one_word, two_words}
use Rattle.turkish.specs.Types.{padded, code_of_types}
use Rattle.turkish_verdicts.specs.Cases.{six}
use Rattle.turkish_verdicts.proofs.Cases.{six_delay}

-- 1011 is CVCC if the line ends there; as soon as a vowel comes in, the first syllable is CVC, whatever comes behind.
pub ended_line : Foretells (table_of six) (1 ∷ 0 ∷ 1 ∷ 1 ∷ []) 5
unfolding tabulate padded code_of_types
ended_line = record { N = 5; delay = six_delay.1; next = record { s = []; permitted = begun refl (one {x = 5} (omega arith)) one_word; share = refl } }

pub begun_line : (rest : List ℕ) → Foretells (table_of six) (1 ∷ 0 ∷ 1 ∷ 1 ∷ 0 ∷ rest) 3
unfolding tabulate padded code_of_types
begun_line rest = record {
  N = 5;
  delay = six_delay.1;
  next = record { s = 1 ∷ []; permitted = begun refl (more {y = 3} (omega arith) refl (one {x = 1} (omega arith))) two_words; share = refl };
}
