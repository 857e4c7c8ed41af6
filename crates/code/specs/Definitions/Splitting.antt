-- What splitting a text promises, for every input: the answer, and what each lent buffer then holds.
use Rattle.std.specs.Prelude.{◌≡◌, List, [], ◌∷◌, ◌⊎◌, ℕ, ◌+◌, ◌*◌, ◌<◌, length, Err, Ok, Result}
use Rattle.code.specs.declared.ByteCount.{ByteCount}
use Rattle.code.specs.declared.Classes.{Classes}
use Rattle.code.specs.declared.Enlarged.{Enlarged}
use Rattle.code.specs.declared.Limits.{Limits}
use Rattle.code.specs.declared.Refusal.{Refusal}
use Rattle.code.specs.declared.Refusal.TheVariants.{NotFromSheet, MessageLength, ShortBuffer}
use Rattle.code.specs.Definitions.Enlarged.{original_table}
use Rattle.code.specs.Definitions.Operations.{Condition, Lowest, NoneHolds, written, zeroed, FromLists}
use Rattle.code.specs.Definitions.ClassSheets.{FromClassSheet}
use Rattle.code.specs.Definitions.Texts.{Splits}

-- Splitting the text s into the buffer b, with the message buffer m, the reading buffers f and g and the working buffer w, by letters of these classes.
module _ (l : Limits) (e : Enlarged) (classes : Classes) where
  -- 02, request 4: "up to 16,384 bytes (longer gets 11; a code that reading refuses with 8 gets 8 here, whatever the text)", "The output buffer needs twice the
  -- input plus one. Splitting also needs a message buffer as long as the text and the three buffers of reading for that length", "13 if any is short"; request 5:
  -- "Splitting gives 8 for classes that no accepted class sheet gives."
  abbrev pub splitting_conditions : (s b m f g w : List ℕ) → List Condition
  splitting_conditions s b m f g w =
      record { refusal = NotFromSheet; holds = (FromLists l e → ⊥) ⊎ (FromClassSheet l classes → ⊥) }
      ∷ record { refusal = MessageLength; holds = l.text < length s }
      ∷ record {
        refusal = ShortBuffer;
        holds = (length b < 2 * length s + 1) ⊎ ((length m < length s) ⊎ ((length f < length s) ⊎ ((length g < length s) ⊎ (length w < length s + 1))));
      }
      ∷ []

  -- The answer is the output's length. 02, request 4: "all left zero after a result"
  pub data SplitsText (s b m f g w b' m' f' g' w' : List ℕ) : Result ByteCount Refusal → Type 0 where
    refused : {r : Refusal} → Lowest (splitting_conditions s b m f g w) r → b' ≡ b → m' ≡ m → f' ≡ f → g' ≡ g → w' ≡ w
        → SplitsText s b m f g w b' m' f' g' w' (Err r)
    split : {n : ByteCount} {o : List ℕ} → NoneHolds (splitting_conditions s b m f g w) → Splits (original_table e) classes.entries s o → n.0 ≡ length o → b' ≡ written o b
        → m' ≡ zeroed m → f' ≡ zeroed f → g' ≡ zeroed g → w' ≡ zeroed w → SplitsText s b m f g w b' m' f' g' w' (Ok n)
