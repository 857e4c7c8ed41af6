-- The public operation: which refusal holds first, and how the output where none holds is what splitting promises.
use Rattle.std.specs.Prelude.{Err, Ok}
use mathlib.Core.Path.{◌≡◌, refl, ◌∙◌}
use mathlib.Core.Bool.{Bool, true, false, not}
use mathlib.Core.List.{List}
use mathlib.Core.Logic.{◌⊎◌, inl, inr}
use Prim.Native.Nat.{ℕ, ◌≤◌, ◌<◌}
use native.Mathlib.Omega.{arith}
use borrow.Author.Tests.{not-true}
use lib.ListN.{length, replicate}
use Rattle.code.specs.declared.Classes.{Classes}
use Rattle.code.specs.declared.Enlarged.{Enlarged}
use Rattle.code.specs.declared.Refusal.TheVariants.{NotFromSheet, MessageLength, ShortBuffer}
use Rattle.code.specs.Definitions.ClassSheets.{FromClassSheet}
use Rattle.code.specs.Definitions.Operations.{FromLists, zeroed}
use Rattle.code.specs.Definitions.Sheets.{limits}
use Rattle.code.specs.Definitions.Splitting.{SplitsText, refused, split}
use Rattle.code.specs.Definitions.Tables.{table_of}
use Rattle.well_enlarged.specs.Listed.{from_lists}
use Rattle.well_enlarged.specs.Meaning.{value_covers}
use Rattle.code.specs.Laws.Exactly.{Exactly}
use Rattle.code.specs.Laws.WellFormed.{WellFormed}
use Rattle.text_theory.specs.Named.{named_splits}
use Rattle.text_words.specs.Outputs.{SplitsInto}
use Rattle.text_words.specs.Rooms.{Rooms}
use Rattle.text_split.specs.Rooms.{Short, enough_room}

-- A buffer that kept its length, and was then cleared.
pub zero_same : (b : List ℕ) {b' : List ℕ} {n : ℕ} → b' ≡ replicate n 0 → n ≡ length b → b' ≡ zeroed b
zero_same b p h = p ∙ rw h

-- The code and the classes are given.
module _ {e : Enlarged} {classes : Classes} {a k : Bool} (given : Exactly a (FromLists limits e)) (kept : a ≡ true) (classed : Exactly k (FromClassSheet limits classes))
    (well : k ≡ true) where
  from : FromLists limits e
  from = given.yes kept

  neither : (FromLists limits e → ⊥) ⊎ (FromClassSheet limits classes → ⊥) → ⊥
  neither (inl n) = n from
  neither (inr n) = n (classed.yes well)

pub split_rooms : {e : Enlarged} {a : Bool} → Exactly a (FromLists limits e) → a ≡ true → {s b m f g w : List ℕ} {d : Bool} → length s ≤ limits.text
    → Exactly d (Short (length s) (length b) (length m) (length f) (length g) (length w)) → d ≡ false → WellFormed limits e.code × Rooms s b m f g w
split_rooms {a = a} given kept short shortage long = ((from_lists (given.yes kept)).code, enough_room short (shortage.no long))

module _ {e : Enlarged} {classes : Classes} {s b m f g w : List ℕ} {a : Bool} (given : Exactly a (FromLists limits e)) where
  -- Each refusal, where it is the first that holds.
  pub way_8 : not a ≡ true → SplitsText limits e classes s b m f g w b m f g w (Err NotFromSheet)
  way_8 h = refused (inl (inl (given.no (not-true a h)), refl)) refl refl refl refl refl

  module _ (kept : a ≡ true) {k : Bool} (classed : Exactly k (FromClassSheet limits classes)) where
    pub way_8_classes : not k ≡ true → SplitsText limits e classes s b m f g w b m f g w (Err NotFromSheet)
    way_8_classes h = refused (inl (inr (classed.no (not-true k h)), refl)) refl refl refl refl refl

    module _ (well : k ≡ true) where
      pub way_11 : limits.text < length s → SplitsText limits e classes s b m f g w b m f g w (Err MessageLength)
      way_11 h = refused (inr (neither given kept classed well, inl (h, refl))) refl refl refl refl refl

      module _ (short : length s ≤ limits.text) {d : Bool} (shortage : Exactly d (Short (length s) (length b) (length m) (length f) (length g) (length w))) where
        pub way_13 : d ≡ true → SplitsText limits e classes s b m f g w b m f g w (Err ShortBuffer)
        way_13 h = refused (inr (neither given kept classed well, inr (λ n. omega arith, inl (shortage.yes h, refl)))) refl refl refl refl refl

        -- Where none holds: the output by the plain code is that by the table of original words, which it covers.
        pub way_split : d ≡ false → {b' m' f' g' w' : List ℕ} {n : ℕ} → SplitsInto (table_of e.code) classes.entries s b b' n → m' ≡ zeroed m → f' ≡ zeroed f
            → g' ≡ zeroed g → w' ≡ zeroed w → SplitsText limits e classes s b m f g w b' m' f' g' w' (Ok (record { 0 = n }))
        way_split long i p q r z =
            split (neither given kept classed well, (λ n. omega arith, (shortage.no long, tt))) (named_splits (value_covers (from_lists (from given kept classed well))) i.splits)
            i.starts.count i.starts.out p q r z
