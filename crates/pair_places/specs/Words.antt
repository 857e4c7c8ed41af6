-- What laying out one word does to the flat list: its own entries, and no other entry changes.
use Rattle.std.specs.Prelude.{◌≡◌, List, ℕ, ◌+◌, ◌*◌, ◌-◌, ◌≤◌, ◌<◌, length, get_or}
use Rattle.std.proofs.Common.{◌∙◌, arith}
use Rattle.code.specs.declared.Word.{Word}
use Rattle.code.specs.declared.Row.{Row}
use Rattle.code.specs.Definitions.Sheets.{limits}
use Rattle.pair_places.specs.Flat.{symbol_at, owner_at, first_at}
use Rattle.pair_places.specs.Offsets.{owners_from, ends_from, firsts_from, follow_from, list_length}
use Rattle.pair_places.specs.Writes.{Written, elements, always}

-- There is room for `len` places from number `at` on, and for word x.
pub record Room (at x : ℕ) (w : Word) (r : Row) (f : List ℕ) : Type 0 where
  pub long : length f ≡ list_length
  pub known : x < limits.words
  pub some : 1 ≤ w.len
  pub short : w.len ≤ limits.symbols
  pub places : at + w.len ≤ limits.total
  pub symbols : length w.symbols ≡ limits.symbols
  pub entries : length r.entries ≡ limits.words

-- Entry i is none of those of word x, which has `len` places from number `at` on.
pub record Apart (at x len i : ℕ) : Type 0 where
  pub symbol : at ≤ i → i < at + len → ⊥
  pub owner : owners_from + at ≤ i → i < owners_from + at + len → ⊥
  pub end : i ≡ ends_from + (at + len - 1) → ⊥
  pub first : i ≡ firsts_from + x → ⊥
  pub row : follow_from + x * limits.words ≤ i → i < follow_from + x * limits.words + limits.words → ⊥

-- Word w and row r are laid out as word x, with places from number `at` on.
pub record WordLaid (at x : ℕ) (w : Word) (r : Row) (f g : List ℕ) : Type 0 where
  pub long : length g ≡ length f
  pub symbols : (k : ℕ) → k < w.len → symbol_at g (at + k) ≡ get_or w.symbols k 0
  pub owners : (k : ℕ) → k < w.len → owner_at g (at + k) ≡ x
  pub end : get_or g (ends_from + (at + w.len - 1)) 0 ≡ 1
  pub first : first_at g x ≡ at
  pub row : (y : ℕ) → y < limits.words → get_or g (follow_from + (x * limits.words + y)) 0 ≡ get_or r.entries y 0
  pub others : (i : ℕ) → Apart at x w.len i → get_or g i 0 ≡ get_or f i 0

-- The five runs that make up a word.
module _ (at x : ℕ) (w : Word) (r : Row) {f f₁ f₂ f₃ f₄ g : List ℕ} (room : Room at x w r f)
    (symbols : Written f at w.len (elements w.symbols) f₁)
    (owners : Written f₁ (owners_from + at) w.len (always x) f₂)
    (end : Written f₂ (ends_from + (at + w.len - 1)) 1 (always 1) f₃)
    (first : Written f₃ (firsts_from + x) 1 (always at) f₄)
    (row : Written f₄ (follow_from + x * limits.words) limits.words (elements r.entries) g) where
  -- an entry that only the first runs write
  kept₄ : (i : ℕ) → i < follow_from → get_or g i 0 ≡ get_or f₄ i 0
  kept₄ i l = row.others i (omega arith)

  kept₃ : (i : ℕ) → i < firsts_from → get_or g i 0 ≡ get_or f₃ i 0
  kept₃ i l = kept₄ i (omega arith) ∙ first.others i (omega arith)

  kept₂ : (i : ℕ) → i < ends_from → get_or g i 0 ≡ get_or f₂ i 0
  kept₂ i l = kept₃ i (omega arith) ∙ end.others i (omega arith)

  kept₁ : (i : ℕ) → i < owners_from → get_or g i 0 ≡ get_or f₁ i 0
  kept₁ i l = kept₂ i (omega arith) ∙ owners.others i (omega arith)

  own : (k : ℕ) → k < w.len → owner_at g (at + k) ≡ x
  own k l =
      let e : owners_from + (at + k) ≡ owners_from + at + k = omega arith in
      kept₂ (owners_from + (at + k)) (omega (arith, room.places)) ∙ rw e (owners.within k l)

  one : (i v : ℕ) (a b : List ℕ) → Written a i 1 (always v) b → get_or b i 0 ≡ v
  one i v a b t =
      let e : i ≡ i + 0 = omega arith in
      rw e (t.within 0 (omega arith))

  entry : (y : ℕ) → y < limits.words → get_or g (follow_from + (x * limits.words + y)) 0 ≡ get_or r.entries y 0
  entry y l =
      let e : follow_from + (x * limits.words + y) ≡ follow_from + x * limits.words + y = omega arith in
      rw e (row.within y l)

  -- Together they lay out the word.
  pub word_laid : WordLaid at x w r f g
  word_laid = record {
    long = row.long ∙ first.long ∙ end.long ∙ owners.long ∙ symbols.long;
    symbols = λ k l. kept₁ (at + k) (omega (arith, room.places)) ∙ symbols.within k l;
    owners = own;
    end = kept₃ (ends_from + (at + w.len - 1)) (omega (arith, room.places, room.some)) ∙ one (ends_from + (at + w.len - 1)) 1 f₂ f₃ end;
    first = kept₄ (firsts_from + x) (omega (arith, room.known)) ∙ one (firsts_from + x) at f₃ f₄ first;
    row = entry;
    others = λ i a.
        row.others i a.row
        ∙ first.others i (λ l h. a.first (omega arith))
        ∙ end.others i (λ l h. a.end (omega arith))
        ∙ owners.others i a.owner
        ∙ symbols.others i a.symbol;
  }
