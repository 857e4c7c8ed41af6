-- Taking in a class sheet: one lemma for each way out.
use Rattle.std.specs.Prelude.{Err, Ok, Result}
use mathlib.Core.Path.{◌≡◌, sym, ap, ◌∙◌}
use mathlib.Core.Bool.{true, false}
use mathlib.Core.List.{List}
use Prim.Native.Nat.{ℕ, ◌≤◌, ◌<◌}
use native.Mathlib.Omega.{arith}
use lib.ListN.{length}
use borrow.Author.Tests.{ne_eqb, lt-ltb, le-ltb}
use Rattle.code.specs.declared.Refusal.{Refusal}
use Rattle.code.specs.declared.Refusal.TheVariants.{SheetLength, ClassRecord}
use Rattle.code.specs.Definitions.ClassSheets.{ranges_of, refused18, no_classes, taken_classes}
use Rattle.code.specs.Definitions.Sheets.{limits, grid, body, bad_bytes}
use Rattle.code.specs.Laws.Clean.{record_fields}
use Rattle.class_sheet.specs.Records.{taken_records, Answers, refused, accepted}

-- What the answer to the records says
module _ {g : List (List (List ℕ))} {c : List ℕ} where
  pub way_refused : {a : Result Unit Refusal} {r : Refusal} → Answers g c a → a ≡ Err r → no_classes r ≡ taken_records g
  way_refused {r = r} (refused {r = q} e) d = let same : q ≡ r = cc in sym (e ∙ ap no_classes same)
  way_refused (accepted e) d = let z : ◌≡◌ {A = ℕ} 0 1 = cc in absurd (omega arith)

  pub way_accepted : {a : Result Unit Refusal} → Answers g c a → a ≡ Ok tt → record { answer = Ok tt; classes = record { entries = c } } ≡ taken_records g
  way_accepted (refused e) d = let z : ◌≡◌ {A = ℕ} 0 1 = cc in absurd (omega arith)
  way_accepted (accepted e) d = sym e

-- the refusal 1, wrong bytes, and what is left
module _ (s : List ℕ) where
  pub way_empty : length s ≡ 0 → no_classes SheetLength ≡ taken_classes limits s
  unfolding taken_classes
  way_empty h = rw h

  pub way_long : limits.classes < length s → no_classes SheetLength ≡ taken_classes limits s
  unfolding taken_classes
  way_long h = rw (ne_eqb (length s) 0 (λ e. omega arith), lt-ltb limits.classes (length s) h)

  module _ (n : length s ≡ 0 → ⊥) (h : length s ≤ limits.classes) where
    pub way_bytes : bad_bytes false s ≡ true → no_classes ClassRecord ≡ taken_classes limits s
    unfolding taken_classes refused18
    way_bytes b = rw (ne_eqb (length s) 0 n, le-ltb limits.classes (length s) h, b)

    pub way_records : bad_bytes false s ≡ false → taken_records (record_fields (body s)) ≡ taken_classes limits s
    unfolding taken_classes refused18 ranges_of taken_records grid
    way_records b = rw (ne_eqb (length s) 0 n, le-ltb limits.classes (length s) h, b)
