-- How a class sheet is passed record by record, by position.
use Rattle.std.specs.Prelude.{Result}
use Rattle.code.specs.declared.Refusal.{Refusal}
use mathlib.Core.Path.{◌≡◌, sym, ◌∙◌}
use mathlib.Core.Bool.{Bool, true, false, ◌||◌}
use mathlib.Core.List.{List, ◌∷◌}
use Prim.Native.Nat.{ℕ, ◌+◌, ◌-◌, ◌≤◌, ◌<◌}
use native.Mathlib.Omega.{arith}
use lib.Dec.{ltb}
use lib.ListN.{length, drop, replicate}
use Rattle.code.specs.Definitions.ClassSheets.{malformed, different_bytes}
use Rattle.code.specs.Definitions.Lists.{any}
use Rattle.code.specs.Definitions.Texts.{other, signs}
use Rattle.code.specs.Laws.Clean.{Clean, record_fields}
use Rattle.class_records.specs.declared.ByteRange.{ByteRange}
use Rattle.class_records.specs.Ensured.{RangeFrom}
use Rattle.csv_records.specs.Front.{rest_of, rest_within, rest_past}
use Rattle.class_sheet.specs.Filling.{from_to, FilledBy}
use Rattle.class_sheet.specs.Records.{judged, Answers}
use Rattle.class_sheet.proofs.Laws.Sofar.{Sofar, sofar_none, sofar_sign, sofar_next, sofar_ends, refused_18}

-- The next record begins at `at`.
pub record Passed (s c : List ℕ) (upside twice : Bool) (at : ℕ) : Type 0 where
  pub sofar : Sofar (record_fields s) (rest_of s at) c upside twice
  pub clean : at ≤ length s → Clean (drop at s)
  pub within : at ≤ length s + 2

pub passing_starts : (s : List ℕ) {c : List ℕ} → Clean s → c ≡ replicate different_bytes other → Passed s c false false 0
passing_starts s c e = record { sofar = rw (rest_within s 0 (omega arith)) (sofar_none (record_fields s) e); clean = λ h. c; within = omega arith }

-- One record further
module _ {s c : List ℕ} {upside twice : Bool} {at : ℕ} (p : Passed s c upside twice at) where
  -- past the last record
  pub passing_ends : {a : Result Unit Refusal} → length s < at → a ≡ judged false upside twice → Answers (record_fields s) c a
  passing_ends h = sofar_ends (rw (rest_past s at h) at p.sofar)

  pub passing_long : length c ≡ different_bytes
  passing_long = p.sofar.long

  module _ (h : at ≤ length s) where
    pub passing_clean : Clean (drop at s)
    passing_clean = p.clean h

    pub passing_wrong : {b : Result Unit Refusal} → any malformed (record_fields (drop at s)) ≡ true → b ≡ judged true upside twice → Answers (record_fields s) c b
    passing_wrong e =
        let bad : any malformed (rest_of s at) ≡ true = rw (rest_within s at h) e in
        refused_18 (record_fields s) (sym p.sofar.bad ∙ rw bad)

    module _ {r : ByteRange} (here : RangeFrom s at r) where
      sofar_here : Sofar (record_fields s) (here.fields ∷ rest_of s r.next) c upside twice
      sofar_here = rw (rest_within s at h, here.first) at p.sofar

      pub passing_sign : {b : Result Unit Refusal} {t : Bool} → t ≡ any (from_to r.lowest r.highest) signs → t ≡ true → b ≡ judged true upside twice → Answers (record_fields s) c b
      passing_sign q y = refused_18 (record_fields s) (sofar_sign sofar_here r.lowest r.highest r.symbol here.same (sym q ∙ y))

      pub passing_less : length s + 2 - r.next < length s + 2 - at
      passing_less = omega (arith, here.long, here.within)

      pub passing_on : {t : Bool} → t ≡ any (from_to r.lowest r.highest) signs → t ≡ false → {m : Bool} {d : List ℕ}
          → FilledBy (from_to r.lowest r.highest) r.symbol c d m → Passed s d (upside || ltb r.highest r.lowest) (twice || m) r.next
      passing_on q y f =
          record {
            sofar = sofar_next sofar_here r.lowest r.highest r.symbol here.same here.right (sym q ∙ y) here.letter f;
            clean = here.clean;
            within = here.within;
          }
