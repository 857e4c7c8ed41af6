-- Records and fields are accepted exactly where none of the refusals 3 to 7 and 15 holds of them.
use Rattle.std.specs.Prelude.{◌≡◌, refl, Bool, true, false, List, ℕ, if◌then◌else◌, Err, Ok}
use Rattle.std.proofs.Common.{arith}
use Rattle.code.specs.declared.Limits.{Limits}
use Rattle.code.specs.declared.Refusal.{Refusal}
use Rattle.code.specs.declared.Refusal.TheVariants.{RecordCount, WordLength, CodeLength, FieldCount, RowEntry, StartField}
use Rattle.code.specs.declared.Taken.{Taken}
use Rattle.code.specs.Definitions.Sheets.{code_of, refused3, refused4, refused5, refused6, refused7, refused15, refused_by, taken_grid}

module _ (l : Limits) where
  -- a test that does not refuse what is accepted
  pub passed : (t : Bool) (r : Refusal) (u : Taken) → (if t then refused_by l r else u).answer ≡ Ok tt → (t ≡ false) × (u.answer ≡ Ok tt)
  passed true r u e =
      let answers : Err r ≡ Ok tt = e in
      let none : ◌≡◌ {A = ℕ} 0 1 = cc answers in
      absurd (omega arith)
  passed false r u e = (refl, e)

  module _ (g : List (List (List ℕ))) where
    pub record Fits : Type 0 where
      pub records : refused3 l g ≡ false
      pub words : refused4 l g ≡ false
      pub symbols : refused5 l g ≡ false
      pub widths : refused6 g ≡ false
      pub entries : refused7 g ≡ false
      pub starts : refused15 g ≡ false

    pub fits : (taken_grid l g).answer ≡ Ok tt → Fits
    unfolding taken_grid
    fits e =
        let p3 = passed (refused3 l g) RecordCount _ e in
        let p4 = passed (refused4 l g) WordLength _ p3.1 in
        let p5 = passed (refused5 l g) CodeLength _ p4.1 in
        let p6 = passed (refused6 g) FieldCount _ p5.1 in
        let p7 = passed (refused7 g) RowEntry _ p6.1 in
        let p15 = passed (refused15 g) StartField _ p7.1 in
        record { records = p3.0; words = p4.0; symbols = p5.0; widths = p6.0; entries = p7.0; starts = p15.0 }

    pub fits_taken : Fits → taken_grid l g ≡ record { answer = Ok tt; code = code_of l g }
    unfolding taken_grid
    fits_taken f = rw (f.records, f.words, f.symbols, f.widths, f.entries, f.starts)
