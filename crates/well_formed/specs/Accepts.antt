-- A sheet gives a table exactly where none of the refusals 1 to 7 and 15 holds of it and its fields hold the table.
use Rattle.std.specs.Prelude.{◌≡◌, List, ℕ, Ok}
use Rattle.std.proofs.Math.Path.{refl, ap}
use Rattle.std.proofs.Common.{sym, ◌∙◌}
use Rattle.std.proofs.Math.Bool.{false}
use Rattle.code.specs.declared.Code.{Code}
use Rattle.code.specs.declared.Limits.{Limits}
use Rattle.code.specs.declared.Refusal.TheVariants.{SheetLength, SheetBytes}
use Rattle.code.specs.declared.Taken.{Taken}
use Rattle.code.specs.Definitions.Sheets.{grid, bad_bytes, code_of, refused1, taken}
use Rattle.code.specs.Laws.Fits.{passed, Fits, fits, fits_taken}

module _ (l : Limits) (s : List ℕ) where
  pub record Accepts (c : Code) : Type 0 where
    pub size : refused1 l s ≡ false
    pub bytes : bad_bytes false s ≡ false
    pub records : Fits l (grid s)
    pub gives : code_of l (grid s) ≡ c

  pub accepted : {c : Code} → Accepts c → taken l s ≡ record { answer = Ok tt; code = c }
  unfolding taken
  accepted a = rw (a.size, a.bytes, fits_taken l (grid s) a.records, a.gives)

  pub accepts : {c : Code} → taken l s ≡ record { answer = Ok tt; code = c } → Accepts c
  unfolding taken
  accepts e =
      let p1 = passed l (refused1 l s) SheetLength _ (ap (λ (t : Taken). t.answer) e) in
      let p2 = passed l (bad_bytes false s) SheetBytes _ p1.1 in
      let f = fits l (grid s) p2.1 in
      let same = accepted record { size = p1.0; bytes = p2.0; records = f; gives = refl } in
      record { size = p1.0; bytes = p2.0; records = f; gives = ap (λ (t : Taken). t.code) (sym same ∙ e) }
