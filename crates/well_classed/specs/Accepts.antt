-- A class sheet gives classes exactly where none of the refusals 1 and 18 to 20 holds of it and its ranges give the classes.
use Rattle.std.specs.Prelude.{◌≡◌, Bool, true, false, List, ℕ, if◌then◌else◌, Err, Ok}
use Rattle.std.proofs.Math.Path.{refl, ap}
use Rattle.std.proofs.Common.{sym, ◌∙◌, arith}
use Rattle.code.specs.declared.Classes.{Classes}
use Rattle.code.specs.declared.Limits.{Limits}
use Rattle.code.specs.declared.Refusal.{Refusal}
use Rattle.code.specs.declared.Refusal.TheVariants.{SheetLength, ClassRecord, ClassRange, ClassOverlap}
use Rattle.code.specs.declared.TakenClasses.{TakenClasses}
use Rattle.code.specs.Definitions.Sheets.{wrong_length}
use Rattle.code.specs.Definitions.ClassSheets.{ranges_of, refused18, refused19, refused20, classes_of, no_classes, taken_classes}

-- a test that does not refuse what is accepted
passed : (t : Bool) (r : Refusal) (u : TakenClasses) → (if t then no_classes r else u).answer ≡ Ok tt → (t ≡ false) × (u.answer ≡ Ok tt)
passed true r u e =
    let answers : Err r ≡ Ok tt = e in
    let none : ◌≡◌ {A = ℕ} 0 1 = cc answers in
    absurd (omega arith)
passed false r u e = (refl, e)

module _ (l : Limits) (s : List ℕ) where
  pub record Accepts (c : Classes) : Type 0 where
    pub size : wrong_length l.classes s ≡ false
    pub records : refused18 s ≡ false
    pub upright : refused19 (ranges_of s) ≡ false
    pub once : refused20 (ranges_of s) ≡ false
    pub gives : classes_of (ranges_of s) ≡ c

  pub accepted : {c : Classes} → Accepts c → taken_classes l s ≡ record { answer = Ok tt; classes = c }
  unfolding taken_classes
  accepted a = rw (a.size, a.records, a.upright, a.once, a.gives)

  pub accepts : {c : Classes} → taken_classes l s ≡ record { answer = Ok tt; classes = c } → Accepts c
  unfolding taken_classes
  accepts e =
      let p1 = passed (wrong_length l.classes s) SheetLength _ (ap (λ (t : TakenClasses). t.answer) e) in
      let p18 = passed (refused18 s) ClassRecord _ p1.1 in
      let p19 = passed (refused19 (ranges_of s)) ClassRange _ p18.1 in
      let p20 = passed (refused20 (ranges_of s)) ClassOverlap _ p19.1 in
      let same = accepted record { size = p1.0; records = p18.0; upright = p19.0; once = p20.0; gives = refl } in
      record { size = p1.0; records = p18.0; upright = p19.0; once = p20.0; gives = ap (λ (t : TakenClasses). t.classes) (sym same ∙ e) }
