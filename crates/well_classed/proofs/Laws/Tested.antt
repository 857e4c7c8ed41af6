-- The tests of the entries and of the signs, joined as the code joins them, say exactly whether the entries are well-classed.
use mathlib.Core.Path.{◌≡◌, sym, ◌∙◌}
use mathlib.Core.Bool.{Bool, true, false, not, true≢false, false≢true}
use mathlib.Core.List.{List}
use Prim.Native.Nat.{ℕ, ◌≤◌, ◌<◌}
use lib.ListN.{length}
use Rattle.std.specs.Prelude.{◌↔◌}
use borrow.Author.Tests.{not-true, not-false}
use Rattle.code.specs.Definitions.Lists.{any}
use Rattle.code.specs.Definitions.ClassSheets.{different_bytes}
use Rattle.code.specs.Definitions.Texts.{other, class_of, is_letter, signs}
use Rattle.code.specs.Laws.Below.{Some}
use Rattle.code.specs.Laws.Exactly.{Exactly, exactly_iff}
use Rattle.well_classed.specs.WellClassed.{WellClassed}

-- Two tests, of which the second is made where the first holds.
pub exactly_first : {a b : Bool} {P Q : Type 0} → a ≡ true → Exactly a P → Exactly b Q → Exactly b (P × Q)
exactly_first {b = b} e t u = record { yes = λ f. (t.yes e, u.yes f); no = λ f p. u.no f p.1 }

pub exactly_neither : {a : Bool} {P Q : Type 0} → a ≡ false → Exactly a P → Exactly a (P × Q)
exactly_neither e t = record { yes = λ f. absurd (false≢true (sym e ∙ f)); no = λ f p. t.no f p.0 }

exactly_no : (t : Bool) → Exactly (not t) (t ≡ false)
exactly_no t = record { yes = not-true t; no = λ e f. true≢false (sym (not-false t e) ∙ f) }

pub classes_tested : {c : List ℕ} → length c ≡ different_bytes → {t : Bool}
    → Exactly t (((b : ℕ) → b < different_bytes → class_of c b ≤ other) × Some (is_letter c) different_bytes)
    → {v : Bool} → v ≡ any (is_letter c) signs → (t ≡ true → Exactly (not v) (WellClassed c)) × (t ≡ false → Exactly t (WellClassed c))
classes_tested {c} whole {t} entries {v} e = (λ f. exactly_iff join (exactly_first f entries apart), λ f. exactly_iff join (exactly_neither f entries))
  where
    apart : Exactly (not v) (any (is_letter c) signs ≡ false)
    apart = rw e (exactly_no (any (is_letter c) signs))

    join : (((b : ℕ) → b < different_bytes → class_of c b ≤ other) × Some (is_letter c) different_bytes) × (any (is_letter c) signs ≡ false) ↔ WellClassed c
    join = (λ p. record { whole = whole; small = p.0.0; apart = p.1; letter = p.0.1 }, λ w. ((w.small, w.letter), w.apart))
