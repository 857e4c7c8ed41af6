-- What a test says of no sign it does not say of one of them: so no sign is a letter of well-classed entries.
use Rattle.std.specs.Prelude.{◌≡◌, Bool, true, false, ℕ, eqb}
use Rattle.std.proofs.Math.Path.{refl}
use Rattle.std.proofs.lemmas.Bool.{false≢true}
use mathlib.Core.List.{List, [], ◌∷◌}
use Rattle.std.proofs.Common.{eqb-true}
use Rattle.code.specs.Definitions.Lists.{any}
use Rattle.code.specs.Definitions.Texts.{is_letter, signs}
use Rattle.code.specs.Laws.Lists.{or_neither}
use Rattle.text_theory.specs.Signs.{is_sign}
use Rattle.well_classed.specs.WellClassed.{WellClassed}

module _ (p : ℕ → Bool) (b : ℕ) where
  here_or_later : (a : ℕ) (t : Bool) → eqb b a ≡ t → p a ≡ false → (t ≡ false → p b ≡ false) → p b ≡ false
  here_or_later a true e here later = rw (eqb-true b a e) here
  here_or_later a false e here later = later refl

  pub none_of : (l : List ℕ) → any p l ≡ false → any (eqb b) l ≡ true → p b ≡ false
  unfolding any
  none_of [] e m = absurd (false≢true m)
  none_of (a ∷ l) e m =
      let parts = or_neither (p a) (any p l) e in
      here_or_later a (eqb b a) refl parts.0 (λ q. none_of l parts.1 (rw q at m))

pub signs_no_letters : {c : List ℕ} → WellClassed c → (b : ℕ) → is_sign b ≡ true → is_letter c b ≡ false
signs_no_letters {c} w b = none_of (is_letter c) b signs w.apart
