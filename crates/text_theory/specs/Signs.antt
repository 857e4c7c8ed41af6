-- What splitting adds to a text: B7 and brackets put in, and nothing else. Those that were put in taken away, the text is left; a text may hold such bytes itself,
-- and keeps them. So every letter stands in the output once, in order.
use Rattle.std.specs.Prelude.{◌≡◌, Bool, true, false, List, [], ◌∷◌, ℕ, eqb, if◌then◌else◌}
use Rattle.std.proofs.Math.Path.{refl}
use Rattle.code.specs.Definitions.Lists.{any}
use Rattle.code.specs.Definitions.Texts.{signs}

-- B7 and the four brackets
abbrev pub is_sign : ℕ → Bool
is_sign b = any (eqb b) signs

-- o is s with signs put in.
pub data WithSigns : List ℕ → List ℕ → Type 0 where
  nothing : WithSigns [] []
  kept : {a : ℕ} {s o : List ℕ} → WithSigns s o → WithSigns (a ∷ s) (a ∷ o)
  put : {b : ℕ} {s o : List ℕ} → is_sign b ≡ true → WithSigns s o → WithSigns s (b ∷ o)

-- The bytes of a text that pass a test, in order.
unfoldable pub those : (ℕ → Bool) → List ℕ → List ℕ
those f [] = []
those f (a ∷ s) = if f a then a ∷ those f s else those f s

-- A test that no sign passes finds the same bytes in text and output.
pub signs_those : (f : ℕ → Bool) → ((b : ℕ) → is_sign b ≡ true → f b ≡ false) → {s o : List ℕ} → WithSigns s o → those f o ≡ those f s
unfolding those
signs_those f m nothing = refl
signs_those f m (kept d) = rw (signs_those f m d)
signs_those f m (put {b} h d) = rw (m b h) (signs_those f m d)
