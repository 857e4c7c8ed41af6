-- A text has one output; where it has no letter, that is the text.
use Rattle.std.specs.Prelude.{◌≡◌, refl, false, ℕ}
use Rattle.std.proofs.Common.{sym, ap, ap₂, ◌∙◌}
use Rattle.std.proofs.lemmas.Bool.{false≢true}
use mathlib.Core.List.{List, [], ◌∷◌, ◌++◌}
use Rattle.code.specs.Definitions.Lists.{any, join}
use Rattle.code.specs.Definitions.Readings.{OnlyReading, TwoReadings}
use Rattle.code.specs.Definitions.Tables.{Table}
use Rattle.code.specs.Definitions.Texts.{is_letter, syllable_break, syllables, lengths_of, Shows, split, none, several, Splits, end, copied, shown}
use Rattle.code.specs.Laws.Lists.{or_neither}
use Rattle.code.specs.Laws.Readings.{only_reading_unique, none_not_only}

only_not_several : {t : Table} {m r : List ℕ} → OnlyReading t m r → TwoReadings t m → ⊥
only_not_several o b = b.differ (o.only b.s b.first ∙ sym (o.only b.u b.second))

module _ {t : Table} {classes : List ℕ} where
  -- A word is shown in one way.
  pub shows_unique : {w p q : List ℕ} → Shows t classes w p → Shows t classes w q → p ≡ q
  shows_unique {w} (split o) (split n) = ap (λ (r : List ℕ). join (syllable_break ∷ []) (syllables (lengths_of t r) w)) (only_reading_unique o n)
  shows_unique (split o) (none n) = absurd (none_not_only n o)
  shows_unique (split o) (several n) = absurd (only_not_several o n)
  shows_unique (none o) (split n) = absurd (none_not_only o n)
  shows_unique (none o) (none n) = refl
  shows_unique (none o) (several n) = absurd (o n.s n.first)
  shows_unique (several o) (split n) = absurd (only_not_several n o)
  shows_unique (several o) (none n) = absurd (n o.s o.first)
  shows_unique (several o) (several n) = refl

  pub splits_unique : {s o u : List ℕ} → Splits t classes s o → Splits t classes s u → o ≡ u
  splits_unique end end = refl
  splits_unique (copied {a} h d) (copied k e) = ap (◌∷◌ a) (splits_unique d e)
  splits_unique (copied h d) (shown k p e) = absurd (false≢true (sym h ∙ k))
  splits_unique (shown h p d) (copied k e) = absurd (false≢true (sym k ∙ h))
  splits_unique (shown h p d) (shown k q e) = ap₂ ◌++◌ (shows_unique p q) (splits_unique d e)

  others_split : (s : List ℕ) → any (is_letter classes) s ≡ false → Splits t classes s s
  unfolding any
  others_split [] h = end
  others_split (a ∷ s) h = let n = or_neither (is_letter classes a) (any (is_letter classes) s) h in copied n.0 (others_split s n.1)

  -- A text without letters comes back as it was.
  pub splits_others : {s o : List ℕ} → any (is_letter classes) s ≡ false → Splits t classes s o → o ≡ s
  splits_others {s} h d = splits_unique d (others_split s h)
