-- The output of splitting is the text with signs put in, and no letter is lost.
use Rattle.std.specs.Prelude.{◌≡◌, true, false, List, [], ◌∷◌, ◌++◌, ℕ, length, take, drop}
use Rattle.std.proofs.Math.Path.{refl}
use Rattle.std.proofs.Common.{append-nil, arith, take-append-drop}
use Rattle.code.specs.Definitions.Lists.{any, sum, join}
use Rattle.code.specs.Definitions.Tables.{Table}
use Rattle.code.specs.Definitions.Texts.{is_letter, syllable_break, syllables, lengths_of, Shows, split, none, several, Splits, end, copied, shown}
use Rattle.text_theory.specs.Runs.{run-rest}
use Rattle.text_theory.specs.Syllables.{behind_first, reads_length}
use Rattle.text_theory.specs.Signs.{is_sign, WithSigns, nothing, kept, put, those, signs_those}

signs_same : (s : List ℕ) → WithSigns s s
signs_same [] = nothing
signs_same (a ∷ s) = kept (signs_same s)

signs_append : {s o u v : List ℕ} → WithSigns s o → WithSigns u v → WithSigns (s ++ u) (o ++ v)
signs_append nothing e = e
signs_append (kept d) e = kept (signs_append d e)
signs_append (put h d) e = put h (signs_append d e)

none_left : (w : List ℕ) → length w ≡ 0 → WithSigns w []
none_left [] e = nothing
none_left (a ∷ w) e = absurd (omega arith)

-- Syllables that make up a word, with B7 between them, are the word with B7 put in.
joined_signs : (l w : List ℕ) → length w ≡ sum l → WithSigns w (join (syllable_break ∷ []) (syllables l w))
unfolding join syllables sum any
joined_signs [] w e = none_left w e
joined_signs (n ∷ []) w e =
    rw (take-append-drop n w) at (rw append-nil at (signs_append (signs_same (take n w)) (none_left (drop n w) (behind_first n [] w e))))
joined_signs (n ∷ k ∷ l) w e =
    rw (take-append-drop n w) at
    (signs_append (signs_same (take n w)) (put {b = syllable_break} refl (joined_signs (k ∷ l) (drop n w) (behind_first n (k ∷ l) w e))))

bracketed_signs : (a b : ℕ) (w : List ℕ) → is_sign a ≡ true → is_sign b ≡ true → WithSigns w (a ∷ (w ++ (b ∷ [])))
bracketed_signs a b w h k = put h (rw append-nil at (signs_append (signs_same w) (put {b = b} k nothing)))

module _ {t : Table} {classes : List ℕ} where
  shows_signs : {w p : List ℕ} → Shows t classes w p → WithSigns w p
  unfolding any
  shows_signs {w} (split {r} o) = joined_signs (lengths_of t r) w (reads_length t classes w o.reads)
  shows_signs {w} (none n) = bracketed_signs 40 41 w refl refl
  shows_signs {w} (several n) = bracketed_signs 91 93 w refl refl

  -- The output is the text with signs put in.
  pub splits_signs : {s o : List ℕ} → Splits t classes s o → WithSigns s o
  splits_signs end = nothing
  splits_signs (copied h d) = kept (splits_signs d)
  splits_signs (shown {a} {s} h p d) = rw (run-rest classes (a ∷ s)) at (signs_append (shows_signs p) (splits_signs d))

-- 02, request 4: "Every input letter stands in the output once, in order", where no sign is a letter.
pub splits_letters : {t : Table} {classes : List ℕ} → ((b : ℕ) → is_sign b ≡ true → is_letter classes b ≡ false) → {s o : List ℕ} → Splits t classes s o
    → those (is_letter classes) o ≡ those (is_letter classes) s
splits_letters {classes = classes} m d = signs_those (is_letter classes) m (splits_signs d)
