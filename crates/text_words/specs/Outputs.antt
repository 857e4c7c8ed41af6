-- The loop over a text. What is written so far is said by what it does to the output of what is left: put before it, it is the output of the whole text. The output is
-- never longer than twice the bytes passed and one more, and it is only so long right behind a word, where no letter stands.
use Rattle.std.specs.Prelude.{◌≡◌, refl, true, false, List, [], ◌∷◌, ◌++◌, ◌⊎◌, ℕ, suc, ◌+◌, ◌*◌, ◌≤◌, ◌<◌, length, take, drop, get_or, set}
use Rattle.std.proofs.Common.{sym, ◌∙◌, subst, append-nil, append_assoc, inl, inr, add-one, arith, drop_of_length-le, drop-cons, drop-drop}
use Rattle.code.specs.Definitions.Tables.{Table}
use Rattle.code.specs.Definitions.Texts.{is_letter, run, rest, Shows, Splits, end, copied, shown}
use Rattle.text_runs.specs.Runs.{RunOf}
use Rattle.read_sets.specs.Sets.{Lays}
use Rattle.text_syllables.specs.declared.TextWord.{TextWord}
use Rattle.text_syllables.specs.Words.{letters_of, shown_as, Showable}
use Rattle.text_syllables.specs.Shown.{shown_length}
use Rattle.text_theory.specs.Runs.{Apart, letter_apart, rest_apart}
use Rattle.writing.specs.Puts.{Puts, Starts, puts_then, puts_one, puts_none, puts_length, starts}
use Rattle.text_words.specs.Records.{Served, Recorded, kind_shows, record_showable}

-- The output of the text s stands at the start of the buffer.
pub record SplitsInto (t : Table) (classes s b b' : List ℕ) (r : ℕ) : Type 0 where
  pub output : List ℕ
  pub splits : Splits t classes s output
  pub starts : Starts output b b' r

-- The bytes before pos are split: these bytes, and then the output of what is left, are the output of s.
record Until (t : Table) (classes s b b' : List ℕ) (pos to : ℕ) : Type 0 where
  done : List ℕ
  onward : (o : List ℕ) → Splits t classes (drop pos s) o → Splits t classes s (done ++ o)
  puts : Puts 0 done b b' to

module _ (t : Table) (classes s b : List ℕ) where
  until_start : Until t classes s b b 0 0
  until_start = record { done = []; onward = λ o d. d; puts = puts_none 0 b }

  -- the next stretch of the output, q, behind what is written
  until_next : {b' b'' q : List ℕ} {pos to next r : ℕ} → Until t classes s b b' pos to
      → ((o : List ℕ) → Splits t classes (drop next s) o → Splits t classes (drop pos s) (q ++ o)) → Puts to q b' b'' r → Until t classes s b b'' next r
  until_next {q = q} u step p = record {
    done = u.done ++ q;
    onward = λ o d. subst (Splits t classes s) (sym (append_assoc u.done q o)) (u.onward (q ++ o) (step o d));
    puts = puts_then u.puts p;
  }

  other_step : (pos : ℕ) → pos < length s → is_letter classes (get_or s pos 0) ≡ false → (o : List ℕ) → Splits t classes (drop (pos + 1) s) o
      → Splits t classes (drop pos s) ((get_or s pos 0 ∷ []) ++ o)
  other_step pos h l o d = rw (drop-cons s pos 0 h) (copied l (rw add-one at d))

  word_step : (pos k : ℕ) {q : List ℕ} → pos < length s → is_letter classes (get_or s pos 0) ≡ true → RunOf classes (drop pos s) k → Shows t classes (take k (drop pos s)) q
      → (o : List ℕ) → Splits t classes (drop (pos + k) s) o → Splits t classes (drop pos s) (q ++ o)
  word_step pos k {q} h l r p o d =
      let at = drop-cons s pos 0 h in
      let here : Shows t classes (run classes (get_or s pos 0 ∷ drop (suc pos) s)) q = rw (← at, r.is) p in
      let behind : Splits t classes (rest classes (get_or s pos 0 ∷ drop (suc pos) s)) o = rw (← at, r.behind, drop-drop k pos s) d in
      rw at (shown l here behind)

  until_end : {b' : List ℕ} {pos to : ℕ} → length s ≤ pos → to ≤ length b → Until t classes s b b' pos to → SplitsInto t classes s b b' to
  until_end {pos = pos} {to = to} h room u =
      let whole : Splits t classes s (u.done ++ []) = u.onward [] (rw (drop_of_length-le s {i = pos} h) end) in
      record { output = u.done; splits = rw append-nil at whole; starts = starts u.puts (omega (arith, u.puts.end)) }

module _ (having ends rows lengths : List ℕ) (n longest : ℕ) (classes s b : List ℕ) where
  -- The output in every table whose sets these are.
  pub record SplitsBySets (b' : List ℕ) (r : ℕ) : Type 0 where
    pub all : (t : Table) → Lays t having ends rows lengths n longest → SplitsInto t classes s b b' r

  -- The loop's state
  pub record Going (b' : List ℕ) (pos to : ℕ) : Type 0 where
    pub within : pos ≤ length s
    pub bound : to ≤ 2 * pos + 1
    pub even : Apart classes (drop pos s) ⊎ (to ≤ 2 * pos)
    pub long : length b' ≡ length b
    all : (t : Table) → Lays t having ends rows lengths n longest → Until t classes s b b' pos to

  pub going_start : Going b 0 0
  going_start = record { within = omega arith; bound = omega arith; even = inr (omega arith); long = refl; all = λ t l. until_start t classes s b }

  module _ {b' : List ℕ} {pos to : ℕ} (g : Going b' pos to) (h : pos < length s) where
    -- Before a letter the output is at most twice the bytes passed.
    pub going_even : is_letter classes (get_or s pos 0) ≡ true → to ≤ 2 * pos
    going_even l = by g.even
      where
        by : Apart classes (drop pos s) ⊎ (to ≤ 2 * pos) → to ≤ 2 * pos
        by (inl a) = absurd (letter_apart classes l (rw (drop-cons s pos 0 h) at a))
        by (inr e) = e

    pub going_other : is_letter classes (get_or s pos 0) ≡ false → Going (set b' to (get_or s pos 0)) (pos + 1) (to + 1)
    going_other l =
        let p = puts_one to (get_or s pos 0) b' in
        record {
          within = omega arith;
          bound = omega (arith, g.bound);
          even = inr (omega (arith, g.bound));
          long = puts_length p ∙ g.long;
          all = λ t lays. until_next t classes s b (g.all t lays) (other_step t classes s b pos h l) p;
        }

    module _ (l : is_letter classes (get_or s pos 0) ≡ true) {f : List ℕ} {w : TextWord} (served : Served having ends rows lengths n longest)
        (r : Recorded having ends rows lengths n longest classes s pos f w) where
      pub word_showable : Showable w lengths f s
      word_showable = record_showable r served h l

      pub word_room : 2 * length s + 1 ≤ length b → to + 2 * w.length + 1 ≤ length b'
      word_room room = omega (arith, going_even l, word_showable.within, r.place, g.long)

      pub word_end : pos + w.length ≤ length s
      word_end = omega (arith, word_showable.within, r.place)

      pub going_word : {b'' : List ℕ} {q : ℕ} → Puts to (shown_as lengths f w.kind (letters_of s w)) b' b'' q → Going b'' (pos + w.length) q
      going_word p =
          record {
            within = word_end;
            bound = omega (arith, going_even l, p.end, shown_length word_showable);
            even = inl (rw (drop-drop w.length pos s) at (rw r.run_of.behind at (rest_apart classes (drop pos s))));
            long = puts_length p ∙ g.long;
            all = λ t lays. until_next t classes s b (g.all t lays) (word_step t classes s b pos w.length h l r.run_of (shows t lays)) p;
          }
        where
          shows : (t : Table) → Lays t having ends rows lengths n longest → Shows t classes (take w.length (drop pos s)) (shown_as lengths f w.kind (letters_of s w))
          shows t lays =
              subst (λ (k : ℕ). Shows t classes (take w.length (drop k s)) (shown_as lengths f w.kind (letters_of s w))) r.place
              (kind_shows lays classes (letters_of s w) (r.kind t lays))

  pub going_end : {b' : List ℕ} {pos to : ℕ} → 2 * length s + 1 ≤ length b → length s ≤ pos → Going b' pos to → SplitsBySets b' to
  going_end room h g = record { all = λ t lays. until_end t classes s b h (omega (arith, g.bound, g.within)) (g.all t lays) }
