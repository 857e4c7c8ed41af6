-- The loop over the letters that a text begins with: all of the first i bytes are letters, and their symbols are laid.
use Rattle.std.specs.Prelude.{◌≡◌, refl, true, List, ℕ, ◌+◌, ◌≤◌, ◌<◌, length, take, drop, get_or, set}
use Rattle.std.proofs.Common.{sym, ap, ◌∙◌, zero-add, arith, lt-ltb, le-ltb, take-append-drop, drop_of_length-le, length-take-le, get_or-take, drop-cons}
use Rattle.std.proofs.Math.Decide.{dec_lt}
use Rattle.std.proofs.lemmas.List.{length-map}
use Rattle.std.proofs.lemmas.List.Edits.{sets}
use Rattle.std.proofs.Math.Seq.{length-sets}
use Rattle.code.specs.Definitions.Lists.{every}
use Rattle.code.specs.Definitions.Operations.{written}
use Rattle.code.specs.Definitions.Texts.{other, class_of, is_letter, run, rest, symbols_in}
use Rattle.code.specs.Laws.Lists.{every_all, map_at}
use Rattle.copying.specs.Runs.{sets_next, sets_front}
use Rattle.text_theory.specs.Runs as Runs
use Rattle.text_theory.specs.Runs.{Apart, run_until}
use Rattle.text_theory.specs.Syllables.{map-take}

module _ (classes s : List ℕ) where
  -- The text s begins with a run of n letters.
  pub record RunOf (n : ℕ) : Type 0 where
    pub within : n ≤ length s
    pub is : run classes s ≡ take n s
    pub behind : rest classes s ≡ drop n s

  -- It does, and their symbols stand at the start of the message buffer.
  pub record LaysRun (m m' : List ℕ) (n : ℕ) : Type 0 where
    pub run_of : RunOf n
    pub laid : m' ≡ written (symbols_in classes (take n s)) m

  -- The loop's state
  pub record Laying (m m' : List ℕ) (i : ℕ) : Type 0 where
    pub within : i ≤ length s
    pub letters : (k : ℕ) → k < i → is_letter classes (get_or s k 0) ≡ true
    pub laid : m' ≡ sets m 0 (take i (symbols_in classes s))

  pub laying_none : (m : List ℕ) → Laying m m 0
  laying_none m = record { within = omega arith; letters = λ k h. absurd (omega arith); laid = refl }

  module _ {m m' : List ℕ} {i : ℕ} (l : Laying m m' i) where
    pub laying_length : length m' ≡ length m
    laying_length = ap length l.laid ∙ length-sets m 0 (take i (symbols_in classes s))

    pub laying_more : {c : ℕ} → i < length s → c ≡ class_of classes (get_or s i 0) → c < other → Laying m (set m' i c) (i + 1)
    laying_more {c} h e low = record {
      within = omega arith;
      letters = λ k less. by k less (dec_lt k i);
      laid = rw (l.laid, symbol) (simp zero-add at (sets_next (symbols_in classes s) m 0 i 0 (omega (arith, length-map s (class_of classes)))));
    }
      where
        symbol : c ≡ get_or (symbols_in classes s) i 0
        symbol = e ∙ sym (map_at (class_of classes) s i 0 0 h)

        by : (k : ℕ) → k < i + 1 → Dec (k < i) → is_letter classes (get_or s k 0) ≡ true
        by k less (yes b) = l.letters k b
        by k less (no b) = let same : k ≡ i = omega arith in rw (same, ← e) (lt-ltb c other low)

    all_letters : every (is_letter classes) (take i s) ≡ true
    all_letters =
        let long = length-take-le i s l.within in
        every_all (is_letter classes) (take i s) 0 (λ k h. rw (get_or-take i s k 0 (omega (arith, long))) (l.letters k (omega (arith, long))))

    laid_run : length s ≤ length m → Apart classes (drop i s) → LaysRun m m' i
    laid_run room a =
        let u = run_until classes (take i s) (drop i s) all_letters a in
        let whole = take-append-drop i s in
        let symbols = length-take-le i (symbols_in classes s) (omega (arith, l.within, length-map s (class_of classes))) in
        record {
          run_of = record { within = l.within; is = rw whole at u.0; behind = rw whole at u.1 };
          laid = l.laid ∙ sets_front (take i (symbols_in classes s)) m (omega (arith, symbols, l.within)) ∙ ap (λ (x : List ℕ). written x m) (sym (map-take (class_of classes) i s));
        }

    -- The run ends at another byte, or with the text.
    pub run_stops : {c : ℕ} → length s ≤ length m → i < length s → c ≡ class_of classes (get_or s i 0) → other ≤ c → LaysRun m m' i
    run_stops {c} room h e high = laid_run room (rw (drop-cons s i 0 h) (Runs.other {a = get_or s i 0} (rw (← e) (le-ltb c other high))))

    pub run_ends : length s ≤ length m → length s ≤ i → LaysRun m m' (length s)
    run_ends room h =
        let all : i ≡ length s = omega (arith, l.within) in
        rw all at (laid_run room (rw (drop_of_length-le s h) Runs.none))

pub ruleset laying_steps = (laying_none, laying_length, laying_more)
