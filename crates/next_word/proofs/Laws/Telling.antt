-- The word that the first symbols of a message tell in a plain code: a lemma for each way through the functions.
use mathlib.Core.Path.{◌≡◌, refl, sym, ap, ◌∙◌}
use mathlib.Core.Bool.{Bool, true, false, true≢false}
use mathlib.Core.List.{List, [], ◌∷◌, ◌++◌, append-nil}
use mathlib.Core.Logic.{◌↔◌}
use Prim.Native.Nat.{ℕ, ◌+◌, ◌≤◌, ◌<◌}
use native.Mathlib.Omega.{arith}
use Rattle.std.proofs.Common.{Option, None, Some}
use lib.ListN.{length, take, drop, length-take, take-append-drop}
use lib.Seq.{take_at}
use Rattle.code.specs.Definitions.NextWords.{NextWord}
use Rattle.code.specs.Definitions.Tables.{Table, size, message}
use Rattle.code.proofs.Laws.NextWords.{next_none, next_known}
use Rattle.code.specs.Laws.Sequences.{shorter_whole}
use Rattle.read_sets.specs.Sets.{SetsOf, Lays}
use Rattle.read_marks.specs.Message.{symbols_at, text}
use Rattle.read_marks.specs.Marks.{Marked, MarksAll}
use Rattle.read_choices.specs.Choices.{Asks, Sought, Tells, tells_where, sought_lowest}
use Rattle.code.specs.Laws.Exactly.{exactly_on}
use Rattle.next_word.specs.Picked.{Picked, PickedBySets}
use Rattle.next_word.specs.Prefixes.{Opens, opens_there, opens_back}

picked_iff : {P Q : ℕ → Type 0} {n : ℕ} (o : Option ℕ) → ((x : ℕ) → x < n → P x ↔ Q x) → Picked P n o → Picked Q n o
picked_iff None i f = λ x h q. f x h ((i x h).1 q)
picked_iff (Some x) i f = (f.0, (i x f.0).0 f.1)

-- The marks of the first position tell the words that open a reading of the symbols.
module _ {having ends rows lengths : List ℕ} {n longest : ℕ} (cut : Bool) (w : List ℕ) {work : List ℕ} (sets : SetsOf having ends rows lengths n longest)
    (marks : MarksAll having ends rows longest (symbols_at cut w) work) where
  marked : Marked (text having rows lengths n (symbols_at cut w)) n work 0
  marked = marks.each lengths n sets

  pub marks_asked : {y : ℕ} → y ≤ n → length work ≡ length w + 1 → Asks work rows n 0 y
  marks_asked l h = record { small = sets.shaped.small; rowed = sets.shaped.rowed; room = omega arith; bound = marked.bound 0 (omega arith); last = omega arith }

  tells : Tells (text having rows lengths n (symbols_at cut w)) work rows n 0
  tells = tells_where lengths (λ x k e. (marked.is 0 x (omega arith) (omega (arith, sets.shaped.small))).yes e)
      (λ x b. exactly_on (marked.is 0 x (omega arith) (omega (arith, sets.shaped.small, b.here.0))) b)

  pub sought_picked : (o : Option ℕ) → 0 < length w → Sought work rows n 0 n 0 o → PickedBySets having ends rows lengths n longest cut w o
  sought_picked None some s = record {
    each = λ t l x k p. true≢false (sym (tells.uses n x (opens_back l cut w some p)) ∙ s x (omega arith) k);
  }
  sought_picked (Some x) some s = record { each = λ t l. (s.known, opens_there l cut w (sought_lowest tells s).opens) }

pub picked_laid : {t : Table} {having ends rows lengths : List ℕ} {n longest : ℕ} {cut : Bool} {w : List ℕ} {o : Option ℕ} → Lays t having ends rows lengths n longest
    → PickedBySets having ends rows lengths n longest cut w o → Picked (Opens t cut w) n o
picked_laid {t} l f = f.each t l

-- From the first symbols to the message.
module _ (t : Table) (N : ℕ) (m : List ℕ) where
  -- The message goes on: the first N symbols begin that of the sequence.
  goes_on : N ≤ length m → (x : ℕ) → Opens t true (take N m) x ↔ NextWord t N m x
  goes_on h x = (
    (λ o. record {
      s = o.s;
      permitted = o.permitted;
      share = ap (take N) o.joined ∙ take_at (take N m) o.past N (simp length-take (omega arith));
    }),
    (λ a. record {
      s = a.s;
      permitted = a.permitted;
      past = drop N (message t (x ∷ a.s));
      joined = sym (take-append-drop N (message t (x ∷ a.s))) ∙ ap (λ (z : List ℕ). z ++ drop N (message t (x ∷ a.s))) a.share;
      ends = λ q. absurd (true≢false q);
    }),
  )

  -- The message ends before: it is that of the sequence.
  ends_before : length m < N → (x : ℕ) → Opens t false m x ↔ NextWord t N m x
  ends_before h x = (
    (λ o. record {
      s = o.s;
      permitted = o.permitted;
      share = ap (take N) (o.joined ∙ ap (◌++◌ m) (o.ends refl) ∙ append-nil m);
    }),
    (λ a. record {
      s = a.s;
      permitted = a.permitted;
      past = [];
      joined = sym (shorter_whole N m (message t (x ∷ a.s)) (sym a.share) (λ k. omega arith)) ∙ sym (append-nil m);
      ends = λ q. refl;
    }),
  )

  module _ (n : ℕ) (o : Option ℕ) where
    pub told_cut : N ≤ length m → Picked (Opens t true (take N m)) n o → Picked (NextWord t N m) n o
    told_cut h f = picked_iff o (λ x k. goes_on h x) f

    pub told_whole : length m < N → Picked (Opens t false m) n o → Picked (NextWord t N m) n o
    told_whole h f = picked_iff o (λ x k. ends_before h x) f

    -- With delay 0 no symbol is looked at.
    pub told_first : size t ≡ n → N ≡ 0 → Picked (λ x. t.begins x ≡ true) n o → Picked (NextWord t N m) n o
    told_first count e f = rw e (picked_iff o (λ x k. ((λ b. next_none.1 (omega arith, b)), (λ a. (next_known a).1))) f)
