-- The walk of refusal 10. Each entry of a sequence has a number in the plain code: its own at the beginning, and else that of its word after the entry before it. The
-- plain code covers the table of original words, so where these numbers may follow each other, and only there, no pair and no triple is forbidden.
use mathlib.Core.Path.{◌≡◌, refl, sym, ◌∙◌}
use mathlib.Core.Bool.{Bool, true, false, false≢true}
use mathlib.Core.List.{List}
use Prim.Native.Nat.{ℕ, zero, suc, ◌+◌, ◌≤◌, ◌<◌}
use native.Mathlib.Numerals.{add-one}
use native.Mathlib.Omega.{arith}
use lib.ListN.{length, get_or}
use borrow.Author.Count.{below_none, below_more}
use borrow.Author.Tests.{eqb-true, eq-eqb, ne_eqb}
use Rattle.code.specs.declared.Enlarged.{Enlarged}
use Rattle.code.specs.declared.Limits.{Limits}
use Rattle.code.specs.Definitions.Tables.{size, entry_of, table_of}
use Rattle.code.specs.Definitions.Bans.{number_after}
use Rattle.code.specs.Definitions.Enlarged.{copies_in, original_table}
use Rattle.code.specs.Definitions.Operations.{HasForbidden, opening, pair, triple}
use Rattle.well_enlarged.specs.Back.{original_size}
use Rattle.well_enlarged.specs.Meaning.{Covers, value_covers}
use Rattle.code.specs.Laws.Exactly.{Exactly, exactly_true, exactly_false}
use Rattle.code.specs.Laws.Words.{size-count}
use Rattle.encode_permitted.specs.Originals.{Original}

-- the number of the word x after the word y
abbrev pub next_in : Enlarged → ℕ → ℕ → ℕ
next_in e y x = number_after e.originals (copies_in e) y x

-- the number that entry k of s has in the plain code
abbrev pub number_in : Enlarged → List ℕ → ℕ → ℕ
number_in e s zero = get_or s 0 0
number_in e s (suc k) = next_in e (get_or s k 0) (get_or s (suc k) 0)

-- The number of entry k + 1 may come immediately after that of entry k.
abbrev pub ComesAt : Enlarged → List ℕ → ℕ → Type 0
ComesAt e s k = (table_of e.code).follow (number_in e s (suc k)) (number_in e s k) ≡ true

-- The first word may begin.
abbrev pub Opens : Enlarged → List ℕ → Type 0
Opens e s = get_or e.code.begins (get_or s 0 0) 0 ≡ 1

-- The walk has in hand the number of entry i, and found that each number as far as this one may come.
pub record Walked (e : Enlarged) (s : List ℕ) (i last : ℕ) : Type 0 where
  pub within : i < length s
  pub held : last ≡ number_in e s i
  pub come : (k : ℕ) → k < i → ComesAt e s k

-- It begins with the first word itself.
pub walk_begins : {e : Enlarged} {s : List ℕ} → 0 < length s → Walked e s 0 (get_or s 0 0)
walk_begins h = record { within = h; held = refl; come = below_none _ }

module _ (l : Limits) {e : Enlarged} {s : List ℕ} (original : Original l e s) where
  cover : Covers e (original_table e)
  cover = value_covers original.well

  entry_known : (k : ℕ) → k < length s → get_or s k 0 < size (original_table e)
  entry_known k h = rw (original_size original.well) (original.known k h)

  number_known : (k : ℕ) → k < length s → number_in e s k < size (table_of e.code)
  number_known zero h = cover.start_known (get_or s 0 0) (entry_known 0 h)
  number_known (suc k) h = cover.after_known (get_or s k 0) (get_or s (suc k) 0) (entry_known k (omega arith)) (entry_known (suc k) h)

  number_named : (k : ℕ) → k < length s → get_or e.origins (number_in e s k) 0 ≡ get_or s k 0
  number_named zero h = cover.start_named (get_or s 0 0) (entry_known 0 h)
  number_named (suc k) h = cover.after_named (get_or s k 0) (get_or s (suc k) 0) (entry_known k (omega arith)) (entry_known (suc k) h)

  -- The numbers stand within the arrays.
  pub number_low : (k : ℕ) → k < length s → number_in e s k < l.words
  number_low k h = omega (arith, number_known k h, size-count original.well.code, original.well.code.most)

  -- Where a number may not come after the one before it, a pair or a triple is forbidden,

  second_forbidden : 1 < length s → (ComesAt e s 0 → ⊥) → (a : Bool) → (original_table e).follow (get_or s 1 0) (get_or s 0 0) ≡ a → HasForbidden (original_table e) s
  second_forbidden h n true f = absurd (n (cover.follows_start (get_or s 0 0) (get_or s 1 0) (entry_known 0 (omega arith)) (entry_known 1 h) f))
  second_forbidden h n false f = pair 0 h f

  later_forbidden : (k : ℕ) → suc (suc k) < length s → (ComesAt e s (suc k) → ⊥)
      → (a b : Bool) → (original_table e).follow (get_or s (suc (suc k)) 0) (get_or s (suc k) 0) ≡ a
      → (original_table e).banned (get_or s (suc (suc k)) 0) (get_or s k 0) (get_or s (suc k) 0) ≡ b → HasForbidden (original_table e) s
  later_forbidden k h n true true f g =
      let two : k + 2 ≡ suc (suc k) = omega arith in
      triple k (omega arith) (rw (two, add-one) g)
  later_forbidden k h n true false f g =
      absurd (n (cover.follows (get_or s k 0) (get_or s (suc k) 0) (get_or s (suc (suc k)) 0) (entry_known k (omega arith)) (entry_known (suc k) (omega arith)) (entry_known (suc (suc k)) h) f g))
  later_forbidden k h n false b f g = pair (suc k) (omega arith) (rw add-one f)

  comes_not : (k : ℕ) → suc k < length s → (ComesAt e s k → ⊥) → HasForbidden (original_table e) s
  comes_not zero h n = second_forbidden h n _ refl
  comes_not (suc k) h n = later_forbidden k h n _ _ refl refl

  -- and where each may, none is.
  none_forbidden : Opens e s → ((k : ℕ) → suc k < length s → ComesAt e s k) → HasForbidden (original_table e) s → ⊥
  none_forbidden o comes (opening h f) = false≢true (sym f ∙ eq-eqb _ _ o)
  none_forbidden o comes (pair k h f) =
      let i : suc k < length s = omega arith in
      let named = cover.follow_named (number_in e s (suc k)) (number_in e s k) (number_known (suc k) i) (number_known k (omega arith)) (comes k i) in
      false≢true (sym f ∙ rw add-one (rw (number_named (suc k) i, number_named k (omega arith)) at named))
  none_forbidden o comes (triple k h f) =
      let i : suc (suc k) < length s = omega arith in
      let two : k + 2 ≡ suc (suc k) = omega arith in
      let obeys = cover.follow_obeys (get_or s k 0) (get_or s (suc k) 0) (number_in e s (suc (suc k))) (entry_known k (omega arith)) (entry_known (suc k) (omega arith)) (number_known (suc (suc k)) i) (comes (suc k) i) in
      false≢true (sym (rw (two, add-one) (rw (number_named (suc (suc k)) i) at obeys)) ∙ f)

  -- The ways through the walk

  pub forbidden_empty : length s ≡ 0 → Exactly false (HasForbidden (original_table e) s)
  forbidden_empty none = exactly_false never
    where
      never : HasForbidden (original_table e) s → ⊥
      never (opening h f) = omega arith
      never (pair k h f) = omega arith
      never (triple k h f) = omega arith

  pub forbidden_opening : 0 < length s → (Opens e s → ⊥) → Exactly true (HasForbidden (original_table e) s)
  forbidden_opening h n = exactly_true (opening h (ne_eqb _ _ n))

  module _ {i last : ℕ} (walked : Walked e s i last) where
    pub held_low : last < l.words
    held_low = rw walked.held (number_low i walked.within)

    module _ {next : ℕ} (more : i + 1 < length s) (is-next : next ≡ next_in e (get_or s i 0) (get_or s (i + 1) 0)) where
      pub next_low : next < l.words
      next_low = rw (is-next, add-one) (number_low (suc i) (rw add-one at more))

      same_entry : (table_of e.code).follow (number_in e s (suc i)) (number_in e s i) ≡ (table_of e.code).follow next last
      same_entry = rw (is-next, walked.held, add-one)

      pub forbidden_here : (entry_of e.code next last ≡ 1 → ⊥) → Exactly true (HasForbidden (original_table e) s)
      forbidden_here n = exactly_true (comes_not i (omega arith) (λ f. n (eqb-true _ _ (sym same_entry ∙ f))))

      -- one entry more
      pub walked_on : entry_of e.code next last ≡ 1 → Walked e s (i + 1) next
      walked_on f = record {
        within = more;
        held = rw add-one (rw add-one at is-next);
        come = below_more (ComesAt e s) i walked.come (same_entry ∙ eq-eqb _ _ f);
      }

    pub forbidden_nowhere : Opens e s → length s ≤ i + 1 → Exactly false (HasForbidden (original_table e) s)
    forbidden_nowhere o h = exactly_false (none_forbidden o (λ k j. walked.come k (omega arith)))
