-- Every table with bans is covered: with a copy of each word after each word. So whether two sequences share their first N symbols behind an opening can be
-- decided for tables with bans too.
use Rattle.std.specs.Prelude.{◌≡◌, refl, true, ◌||◌, List, [], ◌∷◌, ℕ, zero, suc, ◌≤◌, ◌<◌, length}
use Rattle.std.proofs.Common.{sym, subst, arith, eq-eqb}
use Rattle.std.proofs.Math.Decide.{map_dec, ℕ_discrete}
use Rattle.code.specs.Definitions.Lists.{any}
use Rattle.code.specs.Definitions.Tables.{Table, size}
use Rattle.code.specs.Definitions.Bans.{Ban, Copy, is_ban, banned_by, copies_of, origin, number_after, enlarged}
use Rattle.code.specs.Definitions.Delays.{SharePrefix}
use Rattle.code.specs.Laws.Below.{or_left, or_right}
use Rattle.code.specs.Laws.Sequences.{NonEmpty, Plain}
use Rattle.code.proofs.Laws.Sharing.{decide_share}
use Rattle.ban_theory.specs.Covers.{Cover}
use Rattle.ban_theory.specs.Matches.{named_share, lifted_share}
use Rattle.ban_theory.specs.Copies.{Serves, enlarged_covers}
use Rattle.ban_theory.specs.BanLists.{Known, no_ban, ban, once_none, copies_once, ban_served}

abbrev zero_ban : ℕ → ℕ → Ban
zero_ban y z = record { x = 0; y = y; z = z }

-- for the word z, a ban after each of the words below k, before others
abbrev column : ℕ → ℕ → List Ban → List Ban
column z zero l = l
column z (suc k) l = zero_ban k z ∷ column z k l

-- the same for each z below m, of n words
abbrev square : ℕ → ℕ → List Ban
square n zero = []
square n (suc m) = column m n (square n m)

column_known : (n z k : ℕ) (l : List Ban) → z < n → k ≤ n → Known n l → Known n (column z k l)
column_known n z zero l h k p = p
column_known n z (suc j) l h k p = ban {b = zero_ban j z} (omega arith) (omega arith) h (column_known n z j l h (omega arith) p)

square_known : (n m : ℕ) → m ≤ n → Known n (square n m)
square_known n zero h = no_ban
square_known n (suc m) h = column_known n m n (square n m) (omega arith) (omega arith) (square_known n m (omega arith))

is_ban_lem : (y z : ℕ) → is_ban 0 y z (zero_ban y z) ≡ true
is_ban_lem y z = rw (eq-eqb y y refl, eq-eqb z z refl)

column_more : (y z k : ℕ) (l : List Ban) → (any (is_ban 0 y z) l ≡ true) → (w : ℕ) → any (is_ban 0 y z) (column w k l) ≡ true
unfolding any
column_more y z zero l e w = e
column_more y z (suc k) l e w = or_right (is_ban 0 y z (zero_ban k w)) (any (is_ban 0 y z) (column w k l)) (column_more y z k l e w)

column_step : (y z k : ℕ) (l : List Ban) → (y < k → any (is_ban 0 y z) (column z k l) ≡ true) → y < suc k → Dec (y ≡ k)
    → (is_ban 0 y z (zero_ban k z) || any (is_ban 0 y z) (column z k l)) ≡ true
column_step y z k l ih h (yes e) =
    or_left (is_ban 0 y z (zero_ban k z)) (any (is_ban 0 y z) (column z k l)) (subst (λ (i : ℕ). is_ban 0 y z (zero_ban i z) ≡ true) e (is_ban_lem y z))
column_step y z k l ih h (no e) = or_right (is_ban 0 y z (zero_ban k z)) (any (is_ban 0 y z) (column z k l)) (ih (omega arith))

column_in : (y z k : ℕ) (l : List Ban) → y < k → any (is_ban 0 y z) (column z k l) ≡ true
unfolding any
column_in y z zero l h = absurd (omega arith)
column_in y z (suc k) l h = column_step y z k l (column_in y z k l) h (ℕ_discrete y k)

square_step : (n m y z : ℕ) → (z < m → any (is_ban 0 y z) (square n m) ≡ true) → y < n → z < suc m → Dec (z ≡ m) → any (is_ban 0 y z) (column m n (square n m)) ≡ true
square_step n m y z ih h k (yes e) = subst (λ (i : ℕ). any (is_ban 0 y z) (column i n (square n m)) ≡ true) e (column_in y z n (square n m) h)
square_step n m y z ih h k (no e) = column_more y z n (square n m) (ih (omega arith)) m

square_in : (n m y z : ℕ) → y < n → z < m → any (is_ban 0 y z) (square n m) ≡ true
square_in n zero y z h k = absurd (omega arith)
square_in n (suc m) y z h k = square_step n m y z (λ l. square_in n m y z h l) h k (ℕ_discrete z m)

square_bans : (n y z : ℕ) → y < n → z < n → banned_by (square n n) 0 y z ≡ true
unfolding banned_by
square_bans n y z h k = square_in n n y z h k

module _ (t : Table) where
  -- a copy of each word after each word
  abbrev all_copies : List Copy
  all_copies = copies_of (square (size t) (size t))

  all_serve : Serves (size t) all_copies t.banned
  all_serve = record {
    copies = copies_once [] (square (size t) (size t)) (square_known (size t) (size t) (omega arith)) (once_none (size t));
    served = λ x y z h k e. ban_served (square (size t) (size t)) 0 y z (square_bans (size t) y z h k);
  }

  abbrev unfolded : Table
  unfolded = enlarged t all_copies t.banned

  -- Every table is covered.
  pub every_covered : Cover unfolded t (origin (size t) all_copies) (λ x. x) (number_after (size t) all_copies)
  every_covered = enlarged_covers t all_copies t.banned all_serve

  unfolded_plain : NonEmpty t → Plain unfolded
  unfolded_plain nonempty = record {
    some = λ x h. subst (λ (w : List ℕ). 1 ≤ length w) (sym (every_covered.words x h)) (nonempty (origin (size t) all_copies x) (every_covered.named x h));
    free = every_covered.free;
  }

  -- In a table of non-empty words, with bans or without, sharing can be decided.
  pub decide_sharing : (N : ℕ) → NonEmpty t → Dec (SharePrefix t N)
  decide_sharing N nonempty = map_dec (named_share every_covered) (lifted_share every_covered) (decide_share unfolded N (unfolded_plain nonempty))
