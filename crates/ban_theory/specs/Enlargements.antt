-- Which matrices are those of an enlarged code. A matrix over words and copies is one if each 1 stands where copies let it, and if a copy is followed by
-- nothing that its word is not followed by. The table is read off the columns of the words, the bans off the columns of the copies.
use Rattle.std.specs.Prelude.{◌≡◌, refl, Bool, true, false, List, ℕ, ◌+◌, ◌≤◌, ◌<◌, length}
use Rattle.std.proofs.Common.{sym, ap, ◌∙◌, subst, arith}
use Rattle.std.proofs.Math.Path.{ap₂}
use Rattle.std.proofs.Math.Bool.{not, ◌&&◌, and-eq-true_iff}
use Rattle.std.proofs.Math.Decide.{dec_lt}
use Rattle.std.proofs.lemmas.Bool.{not-true, not-false}
use Rattle.code.specs.Definitions.Tables.{Table, size}
use Rattle.code.specs.Definitions.Bans.{Copy, has_copy, copy_index, copy_at, origin, stands_after, number_after, unbanned, may_come, bans_in, table_in}
use Rattle.ban_theory.specs.CopyLists.{Once, origin_word, origin_known, copy_index_lem, stands_next}
use Rattle.ban_theory.specs.Copies.{Serves, Comes, comes, may_come_lem, unbanned_word, unbanned_copy}

-- Two Bools are equal where each is true if the other is.
pub both_ways : (a b : Bool) → (a ≡ true → b ≡ true) → (b ≡ true → a ≡ true) → a ≡ b
both_ways true b f g = sym (f refl)
both_ways false true f g = g refl
both_ways false false f g = refl

-- Among n words and the copies each 1 stands where copies let it, and a copy is followed by nothing that its word is not followed by.
pub record Fair (n : ℕ) (cs : List Copy) (entry : ℕ → ℕ → Bool) : Type 0 where
  pub only : (x y : ℕ) → x < n + length cs → y < n + length cs → entry x y ≡ true → stands_after n cs x (origin n cs y) ≡ true
  pub base : (x y : ℕ) → x < n + length cs → y < n + length cs → entry x y ≡ true → entry x (origin n cs y) ≡ true

module _ {n : ℕ} {cs : List Copy} (copies : Once n cs) (entry : ℕ → ℕ → Bool) where
  -- The bans read off the matrix have their copies.
  pub in_serve : Serves n cs (bans_in cs entry n)
  unfolding bans_in
  in_serve = record {
    copies = copies;
    served = λ x y z h k e. ((and-eq-true_iff (has_copy cs y z) (not (entry (number_after n cs z x) (n + copy_index cs y z)))).0 e).0;
  }

  -- Whether x is banned behind the copy y is what the matrix says there.
  banned_copy : (x y : ℕ) → x < n + length cs → y < n + length cs → n ≤ y → stands_after n cs x (origin n cs y) ≡ true
      → bans_in cs entry n (origin n cs x) (copy_at n cs y).behind (origin n cs y) ≡ not (entry x y)
  unfolding bans_in
  banned_copy x y h k l e =
      let at = copy_index_lem n cs copies y k l in
      ap₂ ◌&&◌ at.0 (ap not (ap₂ entry (sym (stands_next n cs copies x (origin n cs y) h e)) at.1))

module _ (ws : List (List ℕ)) (marks : ℕ → Bool) {cs : List Copy} (copies : Once (length ws) cs) {entry : ℕ → ℕ → Bool} (fair : Fair (length ws) cs entry) where
  abbrev n : ℕ
  n = length ws

  abbrev t : Table
  t = table_in cs entry ws marks

  entry-unbanned : (x y : ℕ) → x < n + length cs → y < n + length cs → entry x y ≡ true → Dec (y < n) → unbanned t cs t.banned x y ≡ true
  entry-unbanned x y h k e (yes l) = unbanned_word t cs t.banned x y l
  entry-unbanned x y h k e (no l) =
      let far : n ≤ y = omega arith in
      unbanned_copy t cs t.banned x y far ∙ ap not (banned_copy copies entry x y h k far (fair.only x y h k e) ∙ ap not e)

  entry_comes : (x y : ℕ) → x < n + length cs → y < n + length cs → entry x y ≡ true → Comes t cs t.banned x y
  entry_comes x y h k e =
      let stands = fair.only x y h k e in
      record {
        follow = ap (λ (i : ℕ). entry i (origin n cs y)) (sym (stands_next n cs copies x (origin n cs y) h stands)) ∙ fair.base x y h k e;
        stands = stands;
        free = entry-unbanned x y h k e (dec_lt y n);
      }

  comes_entry : (x y : ℕ) → x < n + length cs → y < n + length cs → Comes t cs t.banned x y → Dec (y < n) → entry x y ≡ true
  comes_entry x y h k c (yes l) =
      subst (λ (i : ℕ). entry x i ≡ true) (origin_word n cs y l)
      (ap (λ (i : ℕ). entry i (origin n cs y)) (stands_next n cs copies x (origin n cs y) h c.stands) ∙ c.follow)
  comes_entry x y h k c (no l) =
      let far : n ≤ y = omega arith in
      let none = not-true (t.banned (origin n cs x) (copy_at n cs y).behind (origin n cs y)) (sym (unbanned_copy t cs t.banned x y far) ∙ c.free) in
      not-false (entry x y) (sym (banned_copy copies entry x y h k far c.stands) ∙ none)

  -- The matrix is that of the enlarged code.
  pub same_matrix : (x y : ℕ) → x < length ws + length cs → y < length ws + length cs
      → may_come (table_in cs entry ws marks) cs (bans_in cs entry (length ws)) x y ≡ entry x y
  same_matrix x y h k =
      both_ways (may_come t cs t.banned x y) (entry x y)
      (λ e. comes_entry x y h k (comes t cs t.banned x y e) (dec_lt y n))
      (λ e. may_come_lem t cs t.banned x y (entry_comes x y h k e))

module _ (t : Table) (cs : List Copy) (b : ℕ → ℕ → ℕ → Bool) (serves : Serves (size t) cs b) where
  -- What may come behind a copy may come behind its word.
  behind_origin : (x y : ℕ) → y < size t + length cs → Comes t cs b x y → Comes t cs b x (origin (size t) cs y)
  behind_origin x y k c =
      let known = origin_known (size t) cs serves.copies y k in
      let itself = origin_word (size t) cs (origin (size t) cs y) known in
      record {
        follow = subst (λ (i : ℕ). t.follow (origin (size t) cs x) i ≡ true) (sym itself) c.follow;
        stands = subst (λ (i : ℕ). stands_after (size t) cs x i ≡ true) (sym itself) c.stands;
        free = unbanned_word t cs b x (origin (size t) cs y) known;
      }

  -- The other way round: the matrix of every enlarged code is such a one.
  pub enlarged_fair : Fair (size t) cs (may_come t cs b)
  enlarged_fair = record {
    only = λ x y h k e. (comes t cs b x y e).stands;
    base = λ x y h k e. may_come_lem t cs b x (origin (size t) cs y) (behind_origin x y k (comes t cs b x y e));
  }
