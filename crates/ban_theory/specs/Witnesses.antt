-- A ban list for given copies: for each copy, one after the other, the words that are banned behind it. Where each copy has such a word the list gives just
-- these copies, and bans just these words. So refusal 8 for enlarged codes can be decided.
use Rattle.std.specs.Prelude.{◌≡◌, refl, Bool, true, false, ◌&&◌, List, [], ◌∷◌, ◌++◌, ◌⊎◌, ℕ, zero, suc, ◌+◌, ◌*◌, ◌≤◌, ◌<◌, eqb, length, get_or, if◌then◌else◌}
use Rattle.std.proofs.Common.{sym, ap, ◌∙◌, subst, true≢false, append_assoc, append-nil, inl, inr, suc-mul, arith, length-append, eqb-true, eq-eqb}
use Rattle.std.proofs.lemmas.Bool.{false≢true}
use Rattle.std.proofs.Math.Bool.{and-eq-true_iff}
use Rattle.std.proofs.Math.Decide.{ℕ_discrete}
use Rattle.std.proofs.Math.ListN.{get_or-append}
use Rattle.std.proofs.lemmas.List.{get_or_at}
use Rattle.code.specs.Definitions.Lists.{any}
use Rattle.code.specs.Definitions.Bans.{Ban, Copy, no_copy, is_ban, banned_by, has_copy, copy_index, copies_from, copies_of}
use Rattle.code.specs.Laws.Below.{or_cases, or_left, or_right, Some}
use Rattle.ban_theory.specs.CopyLists.{CopyAt, Once, copy_later, found}
use Rattle.ban_theory.specs.BanLists.{has_new}

abbrev ban_of : ℕ → Copy → Ban
ban_of x c = record { x = x; y = c.behind; z = c.of }

-- the words below n that are banned behind the copy c, before others
unfoldable row_bans : (ℕ → Bool) → Copy → ℕ → List Ban → List Ban
row_bans p c zero l = l
row_bans p c (suc n) l = if p n then ban_of n c ∷ row_bans p c n l else row_bans p c n l

-- the words below n that are banned behind each copy, where the first one has number i
unfoldable pub list_bans : (ℕ → ℕ → Bool) → ℕ → List Copy → ℕ → List Ban
unfolding row_bans
list_bans p n [] i = []
list_bans p n (c ∷ cs) i = row_bans (p i) c n (list_bans p n cs (suc i))

-- The list's copies

again : (cs : List Copy) (c : Copy) (n : ℕ) (l : List Ban) → has_copy cs c.behind c.of ≡ true → copies_from cs (ban_of n c ∷ l) ≡ copies_from cs l
unfolding copies_from
again cs c n l e = rw e

newly : (cs : List Copy) (c : Copy) (n : ℕ) (l : List Ban) → has_copy cs c.behind c.of ≡ false → copies_from cs (ban_of n c ∷ l) ≡ copies_from (cs ++ (c ∷ [])) l
unfolding copies_from
newly cs c n l e = rw e

row_again_step : (p : ℕ → Bool) (cs : List Copy) (c : Copy) (n : ℕ) (l : List Ban) → has_copy cs c.behind c.of ≡ true → copies_from cs (row_bans p c n l) ≡ copies_from cs l
    → (a : Bool) → copies_from cs (if a then ban_of n c ∷ row_bans p c n l else row_bans p c n l) ≡ copies_from cs l
row_again_step p cs c n l e ih true = again cs c n (row_bans p c n l) e ∙ ih
row_again_step p cs c n l e ih false = ih

-- A row adds nothing where its copy is there,
row_again : (p : ℕ → Bool) (cs : List Copy) (c : Copy) (n : ℕ) (l : List Ban) → has_copy cs c.behind c.of ≡ true → copies_from cs (row_bans p c n l) ≡ copies_from cs l
unfolding row_bans
row_again p cs c zero l e = refl
row_again p cs c (suc n) l e = row_again_step p cs c n l e (row_again p cs c n l e) (p n)

some_fewer : (p : ℕ → Bool) (n : ℕ) → Some p (suc n) → p n ≡ false → Some p n
some_fewer p n s e = go (ℕ_discrete s.x n)
  where
    go : Dec (s.x ≡ n) → Some p n
    go (yes d) = absurd (true≢false (sym s.passes ∙ ap p d ∙ e))
    go (no d) = record { x = s.x; below = let h = s.below in omega arith; passes = s.passes }

row_new_step : (p : ℕ → Bool) (cs : List Copy) (c : Copy) (n : ℕ) (l : List Ban) → has_copy cs c.behind c.of ≡ false
    → (Some p n → copies_from cs (row_bans p c n l) ≡ copies_from (cs ++ (c ∷ [])) l) → Some p (suc n)
    → (a : Bool) → p n ≡ a → copies_from cs (if a then ban_of n c ∷ row_bans p c n l else row_bans p c n l) ≡ copies_from (cs ++ (c ∷ [])) l
row_new_step p cs c n l e ih s true d = newly cs c n (row_bans p c n l) e ∙ row_again p (cs ++ (c ∷ [])) c n l (has_new cs c [])
row_new_step p cs c n l e ih s false d = ih (some_fewer p n s d)

-- and its copy where it is not.
row_new : (p : ℕ → Bool) (cs : List Copy) (c : Copy) (n : ℕ) (l : List Ban) → has_copy cs c.behind c.of ≡ false → Some p n
    → copies_from cs (row_bans p c n l) ≡ copies_from (cs ++ (c ∷ [])) l
unfolding row_bans
row_new p cs c zero l e s = absurd (let h = s.below in omega arith)
row_new p cs c (suc n) l e s = row_new_step p cs c n l e (row_new p cs c n l e) s (p n) refl

-- A copy that comes behind others is none of them.
not_before_lem : {k : ℕ} (ds : List Copy) (c : Copy) (cs : List Copy) → Once k (ds ++ (c ∷ cs)) → has_copy ds c.behind c.of ≡ false
not_before_lem ds c cs o = go (has_copy ds c.behind c.of) refl
  where
    go : (a : Bool) → has_copy ds c.behind c.of ≡ a → has_copy ds c.behind c.of ≡ false
    go false e = e
    go true e =
        let f = found c.behind c.of ds e in
        let low = f.below in
        let old = get_or-append ds (c ∷ cs) no_copy (copy_index ds c.behind c.of) low in
        let this = get_or_at ds c cs no_copy (length ds) refl in
        let first : CopyAt (ds ++ (c ∷ cs)) c.behind c.of (copy_index ds c.behind c.of) = record {
          below = omega (arith, length-append ds (c ∷ cs));
          behind = ap (λ (d : Copy). d.behind) old ∙ f.behind;
          of = ap (λ (d : Copy). d.of) old ∙ f.of;
        } in
        let second : CopyAt (ds ++ (c ∷ cs)) c.behind c.of (length ds) = record {
          below = omega (arith, length-append ds (c ∷ cs));
          behind = ap (λ (d : Copy). d.behind) this;
          of = ap (λ (d : Copy). d.of) this;
        } in
        let same = o.once (copy_index ds c.behind c.of) (length ds) first second in
        absurd (omega arith)

list_step : {k : ℕ} (p : ℕ → ℕ → Bool) (n : ℕ) (ds : List Copy) (c : Copy) (cs : List Copy) (i : ℕ) → Once k (ds ++ (c ∷ cs)) → Some (p i) n
    → copies_from (ds ++ (c ∷ [])) (list_bans p n cs (suc i)) ≡ (ds ++ (c ∷ [])) ++ cs → copies_from ds (row_bans (p i) c n (list_bans p n cs (suc i))) ≡ ds ++ (c ∷ cs)
list_step p n ds c cs i o s ih = row_new (p i) ds c n (list_bans p n cs (suc i)) (not_before_lem ds c cs o) s ∙ ih ∙ append_assoc ds (c ∷ []) cs

list_copies : {k : ℕ} (p : ℕ → ℕ → Bool) (n : ℕ) (ds cs : List Copy) (i : ℕ) → Once k (ds ++ cs) → ((j : ℕ) → j < length cs → Some (p (i + j)) n)
    → copies_from ds (list_bans p n cs i) ≡ ds ++ cs
unfolding list_bans copies_from
list_copies p n ds [] i o s = sym (append-nil ds)
list_copies {k} p n ds (c ∷ cs) i o s =
    list_step p n ds c cs i o (let z : i + 0 ≡ i = omega arith in subst (λ (j : ℕ). Some (p j) n) z (s 0 (omega arith)))
    (list_copies p n (ds ++ (c ∷ [])) cs (suc i) (subst (Once k) (sym (append_assoc ds (c ∷ []) cs)) o)
    (λ j h. let z : i + suc j ≡ suc i + j = omega arith in subst (λ (m : ℕ). Some (p m) n) z (s (suc j) (omega arith))))

-- The list's copies are the copies given.
pub witness_copies : {k : ℕ} (p : ℕ → ℕ → Bool) (n : ℕ) (cs : List Copy) → Once k cs → ((j : ℕ) → j < length cs → Some (p j) n) → copies_of (list_bans p n cs 0) ≡ cs
witness_copies p n cs o s = list_copies p n [] cs 0 o (λ j h. let z : 0 + j ≡ j = omega arith in subst (λ (m : ℕ). Some (p m) n) (sym z) (s j h))

-- The list's length

row_length_step : (p : ℕ → Bool) (c : Copy) (n : ℕ) (l : List Ban) → length (row_bans p c n l) ≤ n + length l → (a : Bool)
    → length (if a then ban_of n c ∷ row_bans p c n l else row_bans p c n l) ≤ suc n + length l
row_length_step p c n l h true = omega arith
row_length_step p c n l h false = omega arith

row_length : (p : ℕ → Bool) (c : Copy) (n : ℕ) (l : List Ban) → length (row_bans p c n l) ≤ n + length l
unfolding row_bans
row_length p c zero l = omega arith
row_length p c (suc n) l = row_length_step p c n l (row_length p c n l) (p n)

-- It has at most as many bans as there are words for each copy.
pub witness_length : (p : ℕ → ℕ → Bool) (n : ℕ) (cs : List Copy) (i : ℕ) → length (list_bans p n cs i) ≤ length cs * n
unfolding list_bans
witness_length p n [] i = omega arith
witness_length p n (c ∷ cs) i = omega (arith, row_length (p i) c n (list_bans p n cs (suc i)), witness_length p n cs (suc i), suc-mul (length cs) n)

-- The list's bans

-- x is banned in the row of the copy c, and c is the copy of z after y.
record RowBan (p : ℕ → Bool) (c : Copy) (n x y z : ℕ) : Type 0 where
  below : x < n
  behind : c.behind ≡ y
  of : c.of ≡ z
  passes : p x ≡ true

row_here : (p : ℕ → Bool) (c : Copy) (n x y z : ℕ) → p n ≡ true → is_ban x y z (ban_of n c) ≡ true → RowBan p c (suc n) x y z
row_here p c n x y z d e =
    let a = (and-eq-true_iff (eqb n x) (eqb c.behind y && eqb c.of z)).0 e in
    let b = (and-eq-true_iff (eqb c.behind y) (eqb c.of z)).0 a.1 in
    let i = eqb-true n x a.0 in
    record { below = omega arith; behind = eqb-true _ _ b.0; of = eqb-true _ _ b.1; passes = ap p (sym i) ∙ d }

row_later : (p : ℕ → Bool) (c : Copy) (n x y z : ℕ) (P : Type 0) → RowBan p c n x y z ⊎ P → RowBan p c (suc n) x y z ⊎ P
row_later p c n x y z P (inl r) = inl (record { below = let h = r.below in omega arith; behind = r.behind; of = r.of; passes = r.passes })
row_later p c n x y z P (inr r) = inr r

row_out_case : (p : ℕ → Bool) (c : Copy) (n : ℕ) (l : List Ban) (x y z : ℕ) → p n ≡ true
    → (any (is_ban x y z) (row_bans p c n l) ≡ true → RowBan p c (suc n) x y z ⊎ (any (is_ban x y z) l ≡ true))
    → (is_ban x y z (ban_of n c) ≡ true) ⊎ (any (is_ban x y z) (row_bans p c n l) ≡ true) → RowBan p c (suc n) x y z ⊎ (any (is_ban x y z) l ≡ true)
row_out_case p c n l x y z d ih (inl e) = inl (row_here p c n x y z d e)
row_out_case p c n l x y z d ih (inr e) = ih e

row_out_step : (p : ℕ → Bool) (c : Copy) (n : ℕ) (l : List Ban) (x y z : ℕ)
    → (any (is_ban x y z) (row_bans p c n l) ≡ true → RowBan p c (suc n) x y z ⊎ (any (is_ban x y z) l ≡ true))
    → (a : Bool) → p n ≡ a → any (is_ban x y z) (if a then ban_of n c ∷ row_bans p c n l else row_bans p c n l) ≡ true → RowBan p c (suc n) x y z ⊎ (any (is_ban x y z) l ≡ true)
unfolding any
row_out_step p c n l x y z ih true d e = row_out_case p c n l x y z d ih (or_cases (is_ban x y z (ban_of n c)) (any (is_ban x y z) (row_bans p c n l)) e)
row_out_step p c n l x y z ih false d e = ih e

-- A ban of the longer list is one of the row, or of what comes behind it.
row_out : (p : ℕ → Bool) (c : Copy) (n : ℕ) (l : List Ban) (x y z : ℕ) → any (is_ban x y z) (row_bans p c n l) ≡ true → RowBan p c n x y z ⊎ (any (is_ban x y z) l ≡ true)
unfolding row_bans
row_out p c zero l x y z e = inr e
row_out p c (suc n) l x y z e = row_out_step p c n l x y z (λ h. row_later p c n x y z (any (is_ban x y z) l ≡ true) (row_out p c n l x y z h)) (p n) refl e

-- x is banned behind the copy of z after y.
pub record ListBan (p : ℕ → ℕ → Bool) (n : ℕ) (cs : List Copy) (i x y z : ℕ) : Type 0 where
  pub j : ℕ
  pub at : CopyAt cs y z j
  pub below : x < n
  pub passes : p (i + j) x ≡ true

list_out_case : (p : ℕ → ℕ → Bool) (n : ℕ) (c : Copy) (cs : List Copy) (i x y z : ℕ) → (any (is_ban x y z) (list_bans p n cs (suc i)) ≡ true → ListBan p n cs (suc i) x y z)
    → RowBan (p i) c n x y z ⊎ (any (is_ban x y z) (list_bans p n cs (suc i)) ≡ true) → ListBan p n (c ∷ cs) i x y z
list_out_case p n c cs i x y z ih (inl r) = record {
  j = 0;
  at = record { below = omega arith; behind = r.behind; of = r.of };
  below = r.below;
  passes = let q : i + 0 ≡ i = omega arith in subst (λ (k : ℕ). p k x ≡ true) (sym q) r.passes;
}
list_out_case p n c cs i x y z ih (inr e) =
    let r = ih e in
    record {
      j = suc r.j;
      at = copy_later y z r.j c cs r.at;
      below = r.below;
      passes = let q : i + suc r.j ≡ suc i + r.j = omega arith in subst (λ (k : ℕ). p k x ≡ true) (sym q) r.passes;
    }

list_out : (p : ℕ → ℕ → Bool) (n : ℕ) (cs : List Copy) (i x y z : ℕ) → any (is_ban x y z) (list_bans p n cs i) ≡ true → ListBan p n cs i x y z
unfolding list_bans any
list_out p n [] i x y z e = absurd (false≢true e)
list_out p n (c ∷ cs) i x y z e = list_out_case p n c cs i x y z (list_out p n cs (suc i) x y z) (row_out (p i) c n (list_bans p n cs (suc i)) x y z e)

-- What the list bans is banned behind its copy,
pub witness_out : (p : ℕ → ℕ → Bool) (n : ℕ) (cs : List Copy) (i x y z : ℕ) → banned_by (list_bans p n cs i) x y z ≡ true → ListBan p n cs i x y z
unfolding banned_by
witness_out p n cs i x y z e = list_out p n cs i x y z e

row_keeps : (p : ℕ → Bool) (c : Copy) (n : ℕ) (l : List Ban) (x y z : ℕ) → any (is_ban x y z) l ≡ true → any (is_ban x y z) (row_bans p c n l) ≡ true
unfolding row_bans any
row_keeps p c zero l x y z e = e
row_keeps p c (suc n) l x y z e = step (p n) (row_keeps p c n l x y z e)
  where
    step : (a : Bool) → any (is_ban x y z) (row_bans p c n l) ≡ true → any (is_ban x y z) (if a then ban_of n c ∷ row_bans p c n l else row_bans p c n l) ≡ true
    step true h = or_right (is_ban x y z (ban_of n c)) (any (is_ban x y z) (row_bans p c n l)) h
    step false h = h

row_in_step : (p : ℕ → Bool) (c : Copy) (n : ℕ) (l : List Ban) (x : ℕ) → (x < n → any (is_ban x c.behind c.of) (row_bans p c n l) ≡ true) → x < suc n → p x ≡ true → Dec (x ≡ n)
    → (a : Bool) → p n ≡ a → any (is_ban x c.behind c.of) (if a then ban_of n c ∷ row_bans p c n l else row_bans p c n l) ≡ true
unfolding any
row_in_step p c n l x ih h e (yes d) true q =
    or_left (is_ban x c.behind c.of (ban_of n c)) (any (is_ban x c.behind c.of) (row_bans p c n l))
    (rw (eq-eqb n x (sym d), eq-eqb c.behind c.behind refl, eq-eqb c.of c.of refl))
row_in_step p c n l x ih h e (yes d) false q = absurd (true≢false (sym e ∙ ap p d ∙ q))
row_in_step p c n l x ih h e (no d) true q = or_right (is_ban x c.behind c.of (ban_of n c)) (any (is_ban x c.behind c.of) (row_bans p c n l)) (ih (omega arith))
row_in_step p c n l x ih h e (no d) false q = ih (omega arith)

row_in : (p : ℕ → Bool) (c : Copy) (n : ℕ) (l : List Ban) (x : ℕ) → x < n → p x ≡ true → any (is_ban x c.behind c.of) (row_bans p c n l) ≡ true
unfolding row_bans
row_in p c zero l x h e = absurd (omega arith)
row_in p c (suc n) l x h e = row_in_step p c n l x (λ k. row_in p c n l x k e) h e (ℕ_discrete x n) (p n) refl

list_in : (p : ℕ → ℕ → Bool) (n : ℕ) (cs : List Copy) (i j x : ℕ) → j < length cs → x < n → p (i + j) x ≡ true
    → any (is_ban x (get_or cs j no_copy).behind (get_or cs j no_copy).of) (list_bans p n cs i) ≡ true
unfolding list_bans
list_in p n [] i j x h k e = absurd (omega arith)
list_in p n (c ∷ cs) i zero x h k e = row_in (p i) c n (list_bans p n cs (suc i)) x k (let q : i + 0 ≡ i = omega arith in subst (λ (m : ℕ). p m x ≡ true) q e)
list_in p n (c ∷ cs) i (suc j) x h k e =
    row_keeps (p i) c n (list_bans p n cs (suc i)) x (get_or cs j no_copy).behind (get_or cs j no_copy).of
    (list_in p n cs (suc i) j x (omega arith) k (let q : i + suc j ≡ suc i + j = omega arith in subst (λ (m : ℕ). p m x ≡ true) q e))

-- and what is banned behind a copy is banned by the list.
pub witness_in : (p : ℕ → ℕ → Bool) (n : ℕ) (cs : List Copy) (i j x : ℕ) → j < length cs → x < n → p (i + j) x ≡ true
    → banned_by (list_bans p n cs i) x (get_or cs j no_copy).behind (get_or cs j no_copy).of ≡ true
unfolding banned_by
witness_in p n cs i j x h k e = list_in p n cs i j x h k e
