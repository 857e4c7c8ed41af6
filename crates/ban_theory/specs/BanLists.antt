-- The copies of a ban list serve its bans: each ban finds its copy in the list or adds it.
use Rattle.std.specs.Prelude.{◌≡◌, refl, Bool, true, false, ◌&&◌, List, [], ◌∷◌, ◌++◌, ◌⊎◌, ℕ, ◌+◌, ◌<◌, eqb, length, get_or, if◌then◌else◌}
use Rattle.std.proofs.Common.{sym, ◌∙◌, subst, subst₂, inl, inr, arith, length-append, eqb-true, eq-eqb}
use Rattle.std.proofs.lemmas.Bool.{false≢true}
use Rattle.std.proofs.Math.Bool.{and-eq-true_iff}
use Rattle.std.proofs.Math.Decide.{dec_lt}
use Rattle.std.proofs.Math.ListN.{get_or-append}
use Rattle.std.proofs.lemmas.List.{get_or_at}
use Rattle.code.specs.Definitions.Lists.{any}
use Rattle.code.specs.Definitions.Bans.{Ban, Copy, no_copy, is_ban, banned_by, is_copy, has_copy, copies_from, copies_of}
use Rattle.code.specs.Laws.Below.{or_cases, or_left, or_right}
use Rattle.code.specs.Laws.Lists.{any_append}
use Rattle.ban_theory.specs.CopyLists.{CopyAt, Once, has_copy_lem}
use Rattle.ban_theory.specs.Copies.{Serves}

-- 02, request 2: "three word numbers of the table", in every record
pub data Known (n : ℕ) : List Ban → Type 0 where
  no_ban : Known n []
  ban : {b : Ban} {bs : List Ban} → b.x < n → b.y < n → b.z < n → Known n bs → Known n (b ∷ bs)

pub once_none : (n : ℕ) → Once n []
once_none n = record { behind_known = λ i h. absurd (omega arith); of_known = λ i h. absurd (omega arith); once = λ i j a. let h = a.below in absurd (omega arith) }

-- One copy more
module _ (cs : List Copy) (c : Copy) where
  long : length (cs ++ (c ∷ [])) ≡ length cs + 1
  long = length-append cs (c ∷ [])

  -- What holds of the copies and of c holds at every index.
  at_index : (P : Copy → Type 0) → ((i : ℕ) → i < length cs → P (get_or cs i no_copy)) → P c → (i : ℕ) → i < length (cs ++ (c ∷ [])) → P (get_or (cs ++ (c ∷ [])) i no_copy)
  at_index P a d i l = go (dec_lt i (length cs))
    where
      go : Dec (i < length cs) → P (get_or (cs ++ (c ∷ [])) i no_copy)
      go (yes m) = subst P (sym (get_or-append cs (c ∷ []) no_copy i m)) (a i m)
      go (no m) = subst P (sym (get_or_at cs c [] no_copy i (omega (arith, long)))) d

module _ {n : ℕ} {cs : List Copy} (copies : Once n cs) (c : Copy) (new : has_copy cs c.behind c.of ≡ false) where
  -- A copy stands among the copies, or it is c.
  copy_split : {y z i : ℕ} → CopyAt (cs ++ (c ∷ [])) y z i → Dec (i < length cs) → CopyAt cs y z i ⊎ ((i ≡ length cs) × ((c.behind ≡ y) × (c.of ≡ z)))
  copy_split {y} {z} {i} a (yes m) =
      let old = get_or-append cs (c ∷ []) no_copy i m in
      inl (record { below = m; behind = subst (λ (d : Copy). d.behind ≡ y) old a.behind; of = subst (λ (d : Copy). d.of ≡ z) old a.of })
  copy_split {y} {z} {i} a (no m) =
      let h = a.below in
      let last = get_or_at cs c [] no_copy i (omega (arith, long cs c)) in
      inr (omega (arith, long cs c), (subst (λ (d : Copy). d.behind ≡ y) last a.behind, subst (λ (d : Copy). d.of ≡ z) last a.of))

  not_new : {y z i : ℕ} → CopyAt cs y z i → c.behind ≡ y → c.of ≡ z → ⊥
  not_new a e d = false≢true (sym new ∙ subst₂ (λ (v w : ℕ). has_copy cs v w ≡ true) (sym e) (sym d) (has_copy_lem a))

  once_pair : {y z i j : ℕ} → CopyAt cs y z i ⊎ ((i ≡ length cs) × ((c.behind ≡ y) × (c.of ≡ z)))
      → CopyAt cs y z j ⊎ ((j ≡ length cs) × ((c.behind ≡ y) × (c.of ≡ z))) → i ≡ j
  once_pair {i = i} {j = j} (inl a) (inl d) = copies.once i j a d
  once_pair (inl a) (inr d) = absurd (not_new a d.1.0 d.1.1)
  once_pair (inr a) (inl d) = absurd (not_new d a.1.0 a.1.1)
  once_pair (inr a) (inr d) = a.0 ∙ sym d.0

  pub once_more : c.behind < n → c.of < n → Once n (cs ++ (c ∷ []))
  once_more h k = record {
    behind_known = at_index cs c (λ d. d.behind < n) copies.behind_known h;
    of_known = at_index cs c (λ d. d.of < n) copies.of_known k;
    once = λ i j a d. once_pair (copy_split a (dec_lt i (length cs))) (copy_split d (dec_lt j (length cs)));
  }

-- Copies stay copies when others come behind them,
has_old : (cs ds : List Copy) (y z : ℕ) → has_copy cs y z ≡ true → has_copy (cs ++ ds) y z ≡ true
unfolding has_copy
has_old cs ds y z e = any_append (is_copy y z) cs ds ∙ or_left (any (is_copy y z) cs) (any (is_copy y z) ds) e

-- and each of these is a copy.
pub has_new : (cs : List Copy) (c : Copy) (ds : List Copy) → has_copy (cs ++ (c ∷ ds)) c.behind c.of ≡ true
unfolding has_copy any
has_new cs c ds =
    let is : is_copy c.behind c.of c ≡ true = rw (eq-eqb c.behind c.behind refl, eq-eqb c.of c.of refl) in
    any_append (is_copy c.behind c.of) cs (c ∷ ds) ∙ or_right (any (is_copy c.behind c.of) cs) (any (is_copy c.behind c.of) (c ∷ ds)) (rw is)

-- the copies after one ban, which has its copy or not
abbrev pub with_ban : List Copy → Ban → Bool → List Copy
with_ban cs b a = if a then cs else cs ++ (record { behind = b.y; of = b.z } ∷ [])

-- The bans of a list behind another come on top of its copies.
pub copies_append : (cs : List Copy) (bs ds : List Ban) → copies_from cs (bs ++ ds) ≡ copies_from (copies_from cs bs) ds
unfolding copies_from
copies_append cs [] ds = refl
copies_append cs (b ∷ bs) ds = copies_append (with_ban cs b (has_copy cs b.y b.z)) bs ds

-- one ban more
pub copies_next : (bs : List Ban) (b : Ban) → copies_of (bs ++ (b ∷ [])) ≡ with_ban (copies_of bs) b (has_copy (copies_of bs) b.y b.z)
unfolding copies_from
copies_next bs b = copies_append [] bs (b ∷ [])

once_ban : {n : ℕ} {cs : List Copy} (b : Ban) → Once n cs → b.y < n → b.z < n → (a : Bool) → has_copy cs b.y b.z ≡ a → Once n (with_ban cs b a)
once_ban b o h k true e = o
once_ban b o h k false e = once_more o (record { behind = b.y; of = b.z }) e h k

has_ban : (cs : List Copy) (b : Ban) (a : Bool) → has_copy cs b.y b.z ≡ a → has_copy (with_ban cs b a) b.y b.z ≡ true
has_ban cs b true e = e
has_ban cs b false e = has_new cs (record { behind = b.y; of = b.z }) []

has_kept : (cs : List Copy) (b : Ban) (a : Bool) (y z : ℕ) → has_copy cs y z ≡ true → has_copy (with_ban cs b a) y z ≡ true
has_kept cs b true y z e = e
has_kept cs b false y z e = has_old cs (record { behind = b.y; of = b.z } ∷ []) y z e

-- The first ban of a list bans, and so do those behind it.
banned_first : (b : Ban) (bs : List Ban) → banned_by (b ∷ bs) b.x b.y b.z ≡ true
unfolding banned_by any
banned_first b bs = rw (eq-eqb b.x b.x refl, eq-eqb b.y b.y refl, eq-eqb b.z b.z refl)

banned_later : (b : Ban) (bs : List Ban) (x y z : ℕ) → banned_by bs x y z ≡ true → banned_by (b ∷ bs) x y z ≡ true
unfolding banned_by any
banned_later b bs x y z e = or_right (is_ban x y z b) (any (is_ban x y z) bs) e

-- Bans are on known words where all that is banned is.
pub known_all : {n : ℕ} (bs : List Ban) → ((x y z : ℕ) → banned_by bs x y z ≡ true → (x < n) × ((y < n) × (z < n))) → Known n bs
known_all [] h = no_ban
known_all (b ∷ bs) h =
    let f = h b.x b.y b.z (banned_first b bs) in
    ban f.0 f.1.0 f.1.1 (known_all bs (λ x y z e. h x y z (banned_later b bs x y z e)))

-- the word that is banned
known_first : {n : ℕ} (b : Ban) (x y z : ℕ) → b.x < n → is_ban x y z b ≡ true → x < n
known_first b x y z h e =
    let same = eqb-true b.x x ((and-eq-true_iff (eqb b.x x) (eqb b.y y && eqb b.z z)).0 e).0 in
    omega arith

known_case : {n : ℕ} (b : Ban) (bs : List Ban) (x y z : ℕ) → b.x < n → (any (is_ban x y z) bs ≡ true → x < n) → (is_ban x y z b ≡ true) ⊎ (any (is_ban x y z) bs ≡ true) → x < n
known_case b bs x y z h ih (inl d) = known_first b x y z h d
known_case b bs x y z h ih (inr d) = ih d

pub banned_known : {n : ℕ} {bs : List Ban} → Known n bs → (x y z : ℕ) → banned_by bs x y z ≡ true → x < n
unfolding banned_by any
banned_known no_ban x y z e = absurd (false≢true e)
banned_known (ban {b} {bs} h i j k) x y z e = known_case b bs x y z h (banned_known k x y z) (or_cases (is_ban x y z b) (any (is_ban x y z) bs) e)

-- The copies of a list of bans on known words are copies of known words, each once.
pub copies_once : {n : ℕ} (cs : List Copy) (bs : List Ban) → Known n bs → Once n cs → Once n (copies_from cs bs)
unfolding copies_from
copies_once cs [] k o = o
copies_once cs (b ∷ bs) (ban x y z k) o = copies_once (with_ban cs b (has_copy cs b.y b.z)) bs k (once_ban b o y z (has_copy cs b.y b.z) refl)

copies_kept : (cs : List Copy) (bs : List Ban) (y z : ℕ) → has_copy cs y z ≡ true → has_copy (copies_from cs bs) y z ≡ true
unfolding copies_from
copies_kept cs [] y z e = e
copies_kept cs (b ∷ bs) y z e = copies_kept (with_ban cs b (has_copy cs b.y b.z)) bs y z (has_kept cs b (has_copy cs b.y b.z) y z e)

served_here : (cs : List Copy) (b : Ban) (bs : List Ban) (x y z : ℕ) → is_ban x y z b ≡ true → has_copy (copies_from (with_ban cs b (has_copy cs b.y b.z)) bs) y z ≡ true
served_here cs b bs x y z e =
    let a = (and-eq-true_iff (eqb b.x x) (eqb b.y y && eqb b.z z)).0 e in
    let d = (and-eq-true_iff (eqb b.y y) (eqb b.z z)).0 a.1 in
    copies_kept (with_ban cs b (has_copy cs b.y b.z)) bs y z
    (subst₂ (λ (i j : ℕ). has_copy (with_ban cs b (has_copy cs b.y b.z)) i j ≡ true) (eqb-true _ _ d.0) (eqb-true _ _ d.1) (has_ban cs b (has_copy cs b.y b.z) refl))

served_next : (cs : List Copy) (b : Ban) (bs : List Ban) (x y z : ℕ)
    → (any (is_ban x y z) bs ≡ true → has_copy (copies_from (with_ban cs b (has_copy cs b.y b.z)) bs) y z ≡ true)
    → (is_ban x y z b ≡ true) ⊎ (any (is_ban x y z) bs ≡ true) → has_copy (copies_from (with_ban cs b (has_copy cs b.y b.z)) bs) y z ≡ true
served_next cs b bs x y z ih (inl d) = served_here cs b bs x y z d
served_next cs b bs x y z ih (inr d) = ih d

served_from : (cs : List Copy) (bs : List Ban) (x y z : ℕ) → any (is_ban x y z) bs ≡ true → has_copy (copies_from cs bs) y z ≡ true
unfolding copies_from any
served_from cs [] x y z e = absurd (false≢true e)
served_from cs (b ∷ bs) x y z e =
    served_next cs b bs x y z (served_from (with_ban cs b (has_copy cs b.y b.z)) bs x y z) (or_cases (is_ban x y z b) (any (is_ban x y z) bs) e)

all_ban : (P : Copy → Type 0) (cs : List Copy) (b : Ban) → ((i : ℕ) → i < length cs → P (get_or cs i no_copy)) → P (record { behind = b.y; of = b.z })
    → (a : Bool) (i : ℕ) → i < length (with_ban cs b a) → P (get_or (with_ban cs b a) i no_copy)
all_ban P cs b old new true = old
all_ban P cs b old new false = at_index cs (record { behind = b.y; of = b.z }) P old new

-- What holds of the copies, and of the copy that each ban makes, holds of all copies behind the bans.
pub all_copies_lem : (P : Copy → Type 0) (cs : List Copy) (bs : List Ban) → ((i : ℕ) → i < length cs → P (get_or cs i no_copy))
    → ((x y z : ℕ) → banned_by bs x y z ≡ true → P (record { behind = y; of = z })) → (i : ℕ) → i < length (copies_from cs bs) → P (get_or (copies_from cs bs) i no_copy)
unfolding copies_from
all_copies_lem P cs [] old new = old
all_copies_lem P cs (b ∷ bs) old new =
    all_copies_lem P (with_ban cs b (has_copy cs b.y b.z)) bs
    (all_ban P cs b old (new b.x b.y b.z (banned_first b bs)) (has_copy cs b.y b.z))
    (λ x y z e. new x y z (banned_later b bs x y z e))

-- Every ban of the list has its copy.
pub ban_served : (bs : List Ban) (x y z : ℕ) → banned_by bs x y z ≡ true → has_copy (copies_of bs) y z ≡ true
unfolding banned_by
ban_served bs x y z e = served_from [] bs x y z e

-- The copies of a list of bans on known words serve them.
pub copies_serve : {n : ℕ} (bs : List Ban) → Known n bs → Serves n (copies_of bs) (banned_by bs)
copies_serve {n} bs k = record { copies = copies_once [] bs k (once_none n); served = λ x y z h l e. ban_served bs x y z e }
