-- Copies as they are collected in two arrays behind the words: the list that the arrays hold, and the arrays of a list.
use Rattle.std.specs.Prelude.{◌≡◌, false, List, [], ◌∷◌, ◌++◌, ℕ, ◌+◌, ◌-◌, ◌≤◌, ◌<◌, ltb, length, get_or, set, if◌then◌else◌}
use Rattle.std.proofs.Math.Path.{refl}
use Rattle.std.proofs.Common.{sym, ap, ◌∙◌, subst, arith, length-append, lt-ltb, le-ltb}
use Rattle.std.proofs.Math.Decide.{dec_lt}
use Rattle.std.proofs.Math.ListN.{get_or-append, get_or-eq_default}
use Rattle.std.proofs.lemmas.List.{get_or_at}
use Rattle.code.specs.Definitions.Lists.{tabulate}
use Rattle.code.specs.Definitions.Sheets.{limits}
use Rattle.code.specs.Definitions.Bans.{Copy, no_copy, has_copy, copy_at, origin}
use Rattle.code.specs.Laws.Lists.{get_d_tabulate, tabulate_list}
use Rattle.ban_theory.specs.CopyLists.{Once, origin_word, origin_copy, origin_known}
use Rattle.ban_theory.specs.BanLists.{once_more}
use Rattle.ban_copies.specs.declared.Copies.{Copies}
use Rattle.ban_copies.specs.Arrays.{set-tabulate}

-- copy i of the arrays
abbrev pub copy_held : Copies → ℕ → Copy
copy_held k i = record { behind = get_or k.behind (k.originals + i) 0; of = get_or k.origins (k.originals + i) 0 }

unfoldable pub held : Copies → List Copy
held k = tabulate (copy_held k) k.number

-- for a copy the word after which it stands, else 0
abbrev pub behind_at : ℕ → List Copy → ℕ → ℕ
behind_at n cs x = if ltb x n then 0 else (copy_at n cs x).behind

pub behind_none : (n x : ℕ) → behind_at n [] x ≡ 0
behind_none n x = go (dec_lt x n)
  where
    go : Dec (x < n) → behind_at n [] x ≡ 0
    go (yes l) = rw (lt-ltb x n l)
    go (no l) = rw (le-ltb x n (omega arith))

-- The arrays behind n words hold the copies cs, of known words and each once.
pub record Held (n : ℕ) (cs : List Copy) (k : Copies) : Type 0 where
  pub originals : k.originals ≡ n
  pub number : k.number ≡ length cs
  pub most : n + length cs ≤ limits.words
  pub origins : k.origins ≡ tabulate (origin n cs) limits.words
  pub behind : k.behind ≡ tabulate (behind_at n cs) limits.words
  pub copies : Once n cs

module _ {n : ℕ} {cs : List Copy} {k : Copies} (h : Held n cs k) where
  pub origin_at : (x : ℕ) → x < limits.words → get_or k.origins x 0 ≡ origin n cs x
  origin_at x l = rw h.origins (get_d_tabulate (origin n cs) limits.words x 0 l)

  pub behind_at_lem : (x : ℕ) → x < limits.words → get_or k.behind x 0 ≡ behind_at n cs x
  behind_at_lem x l = rw h.behind (get_d_tabulate (behind_at n cs) limits.words x 0 l)

  copy_at_lem : (i : ℕ) → i < length cs → copy_held k i ≡ get_or cs i no_copy
  copy_at_lem i l =
      let most = h.most in
      let e : n + i - n ≡ i = omega arith in
      let b : get_or k.behind (n + i) 0 ≡ (get_or cs i no_copy).behind = behind_at_lem (n + i) (omega arith) ∙ rw (le-ltb (n + i) n (omega arith), e) in
      let o : get_or k.origins (n + i) 0 ≡ (get_or cs i no_copy).of = origin_at (n + i) (omega arith) ∙ origin_copy n cs (n + i) (omega arith) ∙ rw e in
      rw (h.originals, b, o)

  pub held_is : held k ≡ cs
  unfolding held
  held_is = rw h.number (tabulate_list (copy_held k) (length cs) cs no_copy refl copy_at_lem)

  -- The arrays have numbers of words.
  pub number_below : (x : ℕ) → x < k.originals + k.number → get_or k.origins x 0 < n
  number_below x l =
      let o = h.originals in
      let m = h.number in
      rw (origin_at x (omega (arith, h.most))) (origin_known n cs h.copies x (omega arith))

  -- The arrays hold the copies behind their own number of words, and their own list.
  pub held_own : Held k.originals cs k
  held_own = subst (λ (m : ℕ). Held m cs k) (sym h.originals) h

  pub held_again : Held k.originals (held k) k
  held_again = rw held_is held_own

-- One copy more
module _ (n : ℕ) (cs : List Copy) (c : Copy) where
  copy_kept : (x : ℕ) → n ≤ x → (x ≡ n + length cs → ⊥) → Dec (x < n + length cs) → copy_at n (cs ++ (c ∷ [])) x ≡ copy_at n cs x
  copy_kept x l e (yes m) = get_or-append cs (c ∷ []) no_copy (x - n) (omega arith)
  copy_kept x l e (no m) =
      get_or-eq_default (cs ++ (c ∷ [])) no_copy {n = x - n} (omega (arith, length-append cs (c ∷ []))) ∙ sym (get_or-eq_default cs no_copy {n = x - n} (omega arith))

  copy_new : copy_at n (cs ++ (c ∷ [])) (n + length cs) ≡ c
  copy_new = get_or_at cs c [] no_copy (n + length cs - n) (omega arith)

  origin_new : origin n (cs ++ (c ∷ [])) (n + length cs) ≡ c.of
  origin_new = origin_copy n (cs ++ (c ∷ [])) (n + length cs) (omega arith) ∙ ap (λ (d : Copy). d.of) copy_new

  behind_new : behind_at n (cs ++ (c ∷ [])) (n + length cs) ≡ c.behind
  behind_new = rw (le-ltb (n + length cs) n (omega arith)) (ap (λ (d : Copy). d.behind) copy_new)

  origin_kept : (x : ℕ) → (x ≡ n + length cs → ⊥) → origin n (cs ++ (c ∷ [])) x ≡ origin n cs x
  origin_kept x e = go (dec_lt x n)
    where
      go : Dec (x < n) → origin n (cs ++ (c ∷ [])) x ≡ origin n cs x
      go (yes m) = origin_word n (cs ++ (c ∷ [])) x m ∙ sym (origin_word n cs x m)
      go (no m) =
          let l : n ≤ x = omega arith in
          origin_copy n (cs ++ (c ∷ [])) x l ∙ ap (λ (d : Copy). d.of) (copy_kept x l e (dec_lt x (n + length cs))) ∙ sym (origin_copy n cs x l)

  behind_kept : (x : ℕ) → (x ≡ n + length cs → ⊥) → behind_at n (cs ++ (c ∷ [])) x ≡ behind_at n cs x
  behind_kept x e = go (dec_lt x n)
    where
      go : Dec (x < n) → behind_at n (cs ++ (c ∷ [])) x ≡ behind_at n cs x
      go (yes m) = rw (lt-ltb x n m)
      go (no m) = let l : n ≤ x = omega arith in rw (le-ltb x n l) (ap (λ (d : Copy). d.behind) (copy_kept x l e (dec_lt x (n + length cs))))

-- the arrays with the copy of z after y behind the others
abbrev pub with_copy : ℕ → ℕ → ℕ → Copies → Copies
with_copy y z len k = record {
  originals = k.originals;
  number = k.number + 1;
  origins = set k.origins (k.originals + k.number) z;
  behind = set k.behind (k.originals + k.number) y;
  symbols = k.symbols + len;
}

pub held_more : {n : ℕ} {cs : List Copy} {k : Copies} (y z len : ℕ) → Held n cs k → has_copy cs y z ≡ false → y < n → z < n → n + length cs < limits.words
    → Held n (cs ++ (record { behind = y; of = z } ∷ [])) (with_copy y z len k)
held_more {n} {cs} {k} y z len h fresh y< z< room =
    let c : Copy = record { behind = y; of = z } in
    let long = length-append cs (c ∷ []) in
    record {
      originals = h.originals;
      number = omega (arith, h.number, long);
      most = omega (arith, long);
      origins = rw (h.originals, h.number, h.origins)
          (set-tabulate (origin n cs) (origin n (cs ++ (c ∷ []))) limits.words (n + length cs) z room (origin_new n cs c) (origin_kept n cs c));
      behind = rw (h.originals, h.number, h.behind)
          (set-tabulate (behind_at n cs) (behind_at n (cs ++ (c ∷ []))) limits.words (n + length cs) y room (behind_new n cs c) (behind_kept n cs c));
      copies = once_more h.copies c fresh y< z<;
    }
