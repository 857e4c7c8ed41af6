-- A covering table whose words are put in another order covers the same table. With the words in the order of their names, the first readings by number are
-- the first by name (Matches).
use Rattle.std.specs.Prelude.{◌≡◌, true, ℕ, ◌<◌}
use Rattle.std.proofs.Math.Path.{sym, ap, subst₂}
use Rattle.std.proofs.Common.{◌∙◌, subst}
use mathlib.Core.List.{[]}
use Rattle.code.specs.Definitions.Lists.{tabulate}
use Rattle.code.specs.Definitions.Tables.{Table, size, word}
use Rattle.code.specs.Laws.Lists.{length-tabulate, get_d_tabulate}
use Rattle.ban_theory.specs.Covers.{Cover}

-- `old i` is the number of the word that becomes i, `new x` the number that word x becomes.
pub record Order (n : ℕ) (old new : ℕ → ℕ) : Type 0 where
  pub old_known : (i : ℕ) → i < n → old i < n
  pub new_known : (x : ℕ) → x < n → new x < n
  pub new-old : (i : ℕ) → i < n → new (old i) ≡ i
  pub old-new : (x : ℕ) → x < n → old (new x) ≡ x

unfoldable pub renumbered : Table → (ℕ → ℕ) → Table
renumbered e old = record {
  words = tabulate (λ i. word e (old i)) (size e);
  follow = λ i j. e.follow (old i) (old j);
  begins = λ i. e.begins (old i);
  banned = λ x y z. e.banned (old x) (old y) (old z);
}

module _ {e t : Table} {name start : ℕ → ℕ} {after : ℕ → ℕ → ℕ} (c : Cover e t name start after) {old new : ℕ → ℕ} (o : Order (size e) old new) where
  same_size : size (renumbered e old) ≡ size e
  unfolding renumbered
  same_size = length-tabulate (λ i. word e (old i)) (size e)

  known : (i : ℕ) → i < size (renumbered e old) → i < size e
  known i h = subst (λ (n : ℕ). i < n) same_size h

  old_known : (i : ℕ) → i < size (renumbered e old) → old i < size e
  old_known i h = o.old_known i (known i h)

  new_known : (x : ℕ) → x < size e → new x < size (renumbered e old)
  new_known x h = subst (λ (n : ℕ). new x < n) (sym same_size) (o.new_known x h)

  -- Put in another order, a covering table covers the same table.
  pub renumbered_covers : Cover (renumbered e old) t (λ i. name (old i)) (λ x. new (start x)) (λ y x. new (after y x))
  unfolding renumbered
  renumbered_covers = record {
    free = λ x y z. c.free (old x) (old y) (old z);
    named = λ i h. c.named (old i) (old_known i h);
    words = λ i h. get_d_tabulate (λ k. word e (old k)) (size e) i [] (known i h) ∙ c.words (old i) (old_known i h);
    start_known = λ x h. new_known (start x) (c.start_known x h);
    start_named = λ x h. ap name (o.old-new (start x) (c.start_known x h)) ∙ c.start_named x h;
    after_known = λ y x h k. new_known (after y x) (c.after_known y x h k);
    after_named = λ y x h k. ap name (o.old-new (after y x) (c.after_known y x h k)) ∙ c.after_named y x h k;
    begins = λ x h b. ap e.begins (o.old-new (start x) (c.start_known x h)) ∙ c.begins x h b;
    begin_start = λ i h b. sym (o.new-old i (known i h)) ∙ ap new (c.begin_start (old i) (old_known i h) b);
    begin_named = λ i h b. c.begin_named (old i) (old_known i h) b;
    follow-after = λ i j h k f. sym (o.new-old i (known i h)) ∙ ap new (c.follow-after (old i) (old j) (old_known i h) (old_known j k) f);
    follow_named = λ i j h k f. c.follow_named (old i) (old j) (old_known i h) (old_known j k) f;
    follow_obeys = λ w y i h k l f.
        c.follow_obeys w y (old i) h k (old_known i l) (subst (λ (v : ℕ). e.follow (old i) v ≡ true) (o.old-new (after w y) (c.after_known w y h k)) f);
    follows_start = λ y x h k f.
        subst₂ (λ (a d : ℕ). e.follow a d ≡ true) (sym (o.old-new (after y x) (c.after_known y x h k))) (sym (o.old-new (start y) (c.start_known y h))) (c.follows_start y x h k f);
    follows = λ w y x h k l f b.
        subst₂ (λ (a d : ℕ). e.follow a d ≡ true) (sym (o.old-new (after y x) (c.after_known y x k l))) (sym (o.old-new (after w y) (c.after_known w y h k))) (c.follows w y x h k l f b);
  }
