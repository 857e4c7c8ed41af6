-- A cover is known by what it says of its own words: a table that agrees with it below its size covers the same table. And two tables that one table covers,
-- by the same names, permit the same sequences.
use Rattle.std.specs.Prelude.{◌≡◌, List, ℕ, ◌<◌}
use Rattle.std.proofs.Common.{sym, ◌∙◌, subst}
use Rattle.code.specs.Definitions.Tables.{Table, size, word, Permitted}
use Rattle.code.specs.Laws.Sequences.{Free}
use Rattle.ban_theory.specs.Covers.{Cover, named_permitted, lifted_permitted, lifted_named}

-- d says the same of its words as e.
pub record Agrees (d e : Table) : Type 0 where
  pub free : Free d
  pub same_size : size d ≡ size e
  pub words : (x : ℕ) → x < size e → word d x ≡ word e x
  pub begins : (x : ℕ) → x < size e → d.begins x ≡ e.begins x
  pub follow : (x y : ℕ) → x < size e → y < size e → d.follow x y ≡ e.follow x y

module _ {d e t : Table} {name start : ℕ → ℕ} {after : ℕ → ℕ → ℕ} (c : Cover e t name start after) (a : Agrees d e) where
  here : (x : ℕ) → x < size d → x < size e
  here x h = subst (λ (n : ℕ). x < n) a.same_size h

  there : (x : ℕ) → x < size e → x < size d
  there x h = subst (λ (n : ℕ). x < n) (sym a.same_size) h

  -- A table that agrees with a covering table covers the same table.
  pub cover_same : Cover d t name start after
  cover_same = record {
    free = a.free;
    named = λ x h. c.named x (here x h);
    words = λ x h. a.words x (here x h) ∙ c.words x (here x h);
    start_known = λ x h. there (start x) (c.start_known x h);
    start_named = c.start_named;
    after_known = λ y x h k. there (after y x) (c.after_known y x h k);
    after_named = c.after_named;
    begins = λ x h b. a.begins (start x) (c.start_known x h) ∙ c.begins x h b;
    begin_start = λ x h b. c.begin_start x (here x h) (sym (a.begins x (here x h)) ∙ b);
    begin_named = λ x h b. c.begin_named x (here x h) (sym (a.begins x (here x h)) ∙ b);
    follow-after = λ x y h k f. c.follow-after x y (here x h) (here y k) (sym (a.follow x y (here x h) (here y k)) ∙ f);
    follow_named = λ x y h k f. c.follow_named x y (here x h) (here y k) (sym (a.follow x y (here x h) (here y k)) ∙ f);
    follow_obeys = λ w y x h k l f. c.follow_obeys w y x h k (here x l) (sym (a.follow x (after w y) (here x l) (c.after_known w y h k)) ∙ f);
    follows_start = λ y x h k f. a.follow (after y x) (start y) (c.after_known y x h k) (c.start_known y h) ∙ c.follows_start y x h k f;
    follows = λ w y x h k l f b. a.follow (after y x) (after w y) (c.after_known y x k l) (c.after_known w y h k) ∙ c.follows w y x h k l f b;
  }

module _ {e t u : Table} {name start : ℕ → ℕ} {after : ℕ → ℕ → ℕ} (c : Cover e t name start after) (d : Cover e u name start after) where
  -- What t permits u permits.
  pub covered_alike : {s : List ℕ} → Permitted t s → Permitted u s
  covered_alike p = subst (Permitted u) (lifted_named c p) (named_permitted d (lifted_permitted c p))
