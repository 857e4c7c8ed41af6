-- What the numbers of a value say of its copies: how many there are, of which word each is one, and after which word it stands.
use Rattle.std.specs.Prelude.{◌≡◌, ℕ, ◌+◌, ◌-◌, ◌≤◌, ◌<◌, length, get_or}
use Rattle.std.proofs.Common.{sym, ap, ◌∙◌, arith}
use Rattle.std.proofs.Math.Decide.{dec_lt}
use Rattle.std.proofs.Math.ListN.{get_or-eq_default}
use Rattle.code.specs.declared.Enlarged.{Enlarged}
use Rattle.code.specs.declared.Limits.{Limits}
use Rattle.code.specs.Definitions.Bans.{Copy, no_copy, copy_at, origin, number_after}
use Rattle.code.specs.Definitions.Enlarged.{copies_in}
use Rattle.code.specs.Laws.Lists.{length-tabulate, get_d_tabulate, get_or_tabulate_past}
use Rattle.ban_theory.specs.CopyLists.{CopyAt, Once, origin_word, origin_copy, next_known}
use Rattle.well_enlarged.specs.WellEnlarged.{NumberFits, Numbered}

-- copy i of a value
abbrev pub copy_in : Enlarged → ℕ → Copy
copy_in e i = record { behind = get_or e.behind (e.originals + i) 0; of = get_or e.origins (e.originals + i) 0 }

pub count_copies : (e : Enlarged) → length (copies_in e) ≡ e.code.count - e.originals
count_copies e = length-tabulate (copy_in e) (e.code.count - e.originals)

pub copy_in_lem : (e : Enlarged) (i : ℕ) → i < length (copies_in e) → get_or (copies_in e) i no_copy ≡ copy_in e i
copy_in_lem e i h = get_d_tabulate (copy_in e) (e.code.count - e.originals) i no_copy (omega (arith, count_copies e))

module _ {l : Limits} {e : Enlarged} (v : Numbered l e) where
  -- The words and the copies are all there are.
  pub all_numbers : e.originals + length (copies_in e) ≡ e.code.count
  all_numbers = omega (arith, count_copies e, v.most)

  number_case : (x : ℕ) → Dec (x < l.words) → NumberFits e.originals e.code.count x (get_or e.origins x 0) (get_or e.behind x 0)
  number_case x (yes h) = v.number x h
  number_case x (no h) =
      let of : get_or e.origins x 0 ≡ 0 = get_or-eq_default e.origins 0 (omega (arith, v.origins)) in
      let behind : get_or e.behind x 0 ≡ 0 = get_or-eq_default e.behind 0 (omega (arith, v.behind)) in
      record {
        of_word = λ i. absurd (omega (arith, v.most, v.room));
        of_copy = λ i j. absurd (omega (arith, v.room));
        of_past = λ i. of;
        behind_word = λ i. behind;
        behind_copy = λ i j. absurd (omega (arith, v.room));
        behind_past = λ i. behind;
        apart = λ i j. absurd (omega (arith, v.room));
      }

  -- Past the arrays a read gives 0, so every number fits.
  pub number_at : (x : ℕ) → NumberFits e.originals e.code.count x (get_or e.origins x 0) (get_or e.behind x 0)
  number_at x = number_case x (dec_lt x l.words)

  copy_case : (x : ℕ) → e.originals ≤ x → Dec (x < e.code.count)
      → copy_at e.originals (copies_in e) x ≡ record { behind = get_or e.behind x 0; of = get_or e.origins x 0 }
  copy_case x h (yes k) =
      let at : e.originals + (x - e.originals) ≡ x = omega arith in
      copy_in_lem e (x - e.originals) (omega (arith, all_numbers)) ∙ rw at
  copy_case x h (no k) =
      get_or_tabulate_past (copy_in e) (e.code.count - e.originals) (x - e.originals) no_copy (omega arith)
      ∙ rw ((number_at x).of_past (omega arith), (number_at x).behind_past (omega arith))

  -- The copy that a number past the words is.
  pub copy_number : (x : ℕ) → e.originals ≤ x → copy_at e.originals (copies_in e) x ≡ record { behind = get_or e.behind x 0; of = get_or e.origins x 0 }
  copy_number x h = copy_case x h (dec_lt x e.code.count)

  origin_case : (x : ℕ) → Dec (x < e.originals) → origin e.originals (copies_in e) x ≡ get_or e.origins x 0
  origin_case x (yes h) = origin_word e.originals (copies_in e) x h ∙ sym ((number_at x).of_word h)
  origin_case x (no h) =
      let past : e.originals ≤ x = omega arith in
      origin_copy e.originals (copies_in e) x past ∙ ap (λ (c : Copy). c.of) (copy_number x past)

  -- The origins are those of the copies.
  pub origin_number : (x : ℕ) → origin e.originals (copies_in e) x ≡ get_or e.origins x 0
  origin_number x = origin_case x (dec_lt x e.originals)

  -- The number that x has after y is one of the value.
  pub next_within : (y x : ℕ) → x < e.originals → number_after e.originals (copies_in e) y x < e.code.count
  next_within y x h = omega (arith, next_known e.originals (copies_in e) y x h, all_numbers)

  -- The copies are of known words; so no two alike are each of them once.
  pub numbers_once : ((y z i j : ℕ) → CopyAt (copies_in e) y z i → CopyAt (copies_in e) y z j → i ≡ j) → Once e.originals (copies_in e)
  numbers_once once = record {
    behind_known = λ i h. rw (copy_in_lem e i h) ((number_at (e.originals + i)).behind_copy (omega arith) (omega (arith, all_numbers)));
    of_known = λ i h. rw (copy_in_lem e i h) ((number_at (e.originals + i)).of_copy (omega arith) (omega (arith, all_numbers)));
    once = λ i j a b. once _ _ i j a b;
  }
