-- Every well-enlarged value comes from a table and bans: from the table read off it, and the bans of the words that may not come behind each copy.
use Rattle.std.specs.Prelude.{◌≡◌, Bool, true, false, not, ◌&&◌, List, map, ℕ, zero, suc, ◌+◌, ◌-◌, ◌*◌, ◌≤◌, ◌<◌, ltb, eqb, length, take, get_or, if◌then◌else◌}
use Rattle.std.proofs.Math.Path.{refl, sym}
use Rattle.std.proofs.Common.{ap, ◌∙◌, length-take-le, lt-ltb, le-ltb}
use Rattle.std.proofs.Math.Bool.{and-false, and-eq-true_iff}
use Rattle.std.proofs.Math.Decide.{dec_lt}
use native.Mathlib.Omega.{arith}
use Rattle.std.proofs.lemmas.Bool.{not-true}
use Rattle.code.specs.declared.Word.{Word}
use Rattle.code.specs.declared.Code.{Code}
use Rattle.code.specs.declared.Enlarged.{Enlarged}
use Rattle.code.specs.declared.Limits.{Limits}
use Rattle.code.specs.Definitions.Lists.{tabulate, sum}
use Rattle.code.specs.Definitions.Tables.{Table, size, no_word, no_row, entry_of, table_of}
use Rattle.code.specs.Definitions.Bans.{Ban, Copy, banned_by, has_copy, copy_index, copies_of, copy_at, origin, number_after, unbanned, may_come, enlarged, bans_in}
use Rattle.code.specs.Definitions.Enlarged.{enlarged_count, enlarged_word, enlarged_entry, behind_of, enlarged_code, refused17, copies_in, original_table}
use Rattle.code.specs.Laws.Lists.{tabulate_list, tabulate_same, sum_past}
use Rattle.ban_theory.specs.CopyLists.{CopyAt, Once, found, has_copy_lem, origin_word, origin_known}
use Rattle.ban_theory.specs.Copies.{Serves, comes, may_come_lem, unbanned_word, unbanned_copy}
use Rattle.ban_theory.specs.BanLists.{Known, known_all, copies_serve}
use Rattle.ban_theory.specs.Enlargements.{both_ways, Fair, same_matrix}
use Rattle.ban_theory.specs.Witnesses.{list_bans, ListBan, witness_copies, witness_length, witness_out, witness_in}
use Rattle.code.specs.Laws.WellFormed.{len_of}
use Rattle.code.specs.Laws.Words.{size-count}
use Rattle.well_formed.specs.Round.{word_is, row_is, code_is}
use Rattle.well_enlarged.specs.WellEnlarged.{barred, WellEnlarged}
use Rattle.well_enlarged.specs.Numbers.{count_copies, copy_in_lem, all_numbers, number_at, copy_number, origin_number, numbers_once}
use Rattle.well_enlarged.specs.FromBans.{FromBans}
use Rattle.well_enlarged.specs.Totals.{enlarged_lengths}
use Rattle.well_enlarged.specs.Base.{blank_word, base_of, base_word_lem, base_blank, base_given, base_follow}

-- Two tables of n words and their bans: what may come in one enlarged code may come in the other.
module _ {n : ℕ} (t u : Table) (size-t : size t ≡ n) (size-u : size u ≡ n) {cs : List Copy} (copies : Once n cs) (b d : ℕ → ℕ → ℕ → Bool)
    (follow : (x y : ℕ) → x < n → y < n → t.follow x y ≡ true → u.follow x y ≡ true)
    (bans : (x y z : ℕ) → x < n → y < n → z < n → b x y z ≡ false → d x y z ≡ false) where
  free_into : (x y : ℕ) → x < n + length cs → y < n + length cs → unbanned t cs b x y ≡ true → Dec (y < n) → unbanned u cs d x y ≡ true
  free_into x y h k e (yes i) = unbanned_word u cs d x y (rw size-u i)
  free_into x y h k e (no i) =
      let far : n ≤ y = omega arith in
      let none = not-true (b (origin n cs x) (copy_at n cs y).behind (origin n cs y)) (rw size-t at (sym (unbanned_copy t cs b x y (rw size-t far)) ∙ e)) in
      unbanned_copy u cs d x y (rw size-u far)
      ∙ rw (size-u, bans (origin n cs x) (copy_at n cs y).behind (origin n cs y) (origin_known n cs copies x h) (copies.behind_known (y - n) (omega arith)) (origin_known n cs copies y k) none)

  come_into : (x y : ℕ) → x < n + length cs → y < n + length cs → may_come t cs b x y ≡ true → may_come u cs d x y ≡ true
  come_into x y h k e =
      let c = comes t cs b x y e in
      may_come_lem u cs d x y (record {
        follow = rw size-u (follow (origin n cs x) (origin n cs y) (origin_known n cs copies x h) (origin_known n cs copies y k) (rw size-t at c.follow));
        stands = rw size-u (rw size-t at c.stands);
        free = free_into x y h k c.free (dec_lt y n);
      })

bit_back : (v : ℕ) → v < 2 → (if eqb v 1 then 1 else 0) ≡ v
bit_back zero h = refl
bit_back (suc zero) h = refl
bit_back (suc (suc v)) h = absurd (omega arith)

value_is : (e : Enlarged) (c : Code) (n : ℕ) (os bs : List ℕ) → c ≡ e.code → n ≡ e.originals → os ≡ e.origins → bs ≡ e.behind
    → record { code = c; originals = n; origins = os; behind = bs } ≡ e
value_is e c n os bs p q r s = rw (p, q, r, s)

-- The bans of a value: behind each copy, the words that may not come there.
abbrev pub bans_of : Enlarged → List Ban
bans_of e = list_bans (λ i. barred e (e.originals + i)) e.originals (copies_in e) 0

module _ {l : Limits} {e : Enlarged} (w : WellEnlarged l e) where
  pub well_once : Once e.originals (copies_in e)
  well_once = numbers_once w.numbers w.once

  -- The copies of the bans are those of the value.
  pub copies_back : copies_of (bans_of e) ≡ copies_in e
  copies_back =
      witness_copies (λ i. barred e (e.originals + i)) e.originals (copies_in e) well_once
      (λ j h. (w.copy (e.originals + j) (omega arith) (omega (arith, all_numbers w.numbers))).ban)

  -- What is banned

  barred_at : (x y z j : ℕ) → CopyAt (copies_in e) y z j
      → barred e (e.originals + j) x ≡ not ((table_of e.code).follow (number_after e.originals (copies_in e) z x) (e.originals + copy_index (copies_in e) y z))
  barred_at x y z j at =
      let index = w.once y z (copy_index (copies_in e) y z) j (found y z (copies_in e) (has_copy_lem at)) at in
      let of : get_or e.origins (e.originals + j) 0 ≡ z = ap (λ (c : Copy). c.of) (sym (copy_in_lem e j at.below)) ∙ at.of in
      rw (index, of)

  ban_out : (x y z : ℕ) → banned_by (bans_of e) x y z ≡ true → ListBan (λ i. barred e (e.originals + i)) e.originals (copies_in e) 0 x y z
  ban_out = witness_out (λ i. barred e (e.originals + i)) e.originals (copies_in e) 0

  ban_copy : (x y z : ℕ) → banned_by (bans_of e) x y z ≡ true → bans_in (copies_in e) (table_of e.code).follow e.originals x y z ≡ true
  unfolding bans_in
  ban_copy x y z b =
      let o = ban_out x y z b in
      let zero-add : 0 + o.j ≡ o.j = omega arith in
      (and-eq-true_iff (has_copy (copies_in e) y z) _).1 (has_copy_lem o.at, sym (barred_at x y z o.j o.at) ∙ rw zero-add at o.passes)

  copy_ban : (x y z : ℕ) → x < e.originals → bans_in (copies_in e) (table_of e.code).follow e.originals x y z ≡ true → banned_by (bans_of e) x y z ≡ true
  unfolding bans_in
  copy_ban x y z h b =
      let cs = copies_in e in
      let a = (and-eq-true_iff (has_copy cs y z) (not ((table_of e.code).follow (number_after e.originals cs z x) (e.originals + copy_index cs y z)))).0 b in
      let at = found y z cs a.0 in
      let zero-add : 0 + copy_index cs y z ≡ copy_index cs y z = omega arith in
      rw (at.behind, at.of) at
      (witness_in (λ i. barred e (e.originals + i)) e.originals cs 0 (copy_index cs y z) x at.below h (rw zero-add (barred_at x y z (copy_index cs y z) at ∙ a.1)))

  -- The bans are those that the matrix says.
  bans_back : (x y z : ℕ) → x < e.originals → banned_by (bans_of e) x y z ≡ bans_in (copies_in e) (table_of e.code).follow e.originals x y z
  bans_back x y z h = both_ways _ _ (ban_copy x y z) (copy_ban x y z h)

  -- A ban is one of its copy, so on known words that are two.
  known_back : Known e.originals (bans_of e)
  known_back = known_all (bans_of e) (λ x y z b.
      let o = ban_out x y z b in
      (o.below, (rw o.at.behind at (well_once.behind_known o.j o.at.below), rw o.at.of at (well_once.of_known o.j o.at.below))))

  apart_back : (x y : ℕ) → banned_by (bans_of e) x y y ≡ false
  apart_back x y = go (banned_by (bans_of e) x y y) refl
    where
      go : (a : Bool) → banned_by (bans_of e) x y y ≡ a → banned_by (bans_of e) x y y ≡ false
      go false b = b
      go true b =
          let o = ban_out x y y b in
          let copy = copy_in_lem e o.j o.at.below in
          absurd ((number_at w.numbers (e.originals + o.j)).apart (omega arith) (omega (arith, all_numbers w.numbers, o.at.below))
          (ap (λ (c : Copy). c.behind) (sym copy) ∙ o.at.behind ∙ sym (ap (λ (c : Copy). c.of) (sym copy) ∙ o.at.of)))

  -- The matrix

  pub original_size : length (take e.originals (table_of e.code).words) ≡ e.originals
  original_size = length-take-le e.originals (table_of e.code).words (rw (size-count w.code) w.numbers.most)

  pub original_entry : (x y : ℕ) → x < e.code.count → y < e.code.count
      → may_come (original_table e) (copies_in e) (original_table e).banned x y ≡ (table_of e.code).follow x y
  original_entry x y h k =
      let words = take e.originals (table_of e.code).words in
      let all : length words + length (copies_in e) ≡ e.code.count = omega (arith, original_size, all_numbers w.numbers) in
      let once : Once (length words) (copies_in e) = rw original_size well_once in
      let fair : Fair (length words) (copies_in e) (table_of e.code).follow = rw original_size w.fair in
      same_matrix words (table_of e.code).begins once fair x y (omega arith) (omega arith)

  base_bans : (x y z : ℕ) → x < e.originals → banned_by (bans_of e) x y z ≡ (original_table e).banned x y z
  base_bans x y z h = bans_back x y z h ∙ rw original_size

  base_entry_lem : (x y : ℕ) → x < e.originals → y < e.originals → (table_of (base_of l e)).follow x y ≡ (original_table e).follow x y
  base_entry_lem x y h k = base_follow w x y h k ∙ rw original_size

  matrix_back : (x y : ℕ) → x < e.code.count → y < e.code.count
      → may_come (table_of (base_of l e)) (copies_in e) (banned_by (bans_of e)) x y ≡ (table_of e.code).follow x y
  matrix_back x y h k =
      let all = all_numbers w.numbers in
      both_ways _ _
      (come_into (table_of (base_of l e)) (original_table e) (size-count (base_given w)) original_size well_once (banned_by (bans_of e)) (original_table e).banned
      (λ i j a b f. sym (base_entry_lem i j a b) ∙ f) (λ i j z a b c f. sym (base_bans i j z a) ∙ f) x y (omega arith) (omega arith))
      (come_into (original_table e) (table_of (base_of l e)) original_size (size-count (base_given w)) well_once (original_table e).banned (banned_by (bans_of e))
      (λ i j a b f. base_entry_lem i j a b ∙ f) (λ i j z a b c f. base_bans i j z a ∙ f) x y (omega arith) (omega arith))
      ∙ original_entry x y h k

  entry_case : (x y : ℕ) → x < l.words → Dec (x < e.code.count) → Dec (y < e.code.count)
      → (if ltb x (e.originals + length (copies_in e)) && (ltb y (e.originals + length (copies_in e)) && may_come (table_of (base_of l e)) (copies_in e) (banned_by (bans_of e)) x y) then 1 else 0) ≡ entry_of e.code x y
  entry_case x y h (yes i) (yes j) =
      rw (all_numbers w.numbers, lt-ltb x e.code.count i, lt-ltb y e.code.count j, matrix_back x y i j) (bit_back (entry_of e.code x y) ((w.code.row x h).entries.below y))
  entry_case x y h (yes i) (no j) = rw (all_numbers w.numbers, le-ltb y e.code.count (omega arith), and-false) (sym ((w.code.row x h).entries.zero y (omega arith)))
  entry_case x y h (no i) j = rw (all_numbers w.numbers, le-ltb x e.code.count (omega arith)) (sym ((w.code.row x h).unused (omega arith) y))

  entry_back : (x y : ℕ) → x < l.words → enlarged_entry l (base_of l e) (bans_of e) x y ≡ entry_of e.code x y
  entry_back x y h = rw copies_back (entry_case x y h (dec_lt x e.code.count) (dec_lt y e.code.count))

  -- The words

  origin_word_case : (x : ℕ) → x < e.code.count → Dec (x < e.originals) → get_or e.code.words (origin e.originals (copies_in e) x) no_word ≡ get_or e.code.words x no_word
  origin_word_case x h (yes i) = rw (origin_word e.originals (copies_in e) x i)
  origin_word_case x h (no i) = rw (origin_number w.numbers x) (sym (w.copy x (omega arith) h).word)

  -- A number has the word of its origin.
  pub origin_same : (x : ℕ) → x < e.code.count → get_or (base_of l e).words (origin e.originals (copies_in e) x) no_word ≡ get_or e.code.words x no_word
  origin_same x h =
      base_word_lem w (origin e.originals (copies_in e) x) (origin_known e.originals (copies_in e) well_once x (omega (arith, all_numbers w.numbers)))
      ∙ origin_word_case x h (dec_lt x e.originals)

  word_case : (x : ℕ) → x < l.words → Dec (x < e.code.count)
      → get_or (base_of l e).words (if ltb x (e.originals + length (copies_in e)) then origin e.originals (copies_in e) x else x) no_word ≡ get_or e.code.words x no_word
  word_case x h (yes i) = rw (all_numbers w.numbers, lt-ltb x e.code.count i) (origin_same x i)
  word_case x h (no i) =
      let word = get_or e.code.words x no_word in
      let fits = w.code.word x h in
      let none = fits.unused (omega arith) in
      rw (all_numbers w.numbers, le-ltb x e.code.count (omega arith))
      (base_blank w x (omega (arith, w.numbers.most)) h
      ∙ word_is word (blank_word l).symbols 0 (tabulate_list (λ p. 0) l.symbols word.symbols 0 fits.array (λ p k. sym (fits.symbols.zero p (omega arith)))) (sym none))

  word_back : (x : ℕ) → x < l.words → enlarged_word l (base_of l e) (bans_of e) x ≡ get_or e.code.words x no_word
  word_back x h = rw copies_back (word_case x h (dec_lt x e.code.count))

  behind_case : (x : ℕ) → Dec (x < e.originals) → (if ltb x e.originals then 0 else (copy_at e.originals (copies_in e) x).behind) ≡ get_or e.behind x 0
  behind_case x (yes h) = rw (lt-ltb x e.originals h) (sym ((number_at w.numbers x).behind_word h))
  behind_case x (no h) = let past : e.originals ≤ x = omega arith in rw (le-ltb x e.originals past) (ap (λ (c : Copy). c.behind) (copy_number w.numbers x past))

  -- The table and the bans give the value again.
  same_back : enlarged_code l (base_of l e) (bans_of e) ≡ e
  unfolding enlarged_code
  same_back =
      let base = base_of l e in
      let bans = bans_of e in
      let words = tabulate_list (enlarged_word l base bans) l.words e.code.words no_word w.code.words word_back in
      let rows = tabulate_list (λ x. record { entries = tabulate (enlarged_entry l base bans x) l.words }) l.words e.code.rows no_row w.code.rows (λ x h.
      row_is (get_or e.code.rows x no_row) (tabulate (enlarged_entry l base bans x) l.words)
      (tabulate_list (enlarged_entry l base bans x) l.words (get_or e.code.rows x no_row).entries 0 (w.code.row x h).array (λ y k. entry_back x y h))) in
      let count : enlarged_count l base bans ≡ e.code.count = rw copies_back (all_numbers w.numbers) in
      let origins = tabulate_list (origin e.originals (copies_of bans)) l.words e.origins 0 w.numbers.origins (λ x h. rw copies_back (origin_number w.numbers x)) in
      let behind = tabulate_list (behind_of l base bans) l.words e.behind 0 w.numbers.behind (λ x h. rw copies_back (behind_case x (dec_lt x e.originals))) in
      value_is e _ _ _ _ (code_is e.code _ _ _ _ words rows refl count) refl origins behind

  -- The limits

  serves_back : Serves e.originals (copies_of (bans_of e)) (banned_by (bans_of e))
  serves_back = copies_serve (bans_of e) known_back

  lengths_back : map length (enlarged (table_of (base_of l e)) (copies_of (bans_of e)) (banned_by (bans_of e))).words ≡ tabulate (len_of e.code) e.code.count
  lengths_back =
      enlarged_lengths (base_given w) serves_back
      ∙ rw (copies_back, all_numbers w.numbers)
      (tabulate_same (λ x. len_of (base_of l e) (origin e.originals (copies_in e) x)) (len_of e.code) e.code.count (λ x h. ap (λ (v : Word). v.len) (origin_same x h)))

  room_back : refused17 l (base_of l e) (bans_of e) ≡ false
  room_back =
      let symbols = sum (map length (enlarged (table_of (base_of l e)) (copies_of (bans_of e)) (banned_by (bans_of e))).words) in
      let used = sum_past (len_of e.code) e.code.count l.words w.code.most (λ k h i. (w.code.word k i).unused h) in
      let count : enlarged_count l (base_of l e) (bans_of e) ≡ e.code.count = rw copies_back (all_numbers w.numbers) in
      rw (le-ltb l.words (enlarged_count l (base_of l e) (bans_of e)) (omega (arith, w.code.most)), le-ltb l.total symbols (omega (arith, ap sum lengths_back, w.code.total)))

  -- Every well-enlarged value comes from a table and bans,
  pub to_bans : FromBans l e
  to_bans = record { base = base_of l e; given = base_given w; bans = bans_of e; known = known_back; apart = apart_back; room = room_back; same = same_back }

  -- and from no more bans than there are words for each copy.
  pub few_bans : length to_bans.bans ≤ (e.code.count - e.originals) * e.originals
  unfolding to_bans
  few_bans = rw (count_copies e) at (witness_length (λ i. barred e (e.originals + i)) e.originals (copies_in e) 0)
