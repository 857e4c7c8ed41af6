-- A list of 0 bytes is accepted, and gives the sheet's own table.
use Rattle.std.specs.Prelude.{◌≡◌, refl, Bool, true, false, ℕ, ◌+◌, ◌≤◌, ◌<◌, eqb, get_or, if◌then◌else◌, Ok}
use Rattle.std.proofs.Common.{sym, ◌∙◌, true≢false}
use Rattle.std.proofs.Math.Path.{ap}
use Rattle.std.proofs.Math.Bool.{and-true, and-false}
use mathlib.Core.List.{List, [], map}
use Rattle.std.proofs.Math.Decide.{dec_lt}
use native.Mathlib.Omega.{arith}
use Rattle.std.proofs.Math.ListN.{length}
use borrow.Author.Tests.{eqb-true, eqb-false, lt-ltb, le-ltb}
use Rattle.code.specs.declared.Code.{Code}
use Rattle.code.specs.declared.Enlargement.{Enlargement}
use Rattle.code.specs.declared.Limits.{Limits}
use Rattle.code.specs.Definitions.Lists.{any, tabulate, sum}
use Rattle.code.specs.Definitions.Tables.{no_word, no_row, entry_of, table_of}
use Rattle.code.specs.Definitions.Sheets.{bad_bytes, FromSheet}
use Rattle.code.specs.Definitions.Bans.{banned_by, copies_from, copies_of, origin, may_come, enlarged}
use Rattle.code.specs.Definitions.BanLists.{ban_records, refused16, bans_of}
use Rattle.code.specs.Definitions.Enlarged.{plain_of, enlarged_word, enlarged_entry, behind_of, enlarged_code, refused17}
use Rattle.code.specs.Definitions.Operations.{Enlarges, enlarged as accepted, FromLists}
use Rattle.code.specs.Laws.Lists.{tabulate_list, tabulate_same, sum_past}
use Rattle.ban_theory.specs.CopyLists.{origin_word}
use Rattle.ban_theory.specs.BanLists.{no_ban, copies_serve}
use Rattle.well_enlarged.proofs.Laws.Plain.{none_stand}
use Rattle.well_enlarged.specs.Totals.{enlarged_lengths}
use Rattle.well_formed.specs.Given.{well}
use Rattle.code.specs.Laws.WellFormed.{len_of, WellFormed}
use Rattle.code.specs.Laws.Words.{size-count}
use Rattle.ban_meaning.specs.Answered.{enlarges_unique}

none_copied : copies_of [] ≡ []
unfolding copies_from
none_copied = refl

none_listed : bans_of [] ≡ []
unfolding bans_of ban_records
none_listed = refl

none_wrong : (n : ℕ) → refused16 n [] ≡ false
unfolding refused16 ban_records bad_bytes any
none_wrong n = refl

entry_bit : (v : ℕ) → v < 2 → (t : Bool) → eqb v 1 ≡ t → (if t then 1 else 0) ≡ v
entry_bit v h true e = sym (eqb-true v 1 e)
entry_bit v h false e = let n = eqb-false v 1 e in omega arith

module _ {l : Limits} {c : Code} (given : WellFormed l c) where
  word_at : (x : ℕ) → Dec (x < c.count) → enlarged_word l c [] x ≡ get_or c.words x no_word
  unfolding copies_from
  word_at x (yes k) = rw (lt-ltb x (c.count + 0) (omega arith), origin_word c.count [] x k)
  word_at x (no k) = rw (le-ltb x (c.count + 0) (omega arith))

  may_come_lem : (x y : ℕ) → x < c.count → y < c.count → may_come (table_of c) [] (banned_by []) x y ≡ eqb (entry_of c x y) 1
  unfolding may_come
  may_come_lem x y h k =
      rw (size-count given, origin_word c.count [] x h, origin_word c.count [] y k, none_stand c.count x y h, lt-ltb y c.count k)
      (and-true (eqb (entry_of c x y) 1))

  entry_at : (x y : ℕ) → x < l.words → Dec (x < c.count) → Dec (y < c.count) → enlarged_entry l c [] x y ≡ entry_of c x y
  unfolding copies_from
  entry_at x y i (yes h) (yes k) =
      rw (lt-ltb x (c.count + 0) (omega arith), lt-ltb y (c.count + 0) (omega arith), may_come_lem x y h k) (entry_bit (entry_of c x y) ((given.row x i).entries.below y) (eqb (entry_of c x y) 1) refl)
  entry_at x y i (yes h) (no k) = rw (le-ltb y (c.count + 0) (omega arith), and-false) (sym ((given.row x i).entries.zero y (omega arith)))
  entry_at x y i (no h) k = rw (le-ltb x (c.count + 0) (omega arith)) (sym ((given.row x i).unused (omega arith) y))

  row_at : (x : ℕ) → x < l.words → record { entries = tabulate (enlarged_entry l c [] x) l.words } ≡ get_or c.rows x no_row
  row_at x h =
      ap (λ (es : List ℕ). record { entries = es })
      (tabulate_list (enlarged_entry l c [] x) l.words (get_or c.rows x no_row).entries 0 (given.row x h).array (λ y k. entry_at x y h (dec_lt x c.count) (dec_lt y c.count)))

  behind_at_lem : (x : ℕ) → Dec (x < c.count) → behind_of l c [] x ≡ 0
  unfolding copies_from
  behind_at_lem x (yes k) = rw (lt-ltb x c.count k)
  behind_at_lem x (no k) = rw (le-ltb x c.count (omega arith))

  -- Without a ban the enlarged code is the table.
  pub none_enlarged : enlarged_code l c [] ≡ plain_of l c
  unfolding enlarged_code plain_of copies_from
  none_enlarged =
      let words = tabulate_list (enlarged_word l c []) l.words c.words no_word given.words (λ x h. word_at x (dec_lt x c.count)) in
      let rows = tabulate_list (λ x. record { entries = tabulate (enlarged_entry l c [] x) l.words }) l.words c.rows no_row given.rows row_at in
      let behind = tabulate_same (behind_of l c []) (λ x. 0) l.words (λ x h. behind_at_lem x (dec_lt x c.count)) in
      let count : c.count + length (copies_of []) ≡ c.count = omega arith in
      rw (words, rows, behind, count)

  lengths : sum (tabulate (λ x. len_of c (origin c.count [] x)) (c.count + 0)) ≡ sum (tabulate (len_of c) l.words)
  lengths =
      ap sum (tabulate_same (λ x. len_of c (origin c.count [] x)) (len_of c) (c.count + 0) (λ x h. ap (len_of c) (origin_word c.count [] x (omega arith))))
      ∙ sym (sum_past (len_of c) (c.count + 0) l.words (omega (arith, given.most)) (λ k h i. (given.word k i).unused (omega arith)))

  none_room : refused17 l c [] ≡ false
  unfolding copies_from
  none_room =
      let symbols = sum (map length (enlarged (table_of c) (copies_of []) (banned_by [])).words) in
      let short : symbols ≤ l.total = omega (arith, given.total, ap sum (enlarged_lengths given (copies_serve [] no_ban)) ∙ lengths) in
      rw (le-ltb l.words (c.count + 0) (omega (arith, given.most))) (le-ltb l.total symbols short)

-- 02, request 2: "0 bytes hold no ban"
pub empty_list : {l : Limits} {c : Code} → FromSheet l c → Enlarges l (plain_of l c) [] (record { answer = Ok tt; enlarged = plain_of l c })
unfolding plain_of
empty_list {l} {c} given =
    accepted (
      (λ h. absurd (omega arith)),
      (
        (λ none. none (record { given = given; plain = refl })),
        ((λ h. true≢false (sym h ∙ none_wrong c.count)), ((λ h. true≢false (sym h ∙ rw none_listed (none_room (well given)))), tt)),
      ),
    )
    (rw (none_listed, none_enlarged (well given)))

pub empty_gives : {l : Limits} {c : Code} {x : Enlargement} → FromSheet l c → Enlarges l (plain_of l c) [] x → x ≡ record { answer = Ok tt; enlarged = plain_of l c }
empty_gives given e = enlarges_unique e (empty_list given)

-- So the value without copies of a sheet's code is one that a sheet and a list give.
pub plain_lists : {l : Limits} {c : Code} → FromSheet l c → FromLists l (plain_of l c)
plain_lists {c = c} given = record { table = c; given = given; list = []; gives = empty_list given }
