-- What a well-enlarged value means: its plain code covers the table of original words with the bans, by the origins. So that table permits what the table and the bans
-- that the value was made of permit.
use Rattle.std.specs.Prelude.{◌≡◌, refl, false, List, [], ◌↔◌, ℕ, ◌<◌, get_or}
use Rattle.std.proofs.Math.Path.{sym, ap, fun_ext}
use Rattle.std.proofs.Common.{◌∙◌, subst, arith, get_or-take}
use Rattle.std.proofs.Math.Decide.{dec_lt}
use borrow.Author.Tests.{lt-ltb, le-ltb}
use Rattle.code.specs.declared.Code.{Code}
use Rattle.code.specs.declared.Enlarged.{Enlarged}
use Rattle.code.specs.declared.Limits.{Limits}
use Rattle.code.specs.Definitions.Tables.{Table, size, word, Permitted, symbols_of, table_of}
use Rattle.code.specs.Definitions.Bans.{Ban, banned_by, with_bans, copies_of, origin, number_after, enlarged}
use Rattle.code.specs.Definitions.Enlarged.{enlarged_count, enlarged_code, refused17, copies_in, original_table}
use Rattle.ban_theory.specs.Covers.{Cover}
use Rattle.ban_theory.specs.CoversSame.{Agrees, cover_same, covered_alike}
use Rattle.ban_theory.specs.CopyLists.{Once, origin_known}
use Rattle.ban_theory.specs.Copies.{Serves, enlarged-size, enlarged_covers}
use Rattle.ban_theory.specs.BanLists.{Known}
use Rattle.ban_theory.specs.Enlargements.{in_serve}
use Rattle.code.specs.Laws.WellFormed.{WellFormed}
use Rattle.code.specs.Laws.Words.{size-count, word_symbols}
use Rattle.well_enlarged.specs.WellEnlarged.{Numbered, WellEnlarged}
use Rattle.well_enlarged.specs.Numbers.{all_numbers, origin_number}
use Rattle.well_enlarged.specs.FromBans.{FromBans}
use Rattle.well_enlarged.specs.Totals.{table_serves, enlarged-count}
use Rattle.well_enlarged.specs.Made.{bans_serve, word_of, follow_made, copies_made, code_made, made, from_bans}
use Rattle.well_enlarged.specs.Back.{well_once, original_size, original_entry, origin_same}
use Rattle.well_enlarged.specs.Base.{base_word_lem}

-- A value's plain code covers the table t: word x of t is x where a sequence begins, and behind y it is the copy of x after y, if there is one.
abbrev pub Covers : Enlarged → Table → Type 0
Covers e t = Cover (table_of e.code) t (λ x. get_or e.origins x 0) (λ x. x) (number_after e.originals (copies_in e))

-- The origins are those of the copies.
named : {l : Limits} {e : Enlarged} (v : Numbered l e) (t : Table)
    → Cover (table_of e.code) t (origin e.originals (copies_in e)) (λ x. x) (number_after e.originals (copies_in e)) → Covers e t
named {l} {e} v t = subst (λ (name : ℕ → ℕ). Cover (table_of e.code) t name (λ x. x) (number_after e.originals (copies_in e))) (fun_ext (origin_number v))

module _ {l : Limits} {e : Enlarged} (w : WellEnlarged l e) where
  serves : Serves (size (original_table e)) (copies_in e) (original_table e).banned
  serves = let once : Once (size (original_table e)) (copies_in e) = rw (original_size w) (well_once w) in in_serve once (table_of e.code).follow

  whole : Cover (enlarged (original_table e) (copies_in e) (original_table e).banned) (original_table e) (origin (size (original_table e)) (copies_in e)) (λ x. x)
      (number_after (size (original_table e)) (copies_in e))
  whole = enlarged_covers (original_table e) (copies_in e) (original_table e).banned serves

  whole_size : size (enlarged (original_table e) (copies_in e) (original_table e).banned) ≡ e.code.count
  whole_size = enlarged-size (original_table e) (copies_in e) (original_table e).banned ∙ rw (original_size w) (all_numbers w.numbers)

  -- A word of the value has the symbols of its origin.
  origin_symbols : (x : ℕ) → x < e.code.count → word (table_of e.code) x ≡ word (table_of e.code) (origin e.originals (copies_in e) x)
  origin_symbols x h =
      let o< = origin_known e.originals (copies_in e) (well_once w) x (omega (arith, all_numbers w.numbers)) in
      word_symbols w.code x h
      ∙ ap symbols_of (sym (origin_same w x h) ∙ base_word_lem w (origin e.originals (copies_in e) x) o<)
      ∙ sym (word_symbols w.code (origin e.originals (copies_in e) x) (omega (arith, w.numbers.most)))

  word_agrees : (x : ℕ) → x < e.code.count → word (table_of e.code) x ≡ word (enlarged (original_table e) (copies_in e) (original_table e).banned) x
  word_agrees x h =
      let o< = origin_known e.originals (copies_in e) (well_once w) x (omega (arith, all_numbers w.numbers)) in
      origin_symbols x h
      ∙ sym (whole.words x (rw whole_size h)
      ∙ rw (original_size w) (get_or-take e.originals (table_of e.code).words (origin e.originals (copies_in e) x) [] o<))

  begins_agree : (x : ℕ) → x < e.code.count → Dec (x < e.originals)
      → (table_of e.code).begins x ≡ (enlarged (original_table e) (copies_in e) (original_table e).banned).begins x
  begins_agree x h (yes i) = rw (original_size w, lt-ltb x e.originals i)
  begins_agree x h (no i) = rw (original_size w, le-ltb x e.originals (omega arith), (w.copy x (omega arith) h).mark)

  agrees : Agrees (table_of e.code) (enlarged (original_table e) (copies_in e) (original_table e).banned)
  agrees = record {
    free = λ x y z. refl;
    same_size = size-count w.code ∙ sym whole_size;
    words = λ x h. word_agrees x (rw whole_size at h);
    begins = λ x h. begins_agree x (rw whole_size at h) (dec_lt x e.originals);
    follow = λ x y h k. sym (original_entry w x y (rw whole_size at h) (rw whole_size at k));
  }

  -- The plain code covers the table of original words with the bans.
  pub value_covers : Covers e (original_table e)
  value_covers =
      named w.numbers (original_table e)
      (subst (λ (k : ℕ). Cover (table_of e.code) (original_table e) (origin k (copies_in e)) (λ x. x) (number_after k (copies_in e))) (original_size w) (cover_same whole agrees))

module _ {l : Limits} {c : Code} {bs : List Ban} (given : WellFormed l c) (known : Known c.count bs) (room : refused17 l c bs ≡ false)
    (apart : (x y : ℕ) → banned_by bs x y y ≡ false) where
  given_whole : Cover (enlarged (table_of c) (copies_of bs) (banned_by bs)) (with_bans (table_of c) (banned_by bs)) (origin c.count (copies_of bs)) (λ x. x) (number_after c.count (copies_of bs))
  given_whole =
      subst (λ (k : ℕ). Cover (enlarged (table_of c) (copies_of bs) (banned_by bs)) (with_bans (table_of c) (banned_by bs)) (origin k (copies_of bs)) (λ x. x) (number_after k (copies_of bs)))
      (size-count given)
      (enlarged_covers (table_of c) (copies_of bs) (banned_by bs) (table_serves given (bans_serve given known room)))

  given_word : (x : ℕ) → x < enlarged_count l c bs → word (table_of (enlarged_code l c bs).code) x ≡ word (enlarged (table_of c) (copies_of bs) (banned_by bs)) x
  unfolding enlarged_code
  given_word x h =
      let o< = origin_known c.count (copies_of bs) (bans_serve given known room).copies x h in
      word_symbols (code_made given known room) x h
      ∙ ap symbols_of (word_of given known room x h)
      ∙ sym (given_whole.words x (rw (enlarged-count given (bans_serve given known room)) h) ∙ word_symbols given (origin c.count (copies_of bs) x) o<)

  given_begins : (x : ℕ) → Dec (x < c.count) → (table_of (enlarged_code l c bs).code).begins x ≡ (enlarged (table_of c) (copies_of bs) (banned_by bs)).begins x
  unfolding enlarged_code
  given_begins x (yes h) = rw (size-count given, lt-ltb x c.count h)
  given_begins x (no h) = rw (size-count given, le-ltb x c.count (omega arith), given.marks.zero x (omega arith))

  given_agrees : Agrees (table_of (enlarged_code l c bs).code) (enlarged (table_of c) (copies_of bs) (banned_by bs))
  unfolding enlarged_code
  given_agrees =
      let count = enlarged-count given (bans_serve given known room) in
      record {
        free = λ x y z. refl;
        same_size = size-count (code_made given known room) ∙ sym count;
        words = λ x h. given_word x (rw count at h);
        begins = λ x h. given_begins x (dec_lt x c.count);
        follow = λ x y h k. follow_made given known room x y (rw count at h) (rw count at k);
      }

  -- It covers the table with its bans, too,
  given_covers : Covers (enlarged_code l c bs) (with_bans (table_of c) (banned_by bs))
  unfolding enlarged_code
  given_covers =
      named (made given known room apart).numbers (with_bans (table_of c) (banned_by bs)) (rw (copies_made given known room) (cover_same given_whole given_agrees))

-- as every value that comes from a table and bans does.
pub bans_covers : {l : Limits} {e : Enlarged} (g : FromBans l e) → Covers e (with_bans (table_of g.base) (banned_by g.bans))
bans_covers g = subst (λ (d : Enlarged). Covers d (with_bans (table_of g.base) (banned_by g.bans))) g.same (given_covers g.given g.known g.room g.apart)

-- So a value permits what the table and the bans that it was made of permit.
pub bans_permitted : {l : Limits} {e : Enlarged} (g : FromBans l e) {s : List ℕ} → Permitted (original_table e) s ↔ Permitted (with_bans (table_of g.base) (banned_by g.bans)) s
bans_permitted g = let w = from_bans g in (covered_alike (value_covers w) (bans_covers g), covered_alike (bans_covers g) (value_covers w))
