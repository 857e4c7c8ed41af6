-- The sequences of an enlarged code match one to one those that obey all bans, by the origins of their words, and behind any of them at most one of a word and
-- its copies may come.
use Rattle.std.specs.Prelude.{◌≡◌, List, [], ◌∷◌, ◌++◌, map, ℕ, ◌<◌, get_or}
use Rattle.std.proofs.Common.{sym, ap, ◌∙◌, eq-eqb}
use Rattle.std.proofs.Math.Decide.{ℕ_discrete}
use Rattle.code.specs.declared.Enlarged.{Enlarged}
use Rattle.code.specs.declared.Limits.{Limits}
use Rattle.code.specs.Definitions.Tables.{Table, size, Permitted, message, entry_of, table_of}
use Rattle.code.specs.Definitions.Bans.{number_after}
use Rattle.code.specs.Definitions.Enlarged.{copies_in, original_table}
use Rattle.ban_theory.specs.Covers.{lift, named_permitted, named_lift, named_message, lifted_permitted, lifted_named}
use Rattle.ban_theory.specs.Matches.{names_apart}
use Rattle.well_enlarged.specs.WellEnlarged.{WellEnlarged}
use Rattle.well_enlarged.specs.Meaning.{Covers, value_covers}
use Rattle.code.specs.Laws.Words.{size-count}

-- `there` takes the sequences that d permits to those that t permits, with the same messages, and `back` takes them back.
pub record OneToOne (d t : Table) (there back : List ℕ → List ℕ) : Type 0 where
  pub there_permitted : (s : List ℕ) → Permitted d s → Permitted t (there s)
  pub back_permitted : (s : List ℕ) → Permitted t s → Permitted d (back s)
  pub back-there : (s : List ℕ) → Permitted d s → back (there s) ≡ s
  pub there_back : (s : List ℕ) → Permitted t s → there (back s) ≡ s
  pub there-message : (s : List ℕ) → Permitted d s → message t (there s) ≡ message d s

-- the words that the numbers of a value stand for
abbrev pub originals : Enlarged → List ℕ → List ℕ
originals e s = map (λ x. get_or e.origins x 0) s

-- the numbers of a value for words: the first is the word itself, and each further one is the copy of its word after the word before it, if there is one
abbrev pub numbers : Enlarged → List ℕ → List ℕ
numbers e s = lift (λ x. x) (number_after e.originals (copies_in e)) s

pub covers_match : (e : Enlarged) {t : Table} → Covers e t → OneToOne (table_of e.code) t (originals e) (numbers e)
covers_match e c = record {
  there_permitted = λ s p. named_permitted c p;
  back_permitted = λ s p. lifted_permitted c p;
  back-there = λ s p. sym (named_lift c p);
  there_back = λ s p. lifted_named c p;
  there-message = λ s p. sym (named_message c p);
}

module _ {l : Limits} {e : Enlarged} (w : WellEnlarged l e) where
  -- 02, request 2: "The sequences of the enlarged code must match one to one the sequences that obey all bans"
  pub one_to_one : OneToOne (table_of e.code) (original_table e) (originals e) (numbers e)
  one_to_one = covers_match e (value_covers w)

  within : (x : ℕ) → x < e.code.count → x < size (table_of e.code)
  within x h = rw (size-count w.code) h

  -- Behind one number at most one of a word and its copies may come,
  pub one_follows : (x z y : ℕ) → x < e.code.count → z < e.code.count → y < e.code.count → entry_of e.code x y ≡ 1 → entry_of e.code z y ≡ 1
      → get_or e.origins x 0 ≡ get_or e.origins z 0 → x ≡ z
  one_follows x z y x< z< y< f g same =
      let c = value_covers w in
      c.follow-after x y (within x x<) (within y y<) (eq-eqb (entry_of e.code x y) 1 f)
      ∙ ap (number_after e.originals (copies_in e) (get_or e.origins y 0)) same
      ∙ sym (c.follow-after z y (within z z<) (within y y<) (eq-eqb (entry_of e.code z y) 1 g))

  -- and at most one of them may begin a message.
  pub one_begins : (x z : ℕ) → x < e.code.count → z < e.code.count → get_or e.code.begins x 0 ≡ 1 → get_or e.code.begins z 0 ≡ 1
      → get_or e.origins x 0 ≡ get_or e.origins z 0 → x ≡ z
  one_begins x z x< z< f g same =
      let c = value_covers w in
      c.begin_start x (within x x<) (eq-eqb (get_or e.code.begins x 0) 1 f)
      ∙ same
      ∙ sym (c.begin_start z (within z z<) (eq-eqb (get_or e.code.begins z 0) 1 g))

  next_case : (o : List ℕ) (x z : ℕ) → Permitted (table_of e.code) (o ++ (x ∷ [])) → Permitted (table_of e.code) (o ++ (z ∷ [])) → get_or e.origins x 0 ≡ get_or e.origins z 0
      → Dec (x ≡ z) → x ≡ z
  next_case o x z p q same (yes h) = h
  next_case o x z p q same (no h) = absurd (names_apart (value_covers w) o x z [] [] p q h same)

  -- So after any sequence at most one of a word and its copies may come.
  pub one_next : (o : List ℕ) (x z : ℕ) → Permitted (table_of e.code) (o ++ (x ∷ [])) → Permitted (table_of e.code) (o ++ (z ∷ []))
      → get_or e.origins x 0 ≡ get_or e.origins z 0 → x ≡ z
  one_next o x z p q same = next_case o x z p q same (ℕ_discrete x z)
