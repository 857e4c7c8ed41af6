-- A value that a sheet and a ban list give means the sheet's table with the list's bans.
use Rattle.std.specs.Prelude.{◌≡◌, refl, Bool, List, [], ◌∷◌, ◌++◌, ◌↔◌, ℕ, ◌<◌, Ok}
use Rattle.std.proofs.Math.Path.{sym}
use Rattle.std.proofs.Common.{ap, ◌∙◌, ext_get_or}
use Rattle.code.specs.declared.Code.{Code}
use Rattle.code.specs.declared.Enlarged.{Enlarged}
use Rattle.code.specs.declared.Limits.{Limits}
use Rattle.code.specs.Definitions.Tables.{Table, size, word, Permitted, message, table_of}
use Rattle.code.specs.Definitions.Bans.{banned_by, with_bans}
use Rattle.code.specs.Definitions.BanLists.{bans_of}
use Rattle.code.specs.Definitions.Enlarged.{plain_of, enlarged_code, original_table}
use Rattle.code.specs.Definitions.Operations.{Enlarges, refused, enlarged, FromLists}
use Rattle.ban_theory.specs.Covers.{Cover}
use Rattle.well_enlarged.specs.FromBans.{FromBans}
use Rattle.well_enlarged.specs.Made.{from_bans}
use Rattle.well_enlarged.specs.Back.{original_size}
use Rattle.well_enlarged.specs.Meaning.{Covers, value_covers, bans_covers, bans_permitted}
use Rattle.well_enlarged.specs.Listed.{given_by, accepted_never}
use Rattle.well_formed.specs.Given.{well}
use Rattle.code.specs.Laws.WellFormed.{WellFormed}
use Rattle.code.specs.Laws.Words.{size-count}
use Rattle.ban_meaning.specs.Alike.{Alike, same_size, same_message}
use Rattle.ban_meaning.specs.OneToOne.{OneToOne, originals, numbers, covers_match}
use Rattle.ban_meaning.specs.Given.{table_with}

-- Tables of one size that one table covers, by the same names, have the same words.
same_words : {d t u : Table} {name start : ℕ → ℕ} {after : ℕ → ℕ → ℕ} → Cover d t name start after → Cover d u name start after → size t ≡ size u → t.words ≡ u.words
same_words {d} {t} {u} {name} {start} c k long =
    ext_get_or [] t.words u.words long (λ x h. sym (in_cover c x h) ∙ in_cover k x (rw (sym long) h))
  where
    in_cover : {v : Table} {after : ℕ → ℕ → ℕ} → Cover d v name start after → (x : ℕ) → x < size v → word d (start x) ≡ word v x
    in_cover {v} m x h = m.words (start x) (m.start_known x h) ∙ ap (word v) (m.start_named x h)

-- Bans do not change messages.
bans_message : (t : Table) (b : ℕ → ℕ → ℕ → Bool) (s : List ℕ) → message (with_bans t b) s ≡ message t s
bans_message t b [] = refl
bans_message t b (x ∷ s) = ap (λ (m : List ℕ). word t x ++ m) (bans_message t b s)

-- the table that a value was made of, with its bans
abbrev bans_table : {l : Limits} {e : Enlarged} → FromBans l e → Table
bans_table g = with_bans (table_of g.base) (banned_by g.bans)

module _ {l : Limits} {e : Enlarged} (g : FromBans l e) where
  originals-count : e.originals ≡ g.base.count
  unfolding enlarged_code
  originals-count = sym (ap (λ (d : Enlarged). d.originals) g.same)

  bans_size : size (original_table e) ≡ size (bans_table g)
  bans_size = original_size (from_bans g) ∙ originals-count ∙ sym (size-count g.given)

  pub bans_alike : Alike (original_table e) (bans_table g)
  bans_alike = record { words = same_words (value_covers (from_bans g)) (bans_covers g) bans_size; permitted = λ s. bans_permitted g }

module _ {l : Limits} {e : Enlarged} where
  given_covers : (c : Code) (s : List ℕ) → WellFormed l c → Enlarges l (plain_of l c) s (record { answer = Ok tt; enlarged = e }) → Covers e (table_with c s)
  unfolding given_by
  given_covers c s w (refused h x) = absurd (accepted_never x)
  given_covers c s w (enlarged h x) = bans_covers (given_by c s w (enlarged h x))

  given_alike : (c : Code) (s : List ℕ) → WellFormed l c → Enlarges l (plain_of l c) s (record { answer = Ok tt; enlarged = e }) → Alike (original_table e) (table_with c s)
  unfolding given_by
  given_alike c s w (refused h x) = absurd (accepted_never x)
  given_alike c s w (enlarged h x) = bans_alike (given_by c s w (enlarged h x))

  module _ (f : FromLists l e) where
    -- A value is alike the table of its sheet with the bans of its list:
    pub lists_alike : Alike (original_table e) (table_with f.table f.list)
    lists_alike = given_alike f.table f.list (well f.given) f.gives

    -- it permits what these permit,
    pub lists_permitted : (s : List ℕ) → Permitted (original_table e) s ↔ Permitted (with_bans (table_of f.table) (banned_by (bans_of f.list))) s
    lists_permitted = lists_alike.permitted

    -- has as many words as the sheet,
    pub lists_size : size (original_table e) ≡ f.table.count
    lists_size = same_size lists_alike ∙ size-count (well f.given)

    -- and gives every sequence the message that the sheet's table gives it.
    pub lists_message : (s : List ℕ) → message (original_table e) s ≡ message (table_of f.table) s
    lists_message s = same_message lists_alike s ∙ bans_message (table_of f.table) (banned_by (bans_of f.list)) s

    -- 02, request 2: "The sequences of the enlarged code must match one to one the sequences that obey all bans": those of the sheet's table that obey the list's
    pub lists_match : OneToOne (table_of e.code) (with_bans (table_of f.table) (banned_by (bans_of f.list))) (originals e) (numbers e)
    lists_match = covers_match e (given_covers f.table f.list (well f.given) f.gives)
