-- A value that a sheet and a ban list give means the sheet's table with the list's bans.
use Rattle.std.specs.Prelude.{◌≡◌, refl, Bool, false, List, [], ℕ, take}
use Rattle.std.proofs.Common.{ap, ◌∙◌, arith, length-take, take_all}
use Rattle.std.proofs.lemmas.List.{length-map}
use Rattle.code.specs.declared.Code.{Code}
use Rattle.code.specs.declared.Limits.{Limits}
use Rattle.code.specs.Definitions.Tables.{Table, symbols_of, table_of}
use Rattle.code.specs.Definitions.Lists.{any}
use Rattle.code.specs.Definitions.Bans.{banned_by, with_bans, Copy, has_copy, number_after, bans_in, table_in}
use Rattle.code.specs.Definitions.BanLists.{bans_of}
use Rattle.code.specs.Definitions.Enlarged.{plain_of, original_table}
use Rattle.well_enlarged.proofs.Laws.Plain.{no_copies}

-- The table of a sheet, with the bans of a list.
abbrev pub table_with : Code → List ℕ → Table
table_with c s = with_bans (table_of c) (banned_by (bans_of s))

-- Without copies a matrix says of words what it says of numbers, and bans nothing.
no_bans : (ws : List (List ℕ)) (entry : ℕ → ℕ → Bool) (marks : ℕ → Bool)
    → table_in [] entry ws marks ≡ record { words = ws; follow = entry; begins = marks; banned = λ x y z. false }
unfolding bans_in number_after has_copy any
no_bans ws entry marks = refl

all_words : (c : Code) → take c.count (table_of c).words ≡ (table_of c).words
all_words c = take_all c.count (table_of c).words (omega (arith, length-map (take c.count c.words) symbols_of, length-take c.count c.words))

-- A table without copies means itself.
pub plain_original : (l : Limits) (c : Code) → original_table (plain_of l c) ≡ table_of c
unfolding plain_of
plain_original l c =
    ap (λ (cs : List Copy). table_in cs (table_of c).follow (take c.count (table_of c).words) (table_of c).begins) (no_copies (plain_of l c) refl)
    ∙ ap (λ (ws : List (List ℕ)). table_in [] (table_of c).follow ws (table_of c).begins) (all_words c)
    ∙ no_bans (table_of c).words (table_of c).follow (table_of c).begins
