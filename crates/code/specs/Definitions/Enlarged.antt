-- The value of a code with copies: how a table and its bans give one, and the table with bans that such a value stands for.
use Rattle.std.specs.Prelude.{Bool, ◌&&◌, ◌||◌, List, [], map, ℕ, ◌+◌, ◌-◌, ltb, length, take, get_or, if◌then◌else◌, Err, Ok}
use Rattle.code.specs.declared.Word.{Word}
use Rattle.code.specs.declared.Code.{Code}
use Rattle.code.specs.declared.Enlarged.{Enlarged}
use Rattle.code.specs.declared.Enlargement.{Enlargement}
use Rattle.code.specs.declared.Limits.{Limits}
use Rattle.code.specs.declared.Refusal.TheVariants.{BanLimit}
use Rattle.code.specs.Definitions.Lists.{tabulate, sum}
use Rattle.code.specs.Definitions.Tables.{Table, no_word, table_of}
use Rattle.code.specs.Definitions.Sheets.{blank_code}
use Rattle.code.specs.Definitions.Bans.{Ban, Copy, banned_by, copies_of, copy_at, origin, may_come, enlarged, table_in}

module _ (l : Limits) where
  -- A table without copies: each word stands for itself.
  unfoldable pub plain_of : Code → Enlarged
  unfolding origin
  plain_of c = record { code = c; originals = c.count; origins = tabulate (origin c.count []) l.words; behind = tabulate (λ x. 0) l.words }

  -- the table of a refused list: no word, and all zero
  unfoldable pub blank_enlarged : Enlarged
  blank_enlarged = plain_of (blank_code l)

  -- A table and its bans.
  module _ (c : Code) (bs : List Ban) where
    abbrev pub enlarged_count : ℕ
    enlarged_count = c.count + length (copies_of bs)

    -- Source 000, section 4: a copy has the symbols of its word. Past the last copy there is no word, as in the table.
    abbrev pub enlarged_word : ℕ → Word
    enlarged_word x = get_or c.words (if ltb x enlarged_count then origin c.count (copies_of bs) x else x) no_word

    abbrev pub enlarged_entry : ℕ → ℕ → ℕ
    enlarged_entry x y = if ltb x enlarged_count && (ltb y enlarged_count && may_come (table_of c) (copies_of bs) (banned_by bs) x y) then 1 else 0

    abbrev pub behind_of : ℕ → ℕ
    behind_of x = if ltb x c.count then 0 else (copy_at c.count (copies_of bs) x).behind

    -- 02, request 2: "The copy cannot begin a message": past the words the start marks of the table are zero.
    unfoldable pub enlarged_code : Enlarged
    unfolding origin may_come banned_by
    enlarged_code = record {
      code = record {
        words = tabulate enlarged_word l.words;
        rows = tabulate (λ x. record { entries = tabulate (enlarged_entry x) l.words }) l.words;
        begins = c.begins;
        count = enlarged_count;
      };
      originals = c.count;
      origins = tabulate (origin c.count (copies_of bs)) l.words;
      behind = tabulate behind_of l.words;
    }

    -- 17: "the copies pass the limits on words or symbols"
    abbrev pub refused17 : Bool
    refused17 = ltb l.words enlarged_count || ltb l.total (sum (map length (enlarged (table_of c) (copies_of bs) (banned_by bs)).words))

    -- 01: "Where none holds, the operation gives its result."
    unfoldable pub enlargement : Enlargement
    enlargement = if refused17 then record { answer = Err BanLimit; enlarged = blank_enlarged } else record { answer = Ok tt; enlarged = enlarged_code }

-- The copies of a value.
abbrev pub copies_in : Enlarged → List Copy
copies_in e = tabulate (λ i. record { behind = get_or e.behind (e.originals + i) 0; of = get_or e.origins (e.originals + i) 0 }) (e.code.count - e.originals)

-- 02, request 2: "the table of original words", with the bans: what a value means.
abbrev pub original_table : Enlarged → Table
original_table e = table_in (copies_in e) (table_of e.code).follow (take e.originals (table_of e.code).words) (table_of e.code).begins
