-- Examples from sheet and ban list to output: code T of 01, and a code with a ban.
use Rattle.std.specs.Prelude.{◌≡◌, refl, true, false, List, [], ◌∷◌, ◌++◌, ℕ, ◌-◌, length, replicate, Ok, Result}
use Rattle.std.proofs.Common.{sym, ap, ◌∙◌, true≢false, arith}
use Rattle.code.specs.declared.Word.{Word}
use Rattle.code.specs.declared.Row.{Row}
use Rattle.code.specs.declared.Code.{Code}
use Rattle.code.specs.declared.Enlarged.{Enlarged}
use Rattle.code.specs.declared.Taken.{Taken}
use Rattle.code.specs.declared.Verdict.TheVariants.{Ambiguous as Two-ways, Finite}
use Rattle.code.specs.declared.Verdict.{Verdict}
use Rattle.code.specs.declared.Refusal.{Refusal}
use Rattle.code.specs.Definitions.Lists.{any, every, tabulate, sum, join}
use Rattle.code.specs.Definitions.Bans.{Ban, has_copy, copies_from}
use Rattle.code.specs.Definitions.BanLists.{decimal, number_of, is_number, bad_ban, ban_records, refused16, bans_of}
use Rattle.code.specs.Definitions.Enlarged.{plain_of, enlarged_code, refused17}
use Rattle.code.specs.Definitions.Operations.{Enlarges, enlarged, FromLists, written}
use Rattle.code.specs.Definitions.Sheets.{limits, body, records, fields, grid, bad_bytes, code_of, taken_grid, taken, FromSheet}
use Rattle.code.specs.Definitions.Tables.{table_of}
use Rattle.code.specs.Laws.Sequences.{Plain}
use Rattle.well_formed.specs.Given.{well}
use Rattle.csv_records.specs.Digits.{digit_of}
use Rattle.pair_places.specs.Codes.{code_fits}
use Rattle.cases.specs.Banned.{check_with}
use Rattle.cases.proofs.Banned.{sound_with}
use Rattle.cases.specs.Cases.{delay}
use Rattle.cases.specs.Enumeration.{readings}
use Rattle.cases.specs.Messages.{least_is}
use Rattle.cases.proofs.Messages.{ambiguous_means}
use Rattle.cases.specs.Readings.{first_two_of, first_two_means}
use Rattle.ban_meaning.specs.Alike.{same_verdict}
use Rattle.ban_meaning.specs.Empty.{empty_list}
use Rattle.ban_meaning.specs.Given.{plain_original}
use Rattle.ban_meaning.proofs.Given.{lists_alike}
use Rattle.printing.specs.Printed.{places}
use Rattle.verdict.specs.Answers.{sheet_accepted, RightFor, Answers}
use Rattle.verdict.specs.Unique.{answer_right}

-- the four records `0,1,1,1,1`, `10,1,1,1,1`, `01,1,1,1,1` and `101,1,1,1,1`, each ended by CR LF
abbrev pub sheet_t : List ℕ
sheet_t =
    48 ∷ 44 ∷ 49 ∷ 44 ∷ 49 ∷ 44 ∷ 49 ∷ 44 ∷ 49 ∷ 13 ∷ 10
    ∷ 49 ∷ 48 ∷ 44 ∷ 49 ∷ 44 ∷ 49 ∷ 44 ∷ 49 ∷ 44 ∷ 49 ∷ 13 ∷ 10
    ∷ 48 ∷ 49 ∷ 44 ∷ 49 ∷ 44 ∷ 49 ∷ 44 ∷ 49 ∷ 44 ∷ 49 ∷ 13 ∷ 10
    ∷ 49 ∷ 48 ∷ 49 ∷ 44 ∷ 49 ∷ 44 ∷ 49 ∷ 44 ∷ 49 ∷ 44 ∷ 49 ∷ 13 ∷ 10
    ∷ []

abbrev word : List ℕ → Word
word s = record { symbols = s ++ replicate (16 - length s) 0; len = length s }

abbrev row : Row
row = record { entries = 1 ∷ 1 ∷ 1 ∷ 1 ∷ replicate 28 0 }

abbrev pub code_t : Code
code_t = record {
  words = word (0 ∷ []) ∷ word (1 ∷ 0 ∷ []) ∷ word (0 ∷ 1 ∷ []) ∷ word (1 ∷ 0 ∷ 1 ∷ []) ∷ replicate 28 (word []);
  rows = row ∷ row ∷ row ∷ row ∷ replicate 28 (record { entries = replicate 32 0 });
  begins = 1 ∷ 1 ∷ 1 ∷ 1 ∷ replicate 28 0;
  count = 4;
}

taken_t : taken limits sheet_t ≡ record { answer = Ok tt; code = code_t }
unfolding taken taken_grid grid body records fields bad_bytes code_of any every tabulate sum
taken_t = refl

from_sheet_t : FromSheet limits code_t
from_sheet_t = record { sheet = sheet_t; gives = taken_t }

plain : Plain (table_of code_t)
plain = (code_fits code_t (well from_sheet_t)).plain

least : least_is (table_of code_t) (0 ∷ 1 ∷ 0 ∷ []) ≡ true
unfolding least_is
least = refl

first_two : first_two_of (readings (table_of code_t) (0 ∷ 1 ∷ 0 ∷ [])) (0 ∷ 1 ∷ []) (2 ∷ 0 ∷ []) ≡ true
unfolding first_two_of readings
first_two = refl

abbrev pub judgement_t : Result Verdict Refusal
judgement_t = Ok (Two-ways (record { 0 = 3 }) (record { 0 = 2 }) (record { 0 = 2 }))

-- 01: "Code T of 000 (0, 10, 01, 101; all 1): ambiguous, message 010, readings 0,1 and 2,0". Without a ban list the list has 0 bytes.
pub right_t : RightFor sheet_t [] (0 ∷ 1 ∷ 0 ∷ []) (0 ∷ 1 ∷ []) (2 ∷ 0 ∷ []) judgement_t
right_t = record {
  given = record { answer = Ok tt; enlarged = plain_of limits code_t };
  gives = sheet_accepted (ap (λ (t : Taken). t.answer) taken_t) (rw taken_t (empty_list from_sheet_t));
  right = (
    refl,
    rw (plain_original limits code_t)
        (ambiguous_means (table_of code_t) plain least (first_two_means plain (0 ∷ 1 ∷ 0 ∷ []) (0 ∷ 1 ∷ []) (2 ∷ 0 ∷ []) first_two), refl, refl, refl),
  );
}

-- "From them it prints, whole": `ambiguous,010`, `0,1` and `2,0`
abbrev pub output_t : List ℕ
output_t =
    97 ∷ 109 ∷ 98 ∷ 105 ∷ 103 ∷ 117 ∷ 111 ∷ 117 ∷ 115 ∷ 44 ∷ 48 ∷ 49 ∷ 48 ∷ 13 ∷ 10
    ∷ 48 ∷ 44 ∷ 49 ∷ 13 ∷ 10
    ∷ 50 ∷ 44 ∷ 48 ∷ 13 ∷ 10
    ∷ []

-- Whatever the output buffer held, it starts with these 25 bytes after the answer to code T.
pub prints_t : {o o' : List ℕ} {r : ℕ} → Answers sheet_t [] o o' r → (r ≡ 25) × (o' ≡ written output_t o)
unfolding join digit_of places
prints_t a = answer_right a (0 ∷ 1 ∷ 0 ∷ []) (0 ∷ 1 ∷ []) (2 ∷ 0 ∷ []) judgement_t right_t

-- the three records `0,1,1,1`, `1,1,1,1` and `011,1,1,1`, and the list `1,0,1`: word 1 never follows 0 then 1. Each record is ended by CR LF.
abbrev pub sheet_b : List ℕ
sheet_b =
    48 ∷ 44 ∷ 49 ∷ 44 ∷ 49 ∷ 44 ∷ 49 ∷ 13 ∷ 10
    ∷ 49 ∷ 44 ∷ 49 ∷ 44 ∷ 49 ∷ 44 ∷ 49 ∷ 13 ∷ 10
    ∷ 48 ∷ 49 ∷ 49 ∷ 44 ∷ 49 ∷ 44 ∷ 49 ∷ 44 ∷ 49 ∷ 13 ∷ 10
    ∷ []

abbrev pub list_b : List ℕ
list_b = 49 ∷ 44 ∷ 48 ∷ 44 ∷ 49 ∷ 13 ∷ 10 ∷ []

abbrev row_b : Row
row_b = record { entries = 1 ∷ 1 ∷ 1 ∷ replicate 29 0 }

abbrev pub code_b : Code
code_b = record {
  words = word (0 ∷ []) ∷ word (1 ∷ []) ∷ word (0 ∷ 1 ∷ 1 ∷ []) ∷ replicate 29 (word []);
  rows = row_b ∷ row_b ∷ row_b ∷ replicate 29 (record { entries = replicate 32 0 });
  begins = 1 ∷ 1 ∷ 1 ∷ replicate 29 0;
  count = 3;
}

taken_b : taken limits sheet_b ≡ record { answer = Ok tt; code = code_b }
unfolding taken taken_grid grid body records fields bad_bytes code_of any every tabulate sum
taken_b = refl

abbrev bans_b : List Ban
bans_b = record { x = 1; y = 0; z = 1 } ∷ []

listed_b : bans_of list_b ≡ bans_b
unfolding bans_of ban_records number_of decimal grid body records fields
listed_b = refl

right_16 : refused16 3 list_b ≡ false
unfolding refused16 ban_records bad_ban is_number number_of decimal grid body records fields bad_bytes any every
right_16 = refl

right_17 : refused17 limits code_b bans_b ≡ false
unfolding copies_from has_copy any sum
right_17 = refl

abbrev value_b : Enlarged
value_b = enlarged_code limits code_b bans_b

enlarges_b : Enlarges limits (plain_of limits code_b) list_b (record { answer = Ok tt; enlarged = value_b })
unfolding plain_of
enlarges_b =
    enlarged (
      (λ h. omega arith),
      (
        (λ none. none (record { given = record { sheet = sheet_b; gives = taken_b }; plain = refl })),
        ((λ h. true≢false (sym h ∙ right_16)), ((λ h. true≢false (sym h ∙ rw listed_b right_17)), tt)),
      ),
    )
    (rw listed_b)

checked_b : check_with (table_of code_b) bans_b (delay 3) ≡ true
unfolding check_with
checked_b = refl

abbrev pub judgement_b : Result Verdict Refusal
judgement_b = Ok (Finite (record { 0 = 3 }))

-- Without the ban 011 has two readings; with it the code has the delay 3.
pub right_b : RightFor sheet_b list_b [] [] [] judgement_b
right_b =
    let lists : FromLists limits value_b = record { table = code_b; given = record { sheet = sheet_b; gives = taken_b }; list = list_b; gives = enlarges_b } in
    record {
      given = record { answer = Ok tt; enlarged = value_b };
      gives = sheet_accepted (ap (λ (t : Taken). t.answer) taken_b) (rw taken_b enlarges_b);
      right = (refl, (same_verdict (lists_alike lists) [] [] [] (Finite (record { 0 = 3 }))).1 (rw listed_b (sound_with (table_of code_b) bans_b (delay 3) checked_b)));
    }

-- `decipherable,3`
abbrev pub output_b : List ℕ
output_b = 100 ∷ 101 ∷ 99 ∷ 105 ∷ 112 ∷ 104 ∷ 101 ∷ 114 ∷ 97 ∷ 98 ∷ 108 ∷ 101 ∷ 44 ∷ 51 ∷ 13 ∷ 10 ∷ []

pub prints_b : {o o' : List ℕ} {r : ℕ} → Answers sheet_b list_b o o' r → (r ≡ 16) × (o' ≡ written output_b o)
unfolding join digit_of places
prints_b a = answer_right a [] [] [] judgement_b right_b
