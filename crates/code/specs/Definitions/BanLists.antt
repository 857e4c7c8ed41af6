-- What a ban list means: its records, refusal 16, and the bans that it gives. The bytes are parted into records and fields as those of a sheet are.
use Rattle.std.specs.Prelude.{Bool, false, not, ◌&&◌, ◌||◌, List, [], ◌∷◌, map, ℕ, ◌+◌, ◌-◌, ◌*◌, ltb, leb, eqb, length, get_or, if◌then◌else◌}
use Rattle.code.specs.Definitions.Lists.{any, every}
use Rattle.code.specs.Definitions.Sheets.{grid, bad_bytes}
use Rattle.code.specs.Definitions.Bans.{Ban}

-- Bytes: the digits 0-9 are 48 to 57.
abbrev pub is_decimal : ℕ → Bool
is_decimal a = leb 48 a && leb a 57

-- the number that digits stand for, where those before them stand for n
unfoldable pub decimal : ℕ → List ℕ → ℕ
decimal n [] = n
decimal n (a ∷ f) = decimal (n * 10 + (a - 48)) f

unfoldable pub number_of : List ℕ → ℕ
number_of f = decimal 0 f

-- "without leading zeros"
abbrev pub no_leading_zero : List ℕ → Bool
no_leading_zero f = eqb (length f) 1 || not (eqb (get_or f 0 0) 48)

-- 02, request 2: "decimal word numbers without leading zeros", of a table of n words
unfoldable pub is_number : ℕ → List ℕ → Bool
is_number n f = not (eqb (length f) 0) && no_leading_zero f && every is_decimal f && ltb (number_of f) n

-- 02, request 2: "records of three decimal word numbers .., X, Y, Z"
abbrev pub ban_of : List (List ℕ) → Ban
ban_of r = record { x = number_of (get_or r 0 []); y = number_of (get_or r 1 []); z = number_of (get_or r 2 []) }

-- 16: "a record that is not three word numbers of the table or has Y equal to Z". A blank line has one field, and is such a record.
unfoldable pub bad_ban : ℕ → List (List ℕ) → Bool
bad_ban n r = not (eqb (length r) 3 && every (is_number n) r) || eqb (ban_of r).y (ban_of r).z

-- 02, request 2: "The bans come as RFC 4180 records", "0 bytes hold no ban"
unfoldable pub ban_records : List ℕ → List (List (List ℕ))
ban_records s = if eqb (length s) 0 then [] else grid s

-- 16: "wrong bytes, or a record that is not three word numbers of the table or has Y equal to Z". Bytes are wrong as in a sheet, where A to F are digits;
-- a list with one of these is refused all the same, since its record is not three decimal numbers.
unfoldable pub refused16 : ℕ → List ℕ → Bool
refused16 n s = bad_bytes false s || any (bad_ban n) (ban_records s)

-- the bans of a list, in its order
unfoldable pub bans_of : List ℕ → List Ban
bans_of s = map ban_of (ban_records s)
