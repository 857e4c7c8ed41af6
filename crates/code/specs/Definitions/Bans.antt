-- Bans that look two words back, and the enlarged code that source 000, at the end of its section 4, makes of a table and its bans by copies of words.
use Rattle.std.specs.Prelude.{Bool, false, ◌&&◌, List, [], ◌∷◌, ◌++◌, map, ℕ, suc, ◌+◌, ◌-◌, length, get_or, if◌then◌else◌}
use Rattle.std.proofs.Math.Bool.{true, not}
use Rattle.std.proofs.Math.Dec.{ltb, eqb}
use Rattle.code.specs.Definitions.Lists.{any}
use Rattle.code.specs.Definitions.Tables.{Table, size, word}

-- 02, request 2: "X never follows Y then Z"; in 000, section 4, a second-order constraint
pub record Ban : Type 0 where
  pub x : ℕ
  pub y : ℕ
  pub z : ℕ

abbrev pub is_ban : ℕ → ℕ → ℕ → Ban → Bool
is_ban x y z b = eqb b.x x && (eqb b.y y && eqb b.z z)

-- Some ban of the list says that x never follows y then z.
unfoldable pub banned_by : List Ban → ℕ → ℕ → ℕ → Bool
banned_by bs x y z = any (is_ban x y z) bs

-- The table with these bans.
abbrev pub with_bans : Table → (ℕ → ℕ → ℕ → Bool) → Table
with_bans t b = record { words = t.words; follow = t.follow; begins = t.begins; banned = b }

-- A copy of the word `of`, which stands after the word `behind` and its copies.
pub record Copy : Type 0 where
  pub behind : ℕ
  pub of : ℕ

-- what a read past the copies gives
abbrev pub no_copy : Copy
no_copy = record { behind = 0; of = 0 }

abbrev pub is_copy : ℕ → ℕ → Copy → Bool
is_copy y z c = eqb c.behind y && eqb c.of z

-- Some copy of z stands after y.
unfoldable pub has_copy : List Copy → ℕ → ℕ → Bool
has_copy cs y z = any (is_copy y z) cs

-- where the copy of z after y stands in the list
unfoldable pub copy_index : List Copy → ℕ → ℕ → ℕ
copy_index [] y z = 0
copy_index (c ∷ cs) y z = if is_copy y z c then 0 else suc (copy_index cs y z)

-- 02, request 2: "One copy serves all bans with the same Y and Z." The copies cs, and those that the bans need beside them.
unfoldable pub copies_from : List Copy → List Ban → List Copy
unfolding has_copy
copies_from cs [] = cs
copies_from cs (b ∷ bs) = copies_from (if has_copy cs b.y b.z then cs else cs ++ (record { behind = b.y; of = b.z } ∷ [])) bs

-- 02, request 2: copies "in the ban list's order"
abbrev pub copies_of : List Ban → List Copy
copies_of bs = copies_from [] bs

-- 02, request 2: "Copies are numbered after the words": behind n words number n + i is copy i.
module _ (n : ℕ) (cs : List Copy) where
  abbrev pub copy_at : ℕ → Copy
  copy_at x = get_or cs (x - n) no_copy

  -- the word of which x is a copy, or the word x itself
  unfoldable pub origin : ℕ → ℕ
  origin x = if ltb x n then x else (copy_at x).of

  -- 02, request 2: a copy "stands after Y and Y's copies only, where Z might, and Z itself then never does": copies let x stand after y and y's copies.
  unfoldable pub stands_after : ℕ → ℕ → Bool
  unfolding has_copy
  stands_after x y = if ltb x n then not (has_copy cs y x) else eqb (copy_at x).behind y

  -- the number of the word x after y and y's copies: that of the copy of x after y, if there is one
  unfoldable pub number_after : ℕ → ℕ → ℕ
  unfolding has_copy copy_index
  number_after y x = if has_copy cs y x then n + copy_index cs y x else x

-- The enlarged code of a table t, by its copies and bans.
module _ (t : Table) (cs : List Copy) (b : ℕ → ℕ → ℕ → Bool) where
  -- No ban forbids x after y: only a copy tells which word came before it.
  unfoldable pub unbanned : ℕ → ℕ → Bool
  unfolding origin
  unbanned x y = if ltb y (size t) then true else not (b (origin (size t) cs x) (copy_at (size t) cs y).behind (origin (size t) cs y))

  -- x may come immediately after y.
  unfoldable pub may_come : ℕ → ℕ → Bool
  unfolding origin stands_after unbanned
  may_come x y = t.follow (origin (size t) cs x) (origin (size t) cs y) && (stands_after (size t) cs x (origin (size t) cs y) && unbanned x y)

  -- 02, request 2: "The copy cannot begin a message"
  abbrev pub enlarged : Table
  enlarged = record {
    words = t.words ++ map (λ c. word t c.of) cs;
    follow = may_come;
    begins = λ x. ltb x (size t) && t.begins x;
    banned = λ x y z. false;
  }

-- What the words, start marks, copies and matrix of an enlarged code say of the table and the bans that it was made of.
module _ (cs : List Copy) (entry : ℕ → ℕ → Bool) where
  -- x never follows y then z where there is a copy of z after y, and x may not follow that; the code is of n words and the copies.
  unfoldable pub bans_in : ℕ → ℕ → ℕ → ℕ → Bool
  unfolding has_copy copy_index number_after
  bans_in n x y z = has_copy cs y z && not (entry (number_after n cs z x) (n + copy_index cs y z))

  -- x may follow y where the number of x after y may follow y.
  abbrev pub table_in : List (List ℕ) → (ℕ → Bool) → Table
  table_in ws marks = record { words = ws; follow = λ x y. entry (number_after (length ws) cs y x) y; begins = marks; banned = bans_in (length ws) }
