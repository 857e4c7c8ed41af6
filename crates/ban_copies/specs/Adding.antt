-- Collecting the copies of a ban list: ban after ban finds its copy or adds it, until a limit is passed.
use Rattle.std.specs.Prelude.{◌≡◌, refl, Bool, true, false, List, [], ◌∷◌, ◌++◌, ◌⊎◌, ℕ, zero, suc, ◌+◌, ◌-◌, ◌≤◌, ◌<◌, ltb, length, drop, set, replicate, Option, Some, None, MatchOption}
use Rattle.std.proofs.Math.Path.{sym}
use Rattle.std.proofs.Common.{ap, ◌∙◌, inl, inr, arith, add-zero, add-suc, add-one, length-append, ltb-true, lt-ltb, le-ltb}
use Rattle.std.proofs.lemmas.List.{length-replicate}
use Rattle.code.specs.declared.Code.{Code}
use Rattle.code.specs.Definitions.Lists.{tabulate, sum}
use Rattle.code.specs.Definitions.Sheets.{limits}
use Rattle.code.specs.Definitions.Bans.{Ban, Copy, has_copy, copies_from, copies_of, origin}
use Rattle.code.specs.Definitions.Enlarged.{refused17}
use Rattle.code.specs.Laws.Below.{or_cases, or_left, or_right}
use Rattle.code.specs.Laws.Filling.{fill_next, fill_end}
use Rattle.ban_theory.specs.CopyLists.{origin_word, origin_copy}
use Rattle.ban_theory.specs.BanLists.{Known, once_none, with_ban, copies_next}
use Rattle.ban_theory.specs.Triples.{ban_at, bans_from, bans_none, bans_more, KnownBan}
use Rattle.code.specs.Laws.WellFormed.{len_of, WellFormed}
use Rattle.ban_copies.specs.declared.Copies.{Copies}
use Rattle.ban_copies.specs.Held.{held, Held, behind_at, behind_none, with_copy, held_is, held_more}
use Rattle.ban_copies.specs.Symbols.{symbols_with, too_many, symbols_none, symbols_more, refused_too_many}

-- The words of a code, without copies.
pub record Start (n all : ℕ) (k : Copies) : Type 0 where
  pub originals : k.originals ≡ n
  pub number : k.number ≡ 0
  pub origins : k.origins ≡ tabulate (origin n []) limits.words
  pub behind : k.behind ≡ tabulate (behind_at n []) limits.words
  pub symbols : k.symbols ≡ all

-- The numbers of the words, written in front of zeros.
pub own_next : (n x : ℕ) → x < n → n ≤ limits.words
    → set (tabulate (origin n []) x ++ drop x (replicate limits.words 0)) x x ≡ tabulate (origin n []) (x + 1) ++ drop (x + 1) (replicate limits.words 0)
own_next n x h m =
    ap (λ (v : ℕ). set (tabulate (origin n []) x ++ drop x (replicate limits.words 0)) x v) (sym (origin_word n [] x h))
    ∙ fill_next (origin n []) (replicate limits.words 0) x (omega (arith, length-replicate {A = ℕ} limits.words 0))

pub start : (n all x : ℕ) {origins : List ℕ} → origins ≡ tabulate (origin n []) x ++ drop x (replicate limits.words 0) → n ≤ x → x ≤ limits.words
    → Start n all (record { originals = n; number = 0; origins = origins; behind = replicate limits.words 0; symbols = all })
unfolding tabulate
start n all x e h m = record {
  originals = refl;
  number = refl;
  origins = e ∙ fill_end (origin n []) 0 x limits.words (λ k l. origin_copy n [] k (omega arith)) m;
  behind = fill_end (behind_at n []) 0 0 limits.words (λ k l. behind_none n k) (omega arith);
  symbols = refl;
}

-- The copies behind a ban that needs a copy of z, of `len` symbols, after y; none where they pass a limit.
pub data Added (y z len : ℕ) (k : Copies) : Option Copies → Type 0 where
  there : has_copy (held k) y z ≡ true → Added y z len k (Some k)
  new : has_copy (held k) y z ≡ false → k.originals + k.number < limits.words → k.symbols + len ≤ limits.total → Added y z len k (Some (with_copy y z len k))
  many : has_copy (held k) y z ≡ false → limits.words ≤ k.originals + k.number → Added y z len k None
  long : has_copy (held k) y z ≡ false → limits.total < k.symbols + len → Added y z len k None

-- The arrays hold the copies cs, within the limits.
pub record Collected (c : Code) (cs : List Copy) (k : Copies) : Type 0 where
  pub arrays : Held c.count cs k
  pub symbols : k.symbols ≡ symbols_with limits c cs
  pub few : k.symbols ≤ limits.total

abbrev pub Passed : Code → List Ban → Type 0
Passed c bs = too_many limits c (copies_of bs) ≡ true

many_words : (c : Code) (cs : List Copy) → limits.words < c.count + length cs → too_many limits c cs ≡ true
many_words c cs h = or_left (ltb limits.words (c.count + length cs)) (ltb limits.total (symbols_with limits c cs)) (lt-ltb _ _ h)

many_symbols : (c : Code) (cs : List Copy) → limits.total < symbols_with limits c cs → too_many limits c cs ≡ true
many_symbols c cs h = or_right (ltb limits.words (c.count + length cs)) (ltb limits.total (symbols_with limits c cs)) (lt-ltb _ _ h)

-- What passes a limit passes it with other bans behind.
module _ (c : Code) where
  passed_copy : (cs : List Copy) (k : Copy) → too_many limits c cs ≡ true → too_many limits c (cs ++ (k ∷ [])) ≡ true
  passed_copy cs k e = go (or_cases (ltb limits.words (c.count + length cs)) (ltb limits.total (symbols_with limits c cs)) e)
    where
      go : (ltb limits.words (c.count + length cs) ≡ true) ⊎ (ltb limits.total (symbols_with limits c cs) ≡ true) → too_many limits c (cs ++ (k ∷ [])) ≡ true
      go (inl d) = many_words c (cs ++ (k ∷ [])) (omega (arith, ltb-true limits.words (c.count + length cs) d, length-append cs (k ∷ [])))
      go (inr d) = many_symbols c (cs ++ (k ∷ [])) (omega (arith, ltb-true limits.total (symbols_with limits c cs) d, symbols_more limits c cs k))

  passed_ban : (cs : List Copy) (b : Ban) (a : Bool) → too_many limits c cs ≡ true → too_many limits c (with_ban cs b a) ≡ true
  passed_ban cs b true e = e
  passed_ban cs b false e = passed_copy cs (record { behind = b.y; of = b.z }) e

  passed_next : (bs : List Ban) (b : Ban) → Passed c bs → Passed c (bs ++ (b ∷ []))
  passed_next bs b e = rw (copies_next bs b) (passed_ban (copies_of bs) b (has_copy (copies_of bs) b.y b.z) e)

  passed_later : (l : List ℕ) (i d : ℕ) → Passed c (bans_from l i) → Passed c (bans_from l (i + d))
  passed_later l i zero e = rw (add-zero i) e
  passed_later l i (suc d) e = rw (add-suc i d, ← add-one (i + d), bans_more l (i + d)) (passed_next (bans_from l (i + d)) (ban_at l (i + d)) (passed_later l i d e))

some_same : {k m : Copies} → Some k ≡ Some m → k ≡ m
some_same e = cc

-- One ban more
module _ {c : Code} (bs : List Ban) {k : Copies} (b : Ban) (had : Collected c (copies_of bs) k) where
  found : {a : Bool} → has_copy (held k) b.y b.z ≡ a → has_copy (copies_of bs) b.y b.z ≡ a
  found e = sym (ap (λ (cs : List Copy). has_copy cs b.y b.z) (held_is had.arrays)) ∙ e

  was : (a : Bool) → has_copy (held k) b.y b.z ≡ a → copies_of (bs ++ (b ∷ [])) ≡ with_ban (copies_of bs) b a
  was a e = copies_next bs b ∙ ap (with_ban (copies_of bs) b) (found e)

  count : k.originals + k.number ≡ c.count + length (copies_of bs)
  count = omega (arith, had.arrays.originals, had.arrays.number)

  grown : length (copies_of bs ++ (record { behind = b.y; of = b.z } ∷ [])) ≡ length (copies_of bs) + 1
  grown = length-append (copies_of bs) (record { behind = b.y; of = b.z } ∷ [])

  more_symbols : symbols_with limits c (copies_of bs ++ (record { behind = b.y; of = b.z } ∷ [])) ≡ k.symbols + len_of c b.z
  more_symbols = symbols_more limits c (copies_of bs) (record { behind = b.y; of = b.z }) ∙ rw had.symbols

  collected_by : {r : Option Copies} {m : Copies} → KnownBan c.count b → Added b.y b.z (len_of c b.z) k r → r ≡ Some m → Collected c (copies_of (bs ++ (b ∷ []))) m
  collected_by known (there e) f = rw (was true e, ← some_same f) had
  collected_by known (new e room short) f =
      rw (was false e, ← some_same f)
      record {
        arrays = held_more b.y b.z (len_of c b.z) had.arrays (found e) known.y known.z (omega (arith, count));
        symbols = sym more_symbols;
        few = short;
      }
  collected_by known (many e full) f = absurd (cc)
  collected_by known (long e full) f = absurd (cc)

  pub collected_next : {m : Copies} → KnownBan c.count b → Added b.y b.z (len_of c b.z) k (Some m) → Collected c (copies_of (bs ++ (b ∷ []))) m
  collected_next known a = collected_by known a refl

  passed_by : {r : Option Copies} → Added b.y b.z (len_of c b.z) k r → r ≡ None → Passed c (bs ++ (b ∷ []))
  passed_by (there e) f = absurd (cc)
  passed_by (new e room short) f = absurd (cc)
  passed_by (many e full) f = rw (was false e) (many_words c (copies_of bs ++ (record { behind = b.y; of = b.z } ∷ [])) (omega (arith, count, grown)))
  passed_by (long e full) f = rw (was false e) (many_symbols c (copies_of bs ++ (record { behind = b.y; of = b.z } ∷ [])) (omega (arith, more_symbols)))

  pub passed_here : Added b.y b.z (len_of c b.z) k None → Passed c (bs ++ (b ∷ []))
  passed_here a = passed_by a refl

-- What collecting gives: the copies within the limits, or none where they pass one.
abbrev pub Gathered : Code → List Ban → Option Copies → Type 0
Gathered c bs r = MatchOption r (Passed c bs) (Collected c (copies_of bs))

-- The ways through `collect`, over the numbers l of the bans.
module _ {c : Code} (l : List ℕ) where
  pub collected_none : {k : Copies} → WellFormed limits c → Start c.count (sum (tabulate (len_of c) limits.words)) k → Collected c (copies_of (bans_from l 0)) k
  unfolding copies_from
  collected_none well s =
      rw (bans_none l)
      record {
        arrays = record {
          originals = s.originals;
          number = s.number;
          most = omega (arith, well.most);
          origins = s.origins;
          behind = s.behind;
          copies = once_none c.count;
        };
        symbols = s.symbols ∙ sym (symbols_none limits c);
        few = omega (arith, s.symbols, well.total);
      }

  pub collected_more : {k m : Copies} (i : ℕ) → Collected c (copies_of (bans_from l i)) k → KnownBan c.count (ban_at l i)
      → Added (ban_at l i).y (ban_at l i).z (len_of c (ban_at l i).z) k (Some m) → Collected c (copies_of (bans_from l (i + 1))) m
  collected_more i had known a = rw (bans_more l i) (collected_next (bans_from l i) (ban_at l i) had known a)

  pub gathered_passed : {k : Copies} (i n : ℕ) → i < n → Collected c (copies_of (bans_from l i)) k
      → Added (ban_at l i).y (ban_at l i).z (len_of c (ban_at l i).z) k None → Passed c (bans_from l n)
  gathered_passed i n h had a =
      let e : i + 1 + (n - (i + 1)) ≡ n = omega arith in
      let here : Passed c (bans_from l (i + 1)) = rw (bans_more l i) (passed_here (bans_from l i) (ban_at l i) had a) in
      rw e at (passed_later c l (i + 1) (n - (i + 1)) here)

-- Refusal 17 holds where collecting passed a limit, and only there.
pub refused_passed : {c : Code} (bs : List Ban) → WellFormed limits c → Known c.count bs → Passed c bs → refused17 limits c bs ≡ true
refused_passed bs well k e = refused_too_many well bs k ∙ e

pub refused_not : {c : Code} (bs : List Ban) {k : Copies} → WellFormed limits c → Known c.count bs → Collected c (copies_of bs) k → refused17 limits c bs ≡ false
refused_not {c} bs well k had =
    refused_too_many well bs k
    ∙ rw (
      le-ltb limits.words (c.count + length (copies_of bs)) had.arrays.most,
      le-ltb limits.total (symbols_with limits c (copies_of bs)) (omega (arith, had.symbols, had.few)),
    )
