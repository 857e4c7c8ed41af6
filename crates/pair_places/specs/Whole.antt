-- A table within the limits, all of whose words are laid out, has a flat list as the reading functions and the graph of pairs want it.
use Rattle.std.specs.Prelude.{◌≡◌, List, ℕ, ◌+◌, ◌≤◌, ◌<◌, get_or}
use Rattle.std.proofs.Common.{ap, ◌∙◌, arith, ne_eqb}
use Rattle.std.proofs.Math.Decide.{dec_lt}
use Rattle.code.specs.Definitions.Sheets.{limits}
use Rattle.code.specs.Definitions.Tables.{Table, size, word}
use Rattle.code.specs.Laws.Sequences.{Plain}
use Rattle.pair_places.specs.Bases.{base_before, locate}
use Rattle.pair_places.specs.Flat.{symbol_at, owner_at, first_at, place_count, at_start, may_come, Laid}
use Rattle.pair_places.specs.Lays.{base, Lays}
use Rattle.pair_places.specs.Layouts.{LaysTo}
use Rattle.pair_places.specs.Roots.{Numbered}

-- A table within the limits of 01, without bans.
pub record Fits (t : Table) : Type 0 where
  pub one : 1 ≤ size t
  pub most : size t ≤ limits.words
  pub plain : Plain t
  pub low : (x k : ℕ) → x < size t → get_or (word t x) k 0 < 16
  pub total : base t (size t) ≤ limits.total

-- The flat list of a table.
pub record LaidOut (t : Table) (f : List ℕ) : Type 0 where
  pub fits : Fits t
  pub laid : Laid f
  pub numbered : Numbered f
  pub lays : Lays t f

-- What may come behind the start and behind a word, by the list and by the table.
module _ {t : Table} {f : List ℕ} (l : LaidOut t f) where
  pub begins_same : (x : ℕ) → x < size t → may_come f x at_start ≡ t.begins x
  begins_same x h = l.lays.begins x h

  pub follow_same : (x y : ℕ) → x < size t → y < size t → may_come f x y ≡ t.follow x y
  follow_same x y h k = rw (ne_eqb y at_start (omega (arith, l.fits.most))) ((l.lays.words x h).follow y k)

module _ {t : Table} (fits : Fits t) {f : List ℕ} (done : LaysTo t (size t) f) (placed : place_count f ≡ base t (size t)) where
  -- Each number below that of the places is a place of a word.
  at_place : (p : ℕ) → p < place_count f → (owner_at f p < size t) × (symbol_at f p < 16)
  at_place p h =
      let at = locate t (size t) p (omega arith) in
      let a = done.words at.w at.known in
      let own : owner_at f p ≡ at.w = ap (owner_at f) at.number ∙ a.owners at.k at.within in
      let read : symbol_at f p ≡ get_or (word t at.w) at.k 0 = ap (symbol_at f) at.number ∙ a.symbols at.k at.within in
      (omega (arith, own, at.known), omega (arith, read, fits.low at.w at.k at.known))

  some : 0 < place_count f
  some = omega (arith, base_before t 0 (size t) fits.one, fits.plain.some 0 fits.one)

  by_known : (x : ℕ) → x < limits.words → Dec (x < size t) → first_at f x < place_count f
  by_known x h (yes l) = omega (arith, (done.words x l).first, base_before t x (size t) l, fits.plain.some x l)
  by_known x h (no l) = omega (arith, done.firsts x (omega arith) h, some)

  own_first : (x : ℕ) → x < size t → owner_at f (first_at f x) ≡ x
  own_first x h =
      let a = done.words x h in
      let e : first_at f x ≡ base t x + 0 = omega (arith, a.first) in
      rw e (a.owners 0 (fits.plain.some x h))

  rising : (x y : ℕ) → x < y → y < size t → first_at f x < first_at f y
  rising x y h l =
      omega
      (arith, (done.words x (omega arith)).first, (done.words y l).first, base_before t x y h, fits.plain.some x (omega arith))

  -- With every word laid out, and the places counted, the list is the table's flat list.
  pub laid_out : LaidOut t f
  laid_out =
      let count = done.count in
      record {
        fits = fits;
        laid = record {
          long = done.long;
          words = omega (arith, fits.most);
          some = some;
          places = omega (arith, fits.total);
          owners = λ p h. omega (arith, (at_place p h).0, fits.most);
          firsts = λ x h. by_known x h (dec_lt x (size t));
        };
        numbered = record {
          symbols = λ p h. (at_place p h).1;
          owned = λ p h. omega (arith, (at_place p h).0);
          own = λ x h. own_first x (omega arith);
          rising = λ x y h l. rising x y h (omega arith);
        };
        lays = record { count = count; words = done.words; places = placed; begins = done.begins };
      }
