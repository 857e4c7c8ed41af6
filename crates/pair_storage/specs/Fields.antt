-- The fields of a stored number: in the lowest bits the mark of a pair, and above it a link, an entry of a queue or a stack, with the two places of a pair and another
-- number above them. Contracts and proofs take the widths from here.
use Rattle.std.specs.Prelude.{◌≡◌, ℕ, ◌+◌, ◌*◌, ◌/◌, ◌%◌, ◌-◌, ◌^◌, ◌<◌}
use native.Mathlib.Omega.{arith}
use Rattle.pair_places.specs.declared.Pair.{Pair}

-- how many bits a mark has, and how many numbers fit there
abbrev pub mark_bits : ℕ
mark_bits = 23

abbrev pub mark_room : ℕ
mark_room = 2 ^ mark_bits

-- a place
abbrev pub place_bits : ℕ
place_bits = 9

abbrev pub place_room : ℕ
place_room = 2 ^ place_bits

abbrev pub pair_room : ℕ
pair_room = 2 ^ (place_bits + place_bits)

-- a link has the bits that a mark leaves of 64, and the number above two places has those that they leave
abbrev pub link_room : ℕ
link_room = 2 ^ (64 - mark_bits)

abbrev pub above_room : ℕ
above_room = 2 ^ (64 - mark_bits - (place_bits + place_bits))

-- 02, request 11: 384 places and 73,920 pairs have room; in a mark a height has it, which is at most the number of cells, above 96 slots.
places_room : 384 < place_room
places_room = omega arith

pairs_room : 384 * (384 + 1) / 2 + 1 < above_room
pairs_room = omega arith

marks_room : 384 * 384 + 96 + 2 < mark_room
marks_room = omega arith

-- A link: an entry of a queue or a stack.
abbrev pub link_of : ℕ → ℕ → ℕ → ℕ
link_of above low high = above * pair_room + low * place_room + high

unfoldable pub high_in : ℕ → ℕ
high_in k = k % place_room

unfoldable pub low_in : ℕ → ℕ
low_in k = k / place_room % place_room

unfoldable pub above_in : ℕ → ℕ
above_in k = k / pair_room

-- Each field is what was stored in it.
module _ (above low high : ℕ) (l : low < place_room) (h : high < place_room) where
  pub above_link : above_in (link_of above low high) ≡ above
  unfolding above_in
  above_link = omega arith

  pub low_link : low_in (link_of above low high) ≡ low
  unfolding low_in
  low_link = omega arith

  pub high_link : high_in (link_of above low high) ≡ high
  unfolding high_in
  high_link = omega arith

pub low_fits : (k : ℕ) → low_in k < place_room
unfolding low_in
low_fits k = omega arith

-- A stored number: a mark and a link.
abbrev pub both_of : ℕ → ℕ → ℕ
both_of mark link = link * mark_room + mark

unfoldable pub mark_in : ℕ → ℕ
mark_in e = e % mark_room

unfoldable pub link_in : ℕ → ℕ
link_in e = e / mark_room

module _ (mark link : ℕ) (l : mark < mark_room) where
  pub mark_both : mark_in (both_of mark link) ≡ mark
  unfolding mark_in
  mark_both = omega arith

  pub link_both : link_in (both_of mark link) ≡ link
  unfolding link_in
  link_both = omega arith

pub mark_fits : (e : ℕ) → mark_in e < mark_room
unfolding mark_in
mark_fits e = omega arith

-- The pair r has the two places that the link in e carries.
pub record Carries (e : ℕ) (r : Pair) : Type 0 where
  pub first : r.low ≡ low_in (link_in e)
  pub second : r.high ≡ high_in (link_in e)
