-- What a search over pairs sees of its queue or its stack: for each link an entry, the cell of the two places that it carries and the number above them, whatever
-- the mark beside it. So the places carried are those of the cell whose mark is read or set.
use Rattle.std.specs.Prelude.{◌≡◌, Bool, true, false, ltb, length, get_or, set, if◌then◌else◌}
use Rattle.std.proofs.Math.Path.{refl, ap}
use Rattle.std.proofs.Common.{sym, ◌∙◌, lt-ltb, ltb-true}
use mathlib.Core.List.{List, [], ◌∷◌, map}
use Prim.Native.Nat.{ℕ, zero, suc, ◌+◌, ◌*◌, ◌%◌, ◌-◌, ◌≤◌, ◌<◌}
use Rattle.std.proofs.Math.Decide.{dec_le}
use Rattle.std.proofs.Math.Nat.{mul-le-mul}
use native.Mathlib.Omega.{arith}
use Rattle.std.proofs.Math.ListN.{get_or-map}
use Rattle.std.proofs.lemmas.List.{set-get_or}
use Rattle.pair_places.specs.declared.Pair.{Pair}
use Rattle.pair_places.specs.Cells.{cell_of}
use Rattle.pair_places.specs.Flat.{Laid, place_count, cell_count, cell}
use Rattle.pair_places.specs.Steps.{pair_cell}
use Rattle.pair_storage.specs.Fields.{place_room, pair_room, mark_room, link_of, low_in, high_in, above_in, above_link, low_link, high_link, low_fits, both_of, link_in, link_both, Carries}

-- An entry: a cell, and the number above it.
abbrev pub entry_of : ℕ → ℕ → ℕ
entry_of above node = above * pair_room + node

unfoldable pub node_in : ℕ → ℕ
node_in e = e % pair_room

pub node_entry : (above node : ℕ) → node < pair_room → node_in (entry_of above node) ≡ node
unfolding node_in
node_entry above node l = omega arith

pub above_entry : (above node : ℕ) → node < pair_room → above_in (entry_of above node) ≡ above
unfolding above_in
above_entry above node l = omega arith

-- What stands in entry i of a list.
abbrev pub node_at : List ℕ → ℕ → ℕ
node_at l i = node_in (get_or l i 0)

abbrev pub above_at : List ℕ → ℕ → ℕ
above_at l i = above_in (get_or l i 0)

-- The links of a list of stored numbers.
unfoldable pub links : List ℕ → List ℕ
links w = map link_in w

pub link_at : (w : List ℕ) (i : ℕ) → get_or (links w) i 0 ≡ link_in (get_or w i 0)
unfolding links link_in
link_at w i = get_or-map link_in w i 0

-- The entries of such a list, where there are s places.
module _ (s : ℕ) where
  -- the cell of two places; one past the source if the higher is none
  unfoldable pub node_of : ℕ → ℕ → ℕ
  node_of low high = if ltb high s then cell_of s low high else s * s + 1

  unfoldable pub entry_in : ℕ → ℕ
  unfolding node_of
  entry_in k = entry_of (above_in k) (node_of (low_in k) (high_in k))

  unfoldable pub entries_of : List ℕ → List ℕ
  unfolding entry_in
  entries_of [] = []
  entries_of (e ∷ l) = entry_in (link_in e) ∷ entries_of l

  length_entries : (l : List ℕ) → length (entries_of l) ≡ length l
  unfolding entries_of
  length_entries [] = refl
  length_entries (e ∷ l) = ap suc (length_entries l)

  entries_set : (l : List ℕ) (i e : ℕ) → entries_of (set l i e) ≡ set (entries_of l) i (entry_in (link_in e))
  unfolding entries_of
  entries_set [] i e = refl
  entries_set (x ∷ l) zero e = refl
  entries_set (x ∷ l) (suc i) e = ap (λ (m : List ℕ). entry_in (link_in x) ∷ m) (entries_set l i e)

  node_cell : (low high : ℕ) → high < s → node_of low high ≡ cell_of s low high
  unfolding node_of
  node_cell low high h = simp (lt-ltb _ _ h)

  -- Two numbers that stand for a cell or the source: the lower is at most s, the higher below it.
  record Standing (low high : ℕ) : Type 0 where
    node : cell_of s low high ≡ node_of low high
    most : low ≤ s
    inside : high < s

  standing : (low high : ℕ) → node_of low high ≤ s * s → Standing low high
  unfolding node_of cell_of
  standing low high = go (ltb high s) refl
    where
      few : high < s → low * s + high ≤ s * s → Dec (low ≤ s) → low ≤ s
      few h l (yes z) = z
      few h l (no z) = absurd (let y : (s + 1) * s ≤ low * s = mul-le-mul (omega arith) (omega arith) in omega (arith, y))

      go : (b : Bool) → ltb high s ≡ b → (if b then cell_of s low high else s * s + 1) ≤ s * s → Standing low high
      go true e h = let z = ltb-true high s e in record { node = sym (node_cell low high z); most = few z h (dec_le low s); inside = z }
      go false e h = absurd (omega arith)

  module _ (room : s < place_room) where
    node_fits : (low high : ℕ) → low < place_room → node_of low high < pair_room
    unfolding node_of cell_of
    node_fits low high l = go (ltb high s) refl
      where
        p : low * s ≤ (place_room - 1) * (place_room - 1)
        p = mul-le-mul {n₂ = place_room - 1} {m₂ = place_room - 1} (omega arith) (omega arith)

        q : s * s ≤ (place_room - 1) * (place_room - 1)
        q = mul-le-mul {n₂ = place_room - 1} {m₂ = place_room - 1} (omega arith) (omega arith)

        go : (b : Bool) → ltb high s ≡ b → (if b then cell_of s low high else s * s + 1) < pair_room
        go true e = let h = ltb-true high s e in omega (arith, p, h)
        go false e = omega (arith, q)

    node_in_entry : (k : ℕ) → node_in (entry_in k) ≡ node_of (low_in k) (high_in k)
    unfolding entry_in
    node_in_entry k = node_entry (above_in k) (node_of (low_in k) (high_in k)) (node_fits (low_in k) (high_in k) (low_fits k))

    above_in_entry : (k : ℕ) → above_in (entry_in k) ≡ above_in k
    unfolding entry_in
    above_in_entry k = above_entry (above_in k) (node_of (low_in k) (high_in k)) (node_fits (low_in k) (high_in k) (low_fits k))

    entry_link : (above low high : ℕ) → low ≤ s → high < s → entry_in (link_of above low high) ≡ entry_of above (cell_of s low high)
    unfolding entry_in
    entry_link above low high l h =
        let a : low < place_room = omega arith in
        let b : high < place_room = omega arith in
        rw (above_link above low high a b, low_link above low high a b, high_link above low high a b, node_cell low high h)

    module _ (some : 0 < s) where
      no_entry : 0 ≡ entry_in (link_in 0)
      unfolding entry_in above_in link_in low_in high_in cell_of
      no_entry = let z : cell_of s 0 0 ≡ 0 = omega arith in rw (node_cell 0 0 some, z)

      entry_at : (l : List ℕ) (i : ℕ) → get_or (entries_of l) i 0 ≡ entry_in (link_in (get_or l i 0))
      unfolding entries_of
      entry_at [] i = no_entry
      entry_at (x ∷ l) zero = refl
      entry_at (x ∷ l) (suc i) = entry_at l i

-- The pair r has the two places of cell v; or, with the number of places as the lower one, it is the source.
pub record PairOf (f : List ℕ) (v : ℕ) (r : Pair) : Type 0 where
  pub node : pair_cell f r ≡ v
  pub most : r.low ≤ place_count f
  pub inside : r.high < place_count f

-- The entries of the list q, by the number of places of the flat list f.
abbrev pub entries_in : List ℕ → List ℕ → List ℕ
entries_in f q = entries_of (place_count f) q

module _ (f q : List ℕ) where
  pub length_entries_in : length (entries_in f q) ≡ length q
  length_entries_in = length_entries (place_count f) q

  module _ (laid : Laid f) where
    -- A number of places fits the field of a place.
    pub places_fit : place_count f < place_room
    places_fit = omega (arith, laid.places)

    -- A link that is stored, beside any mark, is seen as the cell of its two places, and the number above.
    pub entries_in_set : (i m above low high : ℕ) → m < mark_room → low ≤ place_count f → high < place_count f
        → entries_in f (set q i (both_of m (link_of above low high))) ≡ set (entries_in f q) i (entry_of above (cell f low high))
    entries_in_set i m above low high b l h =
        entries_set (place_count f) q i (both_of m (link_of above low high))
        ∙ ap (set (entries_in f q) i) (ap (entry_in (place_count f)) (link_both m (link_of above low high) b) ∙ entry_link (place_count f) places_fit above low high l h)

    -- What is stored beside a link is not seen.
    pub entries_in_same : (i e : ℕ) → link_in e ≡ link_in (get_or q i 0) → entries_in f (set q i e) ≡ entries_in f q
    entries_in_same i e same =
        entries_set (place_count f) q i e
        ∙ ap (set (entries_in f q) i) (ap (entry_in (place_count f)) same ∙ sym (entry_at (place_count f) places_fit laid.some q i))
        ∙ set-get_or (entries_in f q) i 0

    pub above_entries_in : (i : ℕ) → above_at (entries_in f q) i ≡ above_at (links q) i
    above_entries_in i =
        ap above_in (entry_at (place_count f) places_fit laid.some q i) ∙ above_in_entry (place_count f) places_fit (link_in (get_or q i 0)) ∙ ap above_in (sym (link_at q i))

    -- 02, request 6: "the two places carried are at every step those whose mark is read or set". Where a search has a cell, or the source, in entry i, the link
    -- there carries that cell's two places.
    pub carried : (i : ℕ) {r : Pair} → node_at (entries_in f q) i ≤ cell_count f → Carries (get_or q i 0) r → PairOf f (node_at (entries_in f q) i) r
    unfolding cell_count
    carried i {r} h c =
        let k = link_in (get_or q i 0) in
        let e : node_at (entries_in f q) i ≡ node_of (place_count f) (low_in k) (high_in k) = ap node_in (entry_at (place_count f) places_fit laid.some q i) ∙ node_in_entry (place_count f) places_fit k in
        let p = standing (place_count f) (low_in k) (high_in k) (rw e at h) in
        record { node = rw (c.first, c.second, e) p.node; most = rw c.first p.most; inside = rw c.second p.inside }
