-- The places of a code, numbered from 0 along its words joined, as one flat list of bytes; and the graph of its unordered pairs.
use Rattle.std.specs.Prelude.{◌≡◌, Bool, ◌&&◌, ◌||◌, List, ℕ, ◌+◌, ◌*◌, ◌/◌, ◌≤◌, ◌<◌, min, max, length, get_or, if◌then◌else◌}
use Rattle.std.proofs.Math.Dec.{ltb, eqb}
use Rattle.code.specs.Definitions.Sheets.{limits}
use Rattle.code.specs.Laws.Below.{some_below}
use Rattle.graph.specs.Graph.{Graph}
use Rattle.pair_places.specs.Cells.{cell_of, low_of, high_of}
use Rattle.pair_places.specs.Offsets.{owners_from, ends_from, firsts_from, follow_from, word_count_at, place_count_at, begins_from, endings_from, opens_flag_at, list_length}

-- A word comes behind another or, where it begins, behind the start: the number after those of all words there can be.
abbrev pub at_start : ℕ
at_start = limits.words

-- How many a word may come behind: all words there can be, and the start.
abbrev pub behinds : ℕ
behinds = limits.words + 1

module _ (f : List ℕ) where
  -- the symbol of place p
  abbrev pub symbol_at : ℕ → ℕ
  symbol_at p = get_or f p 0

  -- the word of place p
  abbrev pub owner_at : ℕ → ℕ
  owner_at p = get_or f (owners_from + p) 0

  -- place p is the end of its word
  abbrev pub end_at : ℕ → Bool
  end_at p = eqb (get_or f (ends_from + p) 0) 1

  -- the first place of word x
  abbrev pub first_at : ℕ → ℕ
  first_at x = get_or f (firsts_from + x) 0

  -- word x may come immediately after word y
  abbrev pub may_follow : ℕ → ℕ → Bool
  may_follow x y = eqb (get_or f (follow_from + (x * limits.words + y)) 0) 1

  abbrev pub word_count : ℕ
  word_count = get_or f word_count_at 0

  -- how many places there are; as the number of a place it means none
  abbrev pub place_count : ℕ
  place_count = get_or f place_count_at 0

  -- how many cells the pairs of places have, a mark for each; as the number of a pair it means none
  unfoldable pub cell_count : ℕ
  cell_count = place_count * place_count

  -- how many pairs of places there are, whichever comes first
  unfoldable pub pair_count : ℕ
  pair_count = place_count * (place_count + 1) / 2

  -- the cell of two places, and the two places of a cell
  abbrev pub cell : ℕ → ℕ → ℕ
  cell low high = cell_of place_count low high

  abbrev pub lower : ℕ → ℕ
  lower v = low_of place_count v

  abbrev pub higher : ℕ → ℕ
  higher v = high_of place_count v

  -- word x may begin
  abbrev pub begins_at : ℕ → Bool
  begins_at x = eqb (get_or f (begins_from + x) 0) 1

  -- Word x may come behind y, a word or the start.
  abbrev pub may_come : ℕ → ℕ → Bool
  may_come x y = if eqb y at_start then begins_at x else may_follow x y

  -- word z ends some permitted sequence, or z is the start
  abbrev pub ending_at : ℕ → Bool
  ending_at z = eqb (get_or f (endings_from + z) 0) 1

  -- some word may not begin
  abbrev pub opens_at : Bool
  opens_at = eqb (get_or f opens_flag_at 0) 1

  -- words x and y may both come behind z
  abbrev pub both_behind : ℕ → ℕ → ℕ → Bool
  both_behind x y z = ending_at z && (may_come x z && may_come y z)

  -- What reading the list rests on.
  pub record Laid : Type 0 where
    pub long : length f ≡ list_length
    pub words : word_count ≤ limits.words
    pub some : 0 < place_count
    pub places : place_count ≤ limits.total
    pub owners : (p : ℕ) → p < place_count → owner_at p < limits.words
    pub firsts : (x : ℕ) → x < limits.words → first_at x < place_count

  -- Where slot j leads from place p: inside a word to the next place, from an end to the first place of word j if it may follow; the number of places is nowhere.
  abbrev pub onward : ℕ → ℕ → ℕ
  onward p j = if end_at p then if ltb j word_count && may_follow j (owner_at p) then first_at j else place_count else p + 1

  -- An unordered pair as a node of the graph, the lower place first; the number of cells is no node.
  abbrev pub pair_node : ℕ → ℕ → ℕ
  pair_node p q = if ltb p place_count && ltb q place_count && eqb (symbol_at p) (symbol_at q) then cell (min p q) (max p q) else cell_count

  -- How many slots of the pair may lead on: none from two ends, one inside both words, else one for each word.
  abbrev pub slots_of : ℕ → ℕ → ℕ
  slots_of p q = if end_at p && end_at q then 0 else if end_at p || end_at q then word_count else 1

  unfoldable pub arc_from : ℕ → ℕ → ℕ → ℕ
  arc_from p q j = if ltb j (slots_of p q) then pair_node (onward p j) (onward q j) else cell_count

  -- place p is the first of its word
  abbrev pub is_first : ℕ → Bool
  is_first p = eqb (first_at (owner_at p)) p

  -- 02, request 1: words "that may both begin, or may both follow the last word of one permitted sequence"
  unfoldable pub rivals_at : ℕ → ℕ → Bool
  unfolding some_below
  rivals_at x y = some_below (both_behind x y) behinds

  -- "A first pair now comes only from two different words with the same first symbol that" are such.
  unfoldable pub first_pair : ℕ → ℕ → Bool
  unfolding rivals_at
  first_pair p q = (is_first p && is_first q && ltb (owner_at p) (owner_at q) && eqb (symbol_at p) (symbol_at q)) && rivals_at (owner_at p) (owner_at q)

  -- The first pair of words x and y; no node where they are not such words.
  unfoldable pub first_node : ℕ → ℕ → ℕ
  unfolding rivals_at
  first_node x y = if rivals_at x y then pair_node (first_at x) (first_at y) else cell_count

  -- The pairs as a graph, 000's testing graph: node `cell p q` is the pair p, q. 01: "A pair of two ends means ambiguous."
  abbrev pub pair_graph : Graph
  pair_graph = record {
    nodes = cell_count;
    slots = limits.words;
    arc = λ v j. arc_from (lower v) (higher v) j;
    root = λ v. first_pair (lower v) (higher v);
    symbol = λ v. symbol_at (higher v);
    goal = λ v. end_at (lower v) && end_at (higher v);
  }
