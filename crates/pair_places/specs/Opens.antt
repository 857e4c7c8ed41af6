-- The graph of pairs from the beginnings on. Two sequences that share their opening stand at one place; where such a place is the end of a word, and at the
-- start, they go on with any two words that may come next, perhaps the same. The goals are the pairs of ends of different words. Where every word may begin no
-- opening has to be shared, and the end of one word leads nowhere.
use Rattle.std.specs.Prelude.{◌≡◌, Bool, not, ◌&&◌, ◌||◌, List, ◌⊎◌, ℕ, ◌+◌, ◌*◌, ◌/◌, ◌%◌, ◌≤◌, ◌<◌, min, max, if◌then◌else◌}
use Rattle.std.proofs.Math.Path.{refl, sym, ap}
use Rattle.std.proofs.Common.{◌∙◌, inl, inr}
use Rattle.std.proofs.Math.Bool.{true, false, and-eq-true_iff}
use Rattle.std.proofs.lemmas.Bool.{false≢true}
use Rattle.std.proofs.Math.Decide.{ℕ_discrete, dec_le}
use native.Mathlib.Omega.{arith}
use Rattle.std.proofs.Math.Dec.{ltb, eqb}
use borrow.Author.Tests.{ltb-true, eqb-true, lt-ltb, le-ltb, eq-eqb, ne_eqb}
use Rattle.code.specs.Definitions.Sheets.{limits}
use Rattle.code.specs.Laws.Below.{or_cases}
use Rattle.graph.specs.Graph.{Graph, Edge}
use Rattle.pair_places.specs.Cells.{high_below}
use Rattle.pair_places.specs.Flat.{symbol_at, owner_at, end_at, first_at, begins_at, at_start, may_come, opens_at, word_count, place_count, cell_count, cell, lower, higher, Laid, is_first, onward, slots_of, arc_from}
use Rattle.pair_places.specs.Nodes.{NodeOf, Leads, node_of, of_node, node_below, parts, slots_few, lower_below, in_cell}
use Rattle.pair_places.specs.Onward.{arc_within, arc_past}
use Rattle.pair_places.specs.Roots.{Numbered}
use Rattle.pair_places.specs.Steps.{start_node}

-- In place of what a pair turns behind, for one that does not turn: it goes straight on.
abbrev pub straight_on : ℕ
straight_on = limits.words + 1

-- The two words for which a slot of a pair that turns stands, a row of slots for each left word.
abbrev pub left_word : ℕ → ℕ
left_word j = j / limits.words

abbrev pub right_word : ℕ → ℕ
right_word j = j % limits.words

module _ (f : List ℕ) where
  -- Behind what a pair of one place goes on with any two words: the start for the source, the number of cells, a word for its end, if openings matter. Every
  -- other pair goes straight on.
  unfoldable pub turning : ℕ → ℕ
  turning v = if ltb v (cell_count f) then if eqb (lower f v) (higher f v) && (end_at f (lower f v) && opens_at f) then owner_at f (lower f v) else straight_on else at_start

  -- Words x and z stand in order, or are the same where openings matter.
  unfoldable pub in_order : ℕ → ℕ → Bool
  in_order x z = ltb x z || (eqb x z && opens_at f)

  -- Where slot j leads behind y.
  unfoldable pub pair_behind : ℕ → ℕ → ℕ
  pair_behind y j = if in_order (left_word j) (right_word j) && (ltb (right_word j) (word_count f) && (may_come f (left_word j) y && may_come f (right_word j) y)) then start_node f (left_word j) (right_word j) else cell_count f

  -- Where slot j leads from node v, or from the source.
  unfoldable pub toward : ℕ → ℕ → ℕ
  unfolding turning pair_behind arc_from
  toward v j = if ltb (turning v) straight_on then pair_behind (turning v) j else arc_from f (lower f v) (higher f v) j

  unfoldable pub begin_pair : ℕ → ℕ → Bool
  begin_pair p q = is_first f p && (is_first f q && (in_order (owner_at f p) (owner_at f q) && (begins_at f (owner_at f p) && (begins_at f (owner_at f q) && eqb (symbol_at f p) (symbol_at f q)))))

  unfoldable pub apart_ends : ℕ → ℕ → Bool
  apart_ends p q = not (eqb p q) && (end_at f p && end_at f q)

  abbrev pub open_graph : Graph
  open_graph = record {
    nodes = cell_count f;
    slots = limits.words * limits.words;
    arc = toward;
    root = λ v. begin_pair (lower f v) (higher f v);
    symbol = λ v. symbol_at f (higher f v);
    goal = λ v. apart_ends (lower f v) (higher f v);
  }

module _ (f : List ℕ) (x z : ℕ) where
  -- Words in order are in order.
  pub in_order_le : in_order f x z ≡ true → x ≤ z
  unfolding in_order
  in_order_le e = by (or_cases (ltb x z) (eqb x z && opens_at f) e)
    where
      by : (ltb x z ≡ true) ⊎ ((eqb x z && opens_at f) ≡ true) → x ≤ z
      by (inl h) = omega (arith, ltb-true x z h)
      by (inr h) = omega (arith, eqb-true x z ((and-eq-true_iff (eqb x z) (opens_at f)).0 h).0)

  -- Nothing before x is in order behind it, and x itself only where openings matter.
  pub in_order_least : in_order f x z ≡ true → (if opens_at f then x else x + 1) ≤ z
  unfolding in_order
  in_order_least e = by (opens_at f) (or_cases (ltb x z) (eqb x z && opens_at f) e)
    where
      by : (o : Bool) → (ltb x z ≡ true) ⊎ ((eqb x z && o) ≡ true) → (if o then x else x + 1) ≤ z
      by true (inl h) = omega (arith, ltb-true x z h)
      by true (inr h) = omega (arith, eqb-true x z ((and-eq-true_iff (eqb x z) true).0 h).0)
      by false (inl h) = omega (arith, ltb-true x z h)
      by false (inr h) = absurd (false≢true ((and-eq-true_iff (eqb x z) false).0 h).1)

  -- Words in one order or the other, where the same word is left only for openings.
  pub in_order_lem : x ≤ z → (x ≡ z → opens_at f ≡ true) → in_order f x z ≡ true
  unfolding in_order
  in_order_lem h o = by (ℕ_discrete x z)
    where
      by : Dec (x ≡ z) → (ltb x z || (eqb x z && opens_at f)) ≡ true
      by (yes e) = rw (le-ltb x z (omega arith), eq-eqb x z e) (o e)
      by (no e) = rw (lt-ltb x z (omega arith))

-- The words x and y, in order or the same, may both come behind z, and give the pair v.
pub record Comes (f : List ℕ) (z v : ℕ) : Type 0 where
  pub x : ℕ
  pub y : ℕ
  pub order : in_order f x y ≡ true
  pub known : y < word_count f
  pub left : may_come f x z ≡ true
  pub right : may_come f y z ≡ true
  pub node : start_node f x y ≡ v

-- What a slot behind z that leads to a pair says of its two words.
pub record Behind (f : List ℕ) (z j : ℕ) : Type 0 where
  pub order : in_order f (left_word j) (right_word j) ≡ true
  pub known : right_word j < word_count f
  pub left : may_come f (left_word j) z ≡ true
  pub right : may_come f (right_word j) z ≡ true

module _ (f : List ℕ) where
  pub behind_tests : (z j : ℕ) → pair_behind f z j < cell_count f → Behind f z j
  unfolding pair_behind
  behind_tests z j h = go (in_order f (left_word j) (right_word j) && (ltb (right_word j) (word_count f) && (may_come f (left_word j) z && may_come f (right_word j) z))) refl h
    where
      go : (a : Bool) → (in_order f (left_word j) (right_word j) && (ltb (right_word j) (word_count f) && (may_come f (left_word j) z && may_come f (right_word j) z))) ≡ a
          → (if a then start_node f (left_word j) (right_word j) else cell_count f) < cell_count f → Behind f z j
      go false e h = absurd (omega arith)
      go true e h =
          let a = (and-eq-true_iff (in_order f (left_word j) (right_word j)) (ltb (right_word j) (word_count f) && (may_come f (left_word j) z && may_come f (right_word j) z))).0 e in
          let b = (and-eq-true_iff (ltb (right_word j) (word_count f)) (may_come f (left_word j) z && may_come f (right_word j) z)).0 a.1 in
          let c = (and-eq-true_iff (may_come f (left_word j) z) (may_come f (right_word j) z)).0 b.1 in
          record { order = a.0; known = ltb-true _ _ b.0; left = c.0; right = c.1 }

  pub behind_both : (z j : ℕ) → Behind f z j → pair_behind f z j ≡ start_node f (left_word j) (right_word j)
  unfolding pair_behind
  behind_both z j b = rw (b.order, lt-ltb _ _ b.known, b.left, b.right)

  pub behind_words : (z j : ℕ) → pair_behind f z j < cell_count f → start_node f (left_word j) (right_word j) ≡ pair_behind f z j
  behind_words z j h = sym (behind_both z j (behind_tests z j h))

  pub behind_comes : (z j : ℕ) → pair_behind f z j < cell_count f → Comes f z (pair_behind f z j)
  behind_comes z j h =
      let b = behind_tests z j h in
      record { x = left_word j; y = right_word j; order = b.order; known = b.known; left = b.left; right = b.right; node = behind_words z j h }

  pub comes_behind : Laid f → {z v : ℕ} → (c : Comes f z v) → pair_behind f z (c.x * limits.words + c.y) ≡ v
  unfolding pair_behind
  comes_behind l {z} {v} c =
      let o = in_order_le f c.x c.y c.order in
      let k = c.known in
      let w = l.words in
      let a : left_word (c.x * limits.words + c.y) ≡ c.x = omega arith in
      let b : right_word (c.x * limits.words + c.y) ≡ c.y = omega arith in
      rw (a, b) (simp (c.order, lt-ltb _ _ k, c.left, c.right) c.node)

  -- Turning pairs.
  pub turning_source : (v : ℕ) → cell_count f ≤ v → turning f v ≡ at_start
  unfolding turning
  turning_source v h = simp (le-ltb _ _ h)

  pub turning_end : (v : ℕ) → v < cell_count f → lower f v ≡ higher f v → end_at f (lower f v) ≡ true → opens_at f ≡ true → turning f v ≡ owner_at f (lower f v)
  unfolding turning
  turning_end v h e d o = simp (lt-ltb _ _ h, eq-eqb _ _ e, d, o)

  pub turning_apart : (v : ℕ) → v < cell_count f → (lower f v ≡ higher f v → ⊥) → turning f v ≡ straight_on
  unfolding turning
  turning_apart v h e = simp (lt-ltb _ _ h, ne_eqb _ _ e)

  turns_none : (v : ℕ) (a b : Bool) → b ≡ false → (if a && b then owner_at f (lower f v) else straight_on) ≡ straight_on
  turns_none v true b e = rw e
  turns_none v false b e = refl

  pub turning_inside : (v : ℕ) → v < cell_count f → end_at f (lower f v) ≡ false → turning f v ≡ straight_on
  unfolding turning
  turning_inside v h d = simp (lt-ltb _ _ h) (turns_none v (eqb (lower f v) (higher f v)) (end_at f (lower f v) && opens_at f) (rw d))

  pub turning_closed : (v : ℕ) → v < cell_count f → opens_at f ≡ false → turning f v ≡ straight_on
  unfolding turning
  turning_closed v h d = simp (lt-ltb _ _ h) (turns_none v (eqb (lower f v) (higher f v)) (end_at f (lower f v) && opens_at f) (rw d (closed (end_at f (lower f v)))))
    where
      closed : (a : Bool) → (a && false) ≡ false
      closed true = refl
      closed false = refl

  pub toward-turning : (v j : ℕ) → turning f v < straight_on → toward f v j ≡ pair_behind f (turning f v) j
  unfolding toward
  toward-turning v j h = simp (lt-ltb _ _ h)

  pub toward_other : (v j : ℕ) → turning f v ≡ straight_on → toward f v j ≡ arc_from f (lower f v) (higher f v) j
  unfolding toward
  toward_other v j e = rw e

  -- An edge from a pair that does not turn is a slot that leads both places.
  pub arc_leads : (v j : ℕ) {w : ℕ} → arc_from f (lower f v) (higher f v) j ≡ w → w < cell_count f → Leads f v w
  arc_leads v j {w} e h = by (dec_le (j + 1) (slots_of f (lower f v) (higher f v)))
    where
      by : Dec (j + 1 ≤ slots_of f (lower f v) (higher f v)) → Leads f v w
      by (yes l) = record { slot = j; within = omega arith; pair = node_of (onward f (lower f v) j) (onward f (higher f v) j) (sym (arc_within f (lower f v) (higher f v) j (omega arith)) ∙ e) h }
      by (no l) = absurd (omega (arith, e, arc_past f (lower f v) (higher f v) j (omega arith)))

  pub leads_open : Laid f → {v w : ℕ} → turning f v ≡ straight_on → Leads f v w → Edge (open_graph f) v w
  leads_open l {v} z s = record {
    slot = s.slot;
    within = omega (arith, s.within, slots_few l (lower f v) (higher f v));
    leads = toward_other v s.slot z ∙ arc_within f (lower f v) (higher f v) s.slot s.within ∙ of_node s.pair;
    node = node_below s.pair;
  }

  pub comes_open : Laid f → {v w : ℕ} → turning f v < straight_on → w < cell_count f → Comes f (turning f v) w → Edge (open_graph f) v w
  comes_open l {v} h k c = record {
    slot = c.x * limits.words + c.y;
    within = omega (arith, in_order_le f c.x c.y c.order, c.known, l.words);
    leads = toward-turning v (c.x * limits.words + c.y) h ∙ comes_behind l c;
    node = k;
  }

  -- The roots are the pairs behind the start.
  pub root_comes : Laid f → Numbered f → {v : ℕ} → v < cell_count f → begin_pair f (lower f v) (higher f v) ≡ true → Comes f at_start v
  unfolding begin_pair
  root_comes l n {v} h e =
      let p = lower f v in
      let q = higher f v in
      let a = (and-eq-true_iff (is_first f p) (is_first f q && (in_order f (owner_at f p) (owner_at f q) && (begins_at f (owner_at f p) && (begins_at f (owner_at f q) && eqb (symbol_at f p) (symbol_at f q)))))).0 e in
      let b = (and-eq-true_iff (is_first f q) (in_order f (owner_at f p) (owner_at f q) && (begins_at f (owner_at f p) && (begins_at f (owner_at f q) && eqb (symbol_at f p) (symbol_at f q))))).0 a.1 in
      let c = (and-eq-true_iff (in_order f (owner_at f p) (owner_at f q)) (begins_at f (owner_at f p) && (begins_at f (owner_at f q) && eqb (symbol_at f p) (symbol_at f q)))).0 b.1 in
      let d = (and-eq-true_iff (begins_at f (owner_at f p)) (begins_at f (owner_at f q) && eqb (symbol_at f p) (symbol_at f q))).0 c.1 in
      let g = (and-eq-true_iff (begins_at f (owner_at f q)) (eqb (symbol_at f p) (symbol_at f q))).0 d.1 in
      let i = eqb-true (first_at f (owner_at f p)) p a.0 in
      let j = eqb-true (first_at f (owner_at f q)) q b.0 in
      let lp : p < place_count f = lower_below f l h in
      let lq : q < place_count f = high_below (place_count f) v l.some in
      let m : NodeOf f p q v = record { left = lp; right = lq; same = eqb-true _ _ g.1; node = by_order n p q lp lq i j (in_order_le f (owner_at f p) (owner_at f q) c.0) v refl refl } in
      record { x = owner_at f p; y = owner_at f q; order = c.0; known = n.owned q lq; left = d.0; right = g.0; node = rw (i, j) (of_node m) }
    where
      by_order : Numbered f → (p q : ℕ) → p < place_count f → q < place_count f → first_at f (owner_at f p) ≡ p → first_at f (owner_at f q) ≡ q → owner_at f p ≤ owner_at f q
          → (v : ℕ) → lower f v ≡ p → higher f v ≡ q → v ≡ cell f (min p q) (max p q)
      by_order n p q h k i j o v low high = go (ℕ_discrete (owner_at f p) (owner_at f q))
        where
          go : Dec (owner_at f p ≡ owner_at f q) → v ≡ cell f (min p q) (max p q)
          go (yes e) = let z : p ≡ q = sym i ∙ ap (first_at f) e ∙ j in in_cell f v low high (omega arith)
          go (no e) = let z = n.rising (owner_at f p) (owner_at f q) (omega arith) (n.owned q k) in in_cell f v low high (omega arith)

  begin_tests : (p q : ℕ) → first_at f (owner_at f p) ≡ p → first_at f (owner_at f q) ≡ q → in_order f (owner_at f p) (owner_at f q) ≡ true → begins_at f (owner_at f p) ≡ true
      → begins_at f (owner_at f q) ≡ true → symbol_at f p ≡ symbol_at f q → begin_pair f p q ≡ true
  unfolding begin_pair
  begin_tests p q i j o a b e = simp (eq-eqb _ _ i, eq-eqb _ _ j, o, a, b, eq-eqb _ _ e)

  pub comes_root : Numbered f → {v : ℕ} → v < cell_count f → Comes f at_start v → begin_pair f (lower f v) (higher f v) ≡ true
  comes_root n {v} h c =
      let m : NodeOf f (first_at f c.x) (first_at f c.y) v = node_of (first_at f c.x) (first_at f c.y) c.node h in
      let le = in_order_le f c.x c.y c.order in
      let a = n.own c.x (omega (arith, le, c.known)) in
      let b = n.own c.y c.known in
      let r : first_at f c.x ≤ first_at f c.y = rising (ℕ_discrete c.x c.y) in
      let low : lower f v ≡ first_at f c.x = (parts m r).0 in
      let high : higher f v ≡ first_at f c.y = (parts m r).1 in
      let o : in_order f (owner_at f (first_at f c.x)) (owner_at f (first_at f c.y)) ≡ true = rw (a, b) c.order in
      rw (low, high)
      (begin_tests (first_at f c.x) (first_at f c.y) (ap (first_at f) a) (ap (first_at f) b) o (ap (begins_at f) a ∙ c.left) (ap (begins_at f) b ∙ c.right) m.same)
    where
      rising : Dec (c.x ≡ c.y) → first_at f c.x ≤ first_at f c.y
      rising (yes e) = rw e (omega arith)
      rising (no e) = omega (arith, n.rising c.x c.y (omega (arith, in_order_le f c.x c.y c.order)) c.known)
