-- From the goal that was met to the message in its buffer, and the whole search from its start to its answer.
use Rattle.std.specs.Prelude.{◌≡◌, refl, Option, Some, None, is_some, Bool, true, false, ℕ, suc, ◌+◌, ◌-◌, ◌≤◌, ◌<◌, length, get_or, drop, set, replicate}
use Rattle.std.proofs.Common.{sym, ap, ◌∙◌, add-one, arith, length-set, drop-cons, drop-set-lt, get_or-set_same}
use mathlib.Core.List.{List, ◌∷◌, ◌++◌, append_assoc, reverse, reverse-cons}
use Rattle.std.proofs.lemmas.List.{length-reverse, length-replicate}
use Rattle.code.specs.Laws.Cells.{zeros}
use Rattle.graph.specs.Goals.{NoGoal}
use Rattle.graph.specs.Graph.{Graph}
use Rattle.pair_places.specs.declared.Pair.{Pair}
use Rattle.pair_places.specs.Flat.{Laid, cell_count, pair_count}
use Rattle.pair_places.specs.Nodes.{cells_most}
use Rattle.pair_places.specs.Opens.{open_graph}
use Rattle.pair_places.specs.Roots.{Numbered}
use Rattle.pair_places.specs.Steps.{Arrives}
use Rattle.pair_storage.specs.Entries.{entry_of, node_in, above_at, links, node_entry, above_entry, entries_in, length_entries_in, above_entries_in}
use Rattle.pair_storage.specs.Fields.{pair_room, above_in, Carries}
use Rattle.pair_storage.specs.Marks.{marks}
use Rattle.pair_storage.specs.Stores.{with_link, EntryStored, entry_stored}
use Rattle.pair_slots.specs.Leaves.{places_symbol}
use Rattle.pair_slots.specs.declared.Step.{Step}
use Rattle.pair_groups.specs.Carrying.{known_pair, known_high}
use Rattle.pair_groups.specs.Ensured.{Known, GoalNext}
use Rattle.pair_groups.specs.Pairs.{pair_bounded}
use Rattle.pair_groups.specs.Queue.{Between}
use Rattle.pair_groups.specs.Turns.{begun}
use Rattle.code.specs.Laws.Exactly.{Exactly, exactly_true, exactly_false}
use Rattle.pair_shortest.specs.Ensured.{Explored, reached, exhausted, Seeded, Clear, Message, Answers, nothing, SomeGoal}
use Rattle.pair_shortest.specs.Depth.{Depth, HasDepth, label_depth, depth_held, depth_unique}
use Rattle.pair_shortest.specs.Spelling.{Spelled, Stored, Filled, fill_some, fill_from, fill_falls, fill_next}

-- One turn of `fill`.
pub fill_within : {g : Graph} {q o p : List ℕ} {start count index at : ℕ} → Filled g q start count o index at p → 0 < index → length p ≡ length o
    → at - 1 < length p
fill_within t l e = let h = fill_some t l in let k = t.within in let n = t.room in omega arith

-- The higher place that a link carries is one of the list.
pub fill_place : {f : List ℕ} (q : List ℕ) {o p : List ℕ} {start count index at : ℕ} {d : Pair} → Laid f
    → Filled (open_graph f) (entries_in f q) start count o index at p → Known f (entries_in f q) (start + 1) → Carries (get_or q index 0) d → d.high < length f
fill_place q laid t k c = omega (arith, known_high q laid k (let h = t.low in omega arith) c, laid.places, laid.long)

-- `from` is read off the links.
module _ {f : List ℕ} (q : List ℕ) {o p : List ℕ} {start count index at r : ℕ} (laid : Laid f) (t : Filled (open_graph f) (entries_in f q) start count o index at p)
    (l : 0 < index) (e : r ≡ above_at (links q) index) where
  from_held : r ≡ above_at (entries_in f q) index
  from_held = e ∙ sym (above_entries_in f q laid index)

  pub link_from : 1 ≤ r
  link_from = fill_from t from_held l

  pub link_falls : r - 1 < index
  link_falls = fill_falls t from_held l

  -- The symbol is that of the higher place carried.
  pub fill_store : {d : Pair} → Known f (entries_in f q) (start + 1) → Carries (get_or q index 0) d
      → Filled (open_graph f) (entries_in f q) start count o (r - 1) (at - 1) (set p (at - 1) (get_or f d.high 0))
  fill_store k c = fill_next t from_held l (places_symbol f (known_pair q laid k (let h = t.low in omega arith) c))

-- What `write` rests on: the label of the group where a goal comes next, and its length.
module _ {f : List ℕ} (q : List ℕ) {a t : ℕ} (laid : Laid f) (m : GoalNext f (entries_in f q) a t) where
  label_steps : Depth (links q) a (length m.labelled.message)
  label_steps = depth_held q laid (label_depth m.labelled.label)

  pub met_depth : HasDepth (links q) a
  met_depth = record { count = length m.labelled.message; depth = label_steps }

  pub met_spelled : {n : ℕ} → Depth (links q) a n → Spelled (open_graph f) (entries_in f q) a n
  met_spelled d = record { message = m.labelled.message; label = m.labelled.label; long = depth_unique label_steps d }

module _ {f q : List ℕ} {a t : ℕ} (m : GoalNext f q a t) where
  -- A label and the symbol after it are the label's symbols with one more.
  written_list : (w o : List ℕ) (n : ℕ) → n < length o → reverse w ++ drop n (set o n t) ≡ reverse (t ∷ w) ++ drop (n + 1) o
  written_list w o n l =
      let k : n < length (set o n t) = rw (length-set o n t) l in
      ap (λ (r : List ℕ). reverse w ++ r) (drop-cons (set o n t) n 0 k)
      ∙ rw (get_or-set_same o n t 0 l, drop-set-lt (suc n) o n t (omega arith), reverse-cons t w, append_assoc, add-one)

  pub met_message : {o p : List ℕ} {n : ℕ} → Stored (open_graph f) q a n (set o n t) p → n ≤ a → pair_count f ≤ length o → Message f o p (n + 1)
  met_message {o} {p} {n} s h k =
      record {
        symbols = reverse (t ∷ s.spelled.message);
        long = length-reverse (t ∷ s.spelled.message) ∙ (let e = s.spelled.long in omega arith);
        least = m.least s.spelled.message s.spelled.label;
        list = s.list ∙ written_list s.spelled.message o n (let l = m.small in omega arith);
      }

-- What `shortest` starts from: the entry of the source is stored, and no mark.
module _ {f : List ℕ} (q : List ℕ) {q' : List ℕ} {p : Pair} (laid : Laid f) (d : Arrives f (cell_count f) p) (e : q' ≡ with_link q 0 0 p) where
  source_stored : EntryStored f q 0 0 p q'
  source_stored = entry_stored p laid d.low d.high e

  pub seeded : 0 < length q → Seeded f (entries_in f q')
  seeded l =
      let v = cell_count f in
      let s : entries_in f q' ≡ set (entries_in f q) 0 (entry_of 0 v) = source_stored.entries ∙ ap (λ (w : ℕ). set (entries_in f q) 0 (entry_of 0 w)) d.node in
      let z : get_or (set (entries_in f q) 0 (entry_of 0 v)) 0 0 ≡ entry_of 0 v = get_or-set_same (entries_in f q) 0 (entry_of 0 v) 0 (omega (arith, length_entries_in f q)) in
      let k : v < pair_room = omega (arith, cells_most laid) in
      rw s (record { node = ap node_in z ∙ node_entry 0 v k; from = ap above_in z ∙ above_entry 0 v k })

  pub seeded_marks : marks f q' ≡ marks f q
  seeded_marks = source_stored.marks

-- A list of zeros has no mark.
pub clear_zeros : (f : List ℕ) → Clear f (replicate (cell_count f) 0)
clear_zeros f = record { long = length-replicate {A = ℕ} (cell_count f) 0; clear = λ v. zeros (cell_count f) v }

pub started : {f ms ms' q : List ℕ} → Laid f → Numbered f → Clear f ms → Seeded f q → ms' ≡ ms → Between (open_graph f) ms' q 1 0
started laid n c s e = rw e (begun (pair_bounded laid n) c.long c.clear s.node s.from)

-- What the exploration says.
module _ {f q : List ℕ} where
  pub was_reached : {s : Step} {r : Option Step} → Explored f q r → r ≡ Some s → GoalNext f q s.start s.symbol
  was_reached {s} (reached {s = h} m) e = let z : h ≡ s = cc in rw z at m
  was_reached (exhausted h) e = let z : ◌≡◌ {A = ℕ} 0 1 = cc in absurd (omega arith)

  was_exhausted : {r : Option Step} → Explored f q r → r ≡ None → NoGoal (open_graph f)
  was_exhausted (reached m) e = let z : ◌≡◌ {A = ℕ} 0 1 = cc in absurd (omega arith)
  was_exhausted (exhausted h) e = h

  pub answer_nothing : {o : List ℕ} {r : Option Step} → Explored f q r → r ≡ None → Answers f o o None
  answer_nothing h e = nothing refl (was_exhausted h e)

  -- A walk leads to a goal exactly where one was met.
  pub goal_reached : {s : Step} {r : Option Step} → Explored f q r → r ≡ Some s → Exactly true (SomeGoal (open_graph f))
  goal_reached {s} h e =
      let m = was_reached h e in
      exactly_true (record { symbols = reverse (s.symbol ∷ m.labelled.message); goal = (m.least m.labelled.message m.labelled.label).goal })

  pub goal_exhausted : {r : Option Step} → Explored f q r → r ≡ None → Exactly false (SomeGoal (open_graph f))
  goal_exhausted h e = exactly_false (λ s. was_exhausted h e s.symbols s.goal)

  pub goal_met : {r : Option Step} {b : Bool} → Explored f q r → b ≡ is_some r → Exactly b (SomeGoal (open_graph f))
  goal_met {r = Some s} h e = rw e (goal_reached h refl)
  goal_met {r = None} h e = rw e (goal_exhausted h refl)
