-- What is stored for a pair: its mark, and an entry with its two places. Both stand in one list; storing one keeps the other.
use Rattle.std.specs.Prelude.{◌≡◌, List, ℕ, ◌≤◌, ◌<◌, length, get_or, set}
use Rattle.std.proofs.Common.{sym, ap, ◌∙◌, get_or-set_other}
use Rattle.pair_places.specs.declared.Pair.{Pair}
use Rattle.pair_places.specs.Flat.{Laid, place_count, cell_count}
use Rattle.pair_places.specs.Nodes.{cell_inside}
use Rattle.pair_places.specs.Steps.{pair_cell}
use Rattle.pair_storage.specs.Entries.{entry_of, entries_in, entries_in_set, entries_in_same}
use Rattle.pair_storage.specs.Fields.{mark_room, link_of, both_of, link_in, mark_in, mark_both, link_both, mark_fits}
use Rattle.pair_storage.specs.Marks.{marks, mark_at_lem, marks_set, marks_same}

-- The two places of p have a mark.
pub record Marked (f ms : List ℕ) (p : Pair) : Type 0 where
  pub laid : Laid f
  pub size : length ms ≡ cell_count f
  pub low : p.low < place_count f
  pub high : p.high < place_count f

abbrev pub mark_of : List ℕ → List ℕ → Pair → ℕ
mark_of f ms p = get_or ms (pair_cell f p) 0

module _ {f : List ℕ} (w : List ℕ) (p : Pair) (h : Marked f (marks f w) p) where
  -- The cell of such a pair has its mark.
  pub mark_read : {v m : ℕ} → v ≡ pair_cell f p → m ≡ mark_in (get_or w v 0) → m ≡ mark_of f (marks f w) p
  mark_read a b = b ∙ ap (λ (i : ℕ). mark_in (get_or w i 0)) a ∙ sym (mark_at_lem f w (pair_cell f p) (cell_inside f p.low p.high h.high h.low))

-- The list w with the mark m in cell v, and with a link in entry i.
abbrev pub with_mark : List ℕ → ℕ → ℕ → List ℕ
with_mark w v m = set w v (both_of m (link_in (get_or w v 0)))

abbrev pub with_link : List ℕ → ℕ → ℕ → Pair → List ℕ
with_link w i above p = set w i (both_of (mark_in (get_or w i 0)) (link_of above p.low p.high))

-- What is stored, from its two parts.
module _ (w : List ℕ) (i : ℕ) {k e : ℕ} where
  pub mark_written : (n v : ℕ) → i ≡ v → e ≡ both_of n k → k ≡ link_in (get_or w i 0) → set w i e ≡ with_mark w v n
  mark_written n v a b c = rw (b, c, a)

-- The mark of p is m. No other mark changes, and no entry.
pub record MarkStored (f w : List ℕ) (p : Pair) (m : ℕ) (w' : List ℕ) : Type 0 where
  pub marks : marks f w' ≡ set (marks f w) (pair_cell f p) m
  pub entries : entries_in f w' ≡ entries_in f w

-- Entry i is the pair p, or the source, with a number above it. No other entry changes, and no mark.
pub record EntryStored (f w : List ℕ) (i above : ℕ) (p : Pair) (w' : List ℕ) : Type 0 where
  pub marks : marks f w' ≡ marks f w
  pub entries : entries_in f w' ≡ set (entries_in f w) i (entry_of above (pair_cell f p))

-- Both: entry i is the pair p with a number above it, and the mark of p is m.
pub record Stored (f w : List ℕ) (i above : ℕ) (p : Pair) (m : ℕ) (w' : List ℕ) : Type 0 where
  pub marks : marks f w' ≡ set (marks f w) (pair_cell f p) m
  pub entries : entries_in f w' ≡ set (entries_in f w) i (entry_of above (pair_cell f p))

module _ {f w w' : List ℕ} (p : Pair) where
  pub mark_stored : {m : ℕ} → Marked f (marks f w) p → m < mark_room → w' ≡ with_mark w (pair_cell f p) m → MarkStored f w p m w'
  mark_stored {m} h l e =
      let v : ℕ = pair_cell f p in
      let k : ℕ = link_in (get_or w v 0) in
      rw e
      record {
        marks = marks_set f w v (both_of m k) (cell_inside f p.low p.high h.high h.low) ∙ ap (set (marks f w) v) (mark_both m k l);
        entries = entries_in_same f w h.laid v (both_of m k) (link_both m k l);
      }

  pub entry_stored : {i above : ℕ} → Laid f → p.low ≤ place_count f → p.high < place_count f → w' ≡ with_link w i above p → EntryStored f w i above p w'
  entry_stored {i} {above} laid l h e =
      let m : ℕ = mark_in (get_or w i 0) in
      let k : ℕ = link_of above p.low p.high in
      rw e
      record {
        marks = marks_same f w i (both_of m k) (mark_both m k (mark_fits (get_or w i 0)));
        entries = entries_in_set f w laid i m above p.low p.high (mark_fits (get_or w i 0)) l h;
      }

-- What `store` does, by its two stores.
pub stored : {f w w₁ w' : List ℕ} {i above m : ℕ} (p : Pair) → MarkStored f w p m w₁ → EntryStored f w₁ i above p w' → Stored f w i above p m w'
stored {f} {i = i} {above = above} p a b =
    record { marks = b.marks ∙ a.marks; entries = b.entries ∙ ap (λ (l : List ℕ). set l i (entry_of above (pair_cell f p))) a.entries }

-- Storing one keeps the other: the marks after it come from the marks alone, the entries from the entries alone, and all but one of each are as they were.
module _ {f w : List ℕ} {i above : ℕ} {p : Pair} {m : ℕ} {w' : List ℕ} (s : Stored f w i above p m w') where
  pub marks_kept : (v : ℕ) → (v ≡ pair_cell f p → ⊥) → get_or (marks f w') v 0 ≡ get_or (marks f w) v 0
  marks_kept v other = rw s.marks (get_or-set_other (marks f w) (pair_cell f p) v m 0 other)

  pub entries_kept : (j : ℕ) → (j ≡ i → ⊥) → get_or (entries_in f w') j 0 ≡ get_or (entries_in f w) j 0
  entries_kept j other = rw s.entries (get_or-set_other (entries_in f w) i j (entry_of above (pair_cell f p)) 0 other)
