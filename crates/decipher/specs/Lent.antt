-- What the searches are lent: a part of the clear working buffer that is as long as the code's places need, and buffers with room for every pair.
use Rattle.std.specs.Prelude.{◌≡◌, List, ◌++◌, ℕ, ◌+◌, ◌≤◌, ◌<◌, length, take, drop, replicate}
use Rattle.std.proofs.Common.{sym, ap, ◌∙◌, append-nil, arith, drop_of_length-le, take-append-drop}
use Rattle.std.proofs.lemmas.List.{length-replicate}
use Rattle.code.specs.declared.Enlarged.{Enlarged}
use Rattle.code.specs.Definitions.Operations.{written, zeroed, unordered_pairs, verdict_room, verdict_work}
use Rattle.code.specs.Definitions.Sheets.{limits}
use Rattle.code.specs.Definitions.Tables.{table_of}
use Rattle.pair_longest.specs.Extents.{Given}
use Rattle.decipher_delay.specs.Delays.{given}
use Rattle.well_enlarged.specs.WellEnlarged.{WellEnlarged}
use Rattle.pair_graph.specs.RivalPairs.{Ended}
use Rattle.pair_places.specs.Flat.{pair_count}
use Rattle.pair_places.specs.Nodes.{pairs_limited}
use Rattle.pair_places.specs.Whole.{LaidOut}
use Rattle.pair_shortest.specs.Ensured.{Clear}
use Rattle.pair_shortest.specs.Writing.{clear_zeros}
use Rattle.pair_storage.specs.Cleared.{clear_part, clear_marks}
use Rattle.pair_storage.specs.Marks.{marks}
use Rattle.pair_storage.specs.Rooms.{room_of, room_cells, room_pairs, room_most}
use Rattle.decipher.specs.Buffers.{Room}

-- The places of the value e, three buffers of m, f and g entries, and the clear list w.
pub record Searchable (e : Enlarged) (places : List ℕ) (m f g : ℕ) (w : List ℕ) : Type 0 where
  pub value : WellEnlarged limits e
  pub laid : LaidOut (table_of e.code) places
  pub ended : Ended (table_of e.code) places
  pub message : verdict_room limits ≤ m
  pub first : verdict_room limits ≤ f
  pub second : verdict_room limits ≤ g
  pub clear : w ≡ replicate (room_of places) 0

module _ {e : Enlarged} {places : List ℕ} {m f g : ℕ} {w : List ℕ} (s : Searchable e places m f g w) where
  pub lent_marks : Clear places (marks places w)
  lent_marks = rw (s.clear, clear_marks places (room_of places) (room_cells places)) (clear_zeros places)

  list_length_lem : length w ≡ room_of places
  list_length_lem = ap length s.clear ∙ length-replicate (room_of places) 0

  pub lent_queue : pair_count places + 2 ≤ length w
  lent_queue = omega (arith, list_length_lem, room_pairs places)

  pub lent_message : pair_count places ≤ m
  lent_message = omega (arith, pairs_limited s.laid.laid, s.message)

  -- After the search for the message the list has any marks; cleared, it is lent to that for the delay.
  pub lent_again : (w₁ : List ℕ) {w₂ : List ℕ} → length w₁ ≡ length w → w₂ ≡ zeroed w₁ → Given places (marks places w₂) w₂
  lent_again w₁ l c = given {n = length w₁} s.laid.laid s.laid.numbered (omega (arith, list_length_lem, room_cells places)) c

  -- A message of no more symbols than there are pairs is read in what the searches were lent.
  pub read_few : (x : List ℕ) → length x ≤ pair_count places → length x ≤ unordered_pairs limits
  read_few x few = omega (arith, pairs_limited s.laid.laid)

  pub read_within : (w₁ : List ℕ) → length w₁ ≡ length w → (x : List ℕ) → length x ≤ pair_count places → length x < length w₁
  read_within w₁ l x few = omega (arith, lent_queue)

-- The whole of the working buffer is clear, and a part of it is lent.
module _ {e : Enlarged} {places : List ℕ} {n : ℕ} (value : WellEnlarged limits e) (laid : LaidOut (table_of e.code) places) (ended : Ended (table_of e.code) places)
    (is : n ≡ room_of places) where
  -- The working buffer is long enough for the part that is lent.
  pub room_within : {w : ℕ} → verdict_work limits ≤ w → n ≤ w
  room_within h = omega (arith, room_most laid.laid)

  pub searchable : {m f g k : ℕ} {w₁ : List ℕ} → w₁ ≡ replicate k 0 → Room m f g k → Searchable e places m f g (take n w₁)
  searchable {k = k} c r = record {
    value = value;
    laid = laid;
    ended = ended;
    message = r.message;
    first = r.first;
    second = r.second;
    clear = ap (take n) c ∙ clear_part n k (room_within r.work) ∙ ap (λ (i : ℕ). replicate i 0) is;
  }

-- The marks are laid over the whole of a part that is as long, and nothing of it is left.
pub laid_whole : (p : List ℕ) (n : ℕ) → length p ≡ n → written (replicate n 0) p ≡ zeroed p
laid_whole p n e =
    rw (e, length-replicate {A = ℕ} n 0, drop_of_length-le p {i = n} (omega arith)) (append-nil (replicate n 0))

-- Where a part of a clear list is left clear, the whole is.
module _ {w₁ : List ℕ} {k n : ℕ} (c : w₁ ≡ replicate k 0) (l : n ≤ k) where
  part_clear : take n w₁ ≡ replicate n 0
  part_clear = ap (take n) c ∙ clear_part n k l

  pub part_long : n ≡ length (take n w₁)
  part_long = rw part_clear (sym (length-replicate {A = ℕ} n 0))

  pub whole_clear : {p : List ℕ} → p ≡ zeroed (take n w₁) → p ++ drop n w₁ ≡ replicate k 0
  whole_clear e = rw (e, ← part_long) (ap (λ (p : List ℕ). p ++ drop n w₁) (sym part_clear) ∙ take-append-drop n w₁ ∙ c)
