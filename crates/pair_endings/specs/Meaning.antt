-- The marked words of a table's flat list are those that end some permitted sequence of the table.
use Rattle.std.proofs.Common.{sym, ◌∙◌, arith}
use Rattle.std.specs.Prelude.{List, ◌↔◌, ℕ, ◌<◌}
use Rattle.code.specs.Definitions.Tables.{Table, size}
use Rattle.code.specs.Laws.Endings.{Ending, first, next, ending_word}
use Rattle.pair_places.specs.Flat.{word_count}
use Rattle.pair_places.specs.Whole.{LaidOut, begins_same, follow_same}
use Rattle.pair_endings.specs.Closing.{FlatEnding}
use Rattle.pair_endings.specs.Closing as Closing

module _ {t : Table} {f : List ℕ} (l : LaidOut t f) where
  known : {x : ℕ} → x < word_count f → x < size t
  known h = omega (arith, l.lays.count)

  there : {x : ℕ} → x < size t → x < word_count f
  there h = omega (arith, l.lays.count)

  flat_ending : {x : ℕ} → FlatEnding f x → Ending t x
  flat_ending (Closing.first {x} h b) = first (known h) (sym (begins_same l x (known h)) ∙ b)
  flat_ending (Closing.next {y} {x} d h b) = let e = flat_ending d in next e (known h) (sym (follow_same l x y (known h) (ending_word e)) ∙ b)

  ending_flat : {x : ℕ} → Ending t x → FlatEnding f x
  ending_flat (first {x} h b) = Closing.first (there h) (begins_same l x h ∙ b)
  ending_flat (next {y} {x} e h b) = Closing.next (ending_flat e) (there h) (follow_same l x y h (ending_word e) ∙ b)

  -- The words that end a sequence of the flat list end one of the table, and the other way round.
  pub ending_iff : {x : ℕ} → FlatEnding f x ↔ Ending t x
  ending_iff = (flat_ending, ending_flat)
