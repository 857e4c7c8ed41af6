-- What the matrix of a code of types says, entry by entry: 0 exactly where one of the rules forbids.
use Rattle.std.specs.Prelude.{◌≡◌, refl, Bool, true, false, not, ◌↔◌, ℕ, ◌≤◌, ◌<◌, eqb, length, if◌then◌else◌}
use Rattle.std.proofs.Common.{sym, ◌∙◌, true≢false, arith}
use Rattle.std.proofs.Math.Path.{ap}
use mathlib.Core.List.{List, [], map}
use Rattle.std.proofs.Math.ListN.{get_or, length-map}
use Rattle.code.specs.declared.Row.{Row}
use Rattle.code.specs.Definitions.Sheets.{limits}
use Rattle.code.specs.Definitions.Tables.{no_row, entry_of, table_of}
use Rattle.code.specs.Laws.Lists.{get_d_tabulate, map_at}
use Rattle.turkish.specs.Types.{forbids, entry_for, matrix, padded, row_for, code_of_types}

zero_iff : (b : Bool) → (◌≡◌ {A = ℕ} (if b then 0 else 1) 0) ↔ (b ≡ true)
zero_iff true = (λ e. refl, λ e. refl)
zero_iff false = (λ e. absurd (omega arith), λ e. absurd (true≢false (sym e)))

one_not : (b : Bool) → eqb (if b then 0 else 1) 1 ≡ not b
one_not true = refl
one_not false = refl

module _ (ts : List (List ℕ)) (few : length ts ≤ limits.words) (x y : ℕ) (h : x < length ts) (l : y < length ts) where
  pub entry_rules : entry_of (code_of_types limits ts) x y ≡ entry_for (get_or ts x []) (get_or ts y [])
  unfolding code_of_types padded
  entry_rules =
      let rows = length-map ts (λ t. map (entry_for t) ts) in
      let row : get_or (code_of_types limits ts).rows x no_row ≡ row_for limits (map (entry_for (get_or ts x [])) ts) =
      get_d_tabulate (λ k. get_or (map (row_for limits) (matrix ts)) k (row_for limits [])) limits.words x no_row (omega arith)
      ∙ map_at (row_for limits) (matrix ts) x (row_for limits []) [] (omega (arith, rows))
      ∙ ap (row_for limits) (map_at (λ t. map (entry_for t) ts) ts x [] [] h) in
      ap (λ (r : Row). get_or r.entries y 0) row
      ∙ get_d_tabulate (λ k. get_or (map (entry_for (get_or ts x [])) ts) k 0) limits.words y 0 (omega arith)
      ∙ map_at (entry_for (get_or ts x [])) ts y 0 [] l

  -- 02, request 3: "proved to hold 0 exactly where one of them forbids"
  pub zero_exactly : (entry_of (code_of_types limits ts) x y ≡ 0) ↔ (forbids (get_or ts x []) (get_or ts y []) ≡ true)
  zero_exactly = rw entry_rules (zero_iff (forbids (get_or ts x []) (get_or ts y [])))

  -- x may come immediately after y exactly where neither rule forbids it.
  pub follow_rules : (table_of (code_of_types limits ts)).follow x y ≡ not (forbids (get_or ts x []) (get_or ts y []))
  follow_rules = rw entry_rules (one_not (forbids (get_or ts x []) (get_or ts y [])))
