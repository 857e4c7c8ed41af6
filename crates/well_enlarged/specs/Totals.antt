-- The symbols of an enlarged code together: each of its numbers has as many as its word.
use Rattle.std.specs.Prelude.{◌≡◌, Bool, List, [], map, ℕ, ◌+◌, ◌<◌, length, get_or}
use Rattle.std.proofs.Common.{sym, ap, ◌∙◌}
use Rattle.std.proofs.lemmas.List.{length-map}
use Rattle.std.proofs.Math.ListN.{get_or-map}
use Rattle.code.specs.declared.Code.{Code}
use Rattle.code.specs.declared.Limits.{Limits}
use Rattle.code.specs.Definitions.Lists.{tabulate}
use Rattle.code.specs.Definitions.Tables.{table_of}
use Rattle.code.specs.Definitions.Bans.{Copy, origin, enlarged}
use Rattle.code.specs.Laws.Lists.{tabulate_list}
use Rattle.ban_theory.specs.CopyLists.{origin_known}
use Rattle.ban_theory.specs.Copies.{Serves, enlarged-size, enlarged_covers}
use Rattle.code.specs.Laws.WellFormed.{len_of, WellFormed}
use Rattle.code.specs.Laws.Words.{size-count, word-length}

module _ {l : Limits} {c : Code} (given : WellFormed l c) {cs : List Copy} {b : ℕ → ℕ → ℕ → Bool} (serves : Serves c.count cs b) where
  -- The table has as many words as the code counts.
  pub table_serves : Serves (length (table_of c).words) cs b
  table_serves = rw (size-count given) serves

  pub enlarged-count : length (enlarged (table_of c) cs b).words ≡ c.count + length cs
  enlarged-count = enlarged-size (table_of c) cs b ∙ rw (size-count given)

  -- how many symbols number x has
  number_length : (x : ℕ) → x < c.count + length cs → len_of c (origin c.count cs x) ≡ length (get_or (enlarged (table_of c) cs b).words x [])
  number_length x h =
      sym (ap length ((enlarged_covers (table_of c) cs b table_serves).words x (rw enlarged-count h))
      ∙ rw (size-count given) (word-length given (origin c.count cs x) (origin_known c.count cs serves.copies x h)))

  pub enlarged_lengths : map length (enlarged (table_of c) cs b).words ≡ tabulate (λ x. len_of c (origin c.count cs x)) (c.count + length cs)
  enlarged_lengths =
      let words = (enlarged (table_of c) cs b).words in
      sym (tabulate_list (λ x. len_of c (origin c.count cs x)) (c.count + length cs) (map length words) 0 (length-map words length ∙ enlarged-count)
      (λ x h. number_length x h ∙ sym (get_or-map length words x [])))
