-- Splitting by a code with copies is splitting by the table of original words that it covers: a word has no, one or several readings by both, and the words of a
-- reading are as long by both.
use Rattle.std.specs.Prelude.{◌≡◌, refl, List, [], ◌∷◌, map, ℕ}
use Rattle.std.proofs.Common.{subst}
use Rattle.code.specs.Definitions.Lists.{join}
use Rattle.code.specs.Definitions.Tables.{Table, size}
use Rattle.code.specs.Definitions.Texts.{syllable_break, syllables, lengths_of, Shows, split, none, several, Splits, end, copied, shown}
use Rattle.code.specs.Laws.Finite.{Within}
use Rattle.code.specs.Laws.Sequences.{linked_within, permitted_linked}
use Rattle.ban_theory.specs.Covers.{Cover}
use Rattle.ban_theory.specs.Matches.{named_none, named_only, named_two}

module _ {e t : Table} {name start : ℕ → ℕ} {after : ℕ → ℕ → ℕ} (c : Cover e t name start after) where
  named_lengths : (r : List ℕ) → Within (size e) r → lengths_of t (map name r) ≡ lengths_of e r
  named_lengths [] w = refl
  named_lengths (x ∷ r) w = rw (c.words x w.0, named_lengths r w.1)

  named_shows : {classes w p : List ℕ} → Shows e classes w p → Shows t classes w p
  named_shows {classes} {w} (split {r} o) =
      subst (λ (l : List ℕ). Shows t classes w (join (syllable_break ∷ []) (syllables l w))) (named_lengths r (linked_within (permitted_linked o.reads.permitted))) (split (named_only c o))
  named_shows (none n) = none (named_none c n)
  named_shows (several b) = several (named_two c b)

  pub named_splits : {classes s o : List ℕ} → Splits e classes s o → Splits t classes s o
  named_splits end = end
  named_splits (copied h d) = copied h (named_splits d)
  named_splits (shown h p d) = shown h (named_shows p) (named_splits d)
