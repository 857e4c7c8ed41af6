-- The word that a covering table tells of a message is by name that of the table that it covers.
use Rattle.std.proofs.Common.{sym, ap, ◌∙◌}
use Rattle.std.specs.Prelude.{List, map, ℕ, take}
use Rattle.code.specs.Definitions.Tables.{Table}
use Rattle.code.specs.Definitions.NextWords.{NextWord, NoDelay}
use Rattle.ban_theory.specs.Covers.{Cover, lift_after, named_permitted, named_message, lifted_permitted, lifted_message}
use Rattle.ban_theory.specs.Matches.{lifted_delay}

module _ {e t : Table} {name start : ℕ → ℕ} {after : ℕ → ℕ → ℕ} (c : Cover e t name start after) where
  module _ {N : ℕ} {m : List ℕ} {x : ℕ} where
    -- What a covering table tells is the word by name,
    pub named_next : NextWord e N m x → NextWord t N m (name x)
    named_next a = record { s = map name a.s; permitted = named_permitted c a.permitted; share = ap (take N) (sym (named_message c a.permitted)) ∙ a.share }

    -- and it tells every word.
    pub lifted_next : NextWord t N m x → NextWord e N m (start x)
    lifted_next a =
        record { s = lift_after start after x a.s; permitted = lifted_permitted c a.permitted; share = ap (take N) (lifted_message c a.permitted) ∙ a.share }

  -- Where it has no delay, the other has none.
  pub named_endless : NoDelay e → NoDelay t
  named_endless none N d = none N (lifted_delay c d)
