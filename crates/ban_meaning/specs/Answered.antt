-- Enlarging by a list has one answer. Lists of the same records get the same one, and if they are accepted the two values are alike.
use Rattle.std.specs.Prelude.{◌≡◌, List, ℕ, Err}
use Rattle.std.proofs.Common.{sym, ap, ◌∙◌}
use Rattle.code.specs.declared.Enlarged.{Enlarged}
use Rattle.code.specs.declared.Enlargement.{Enlargement}
use Rattle.code.specs.declared.Limits.{Limits}
use Rattle.code.specs.declared.Refusal.{Refusal}
use Rattle.code.specs.Definitions.Enlarged.{blank_enlarged}
use Rattle.code.specs.Definitions.Operations.{ban_conditions, Enlarges, refused, enlarged}
use Rattle.code.specs.Laws.Conditions.{lowest_unique, lowest_none}

module _ {l : Limits} {e : Enlarged} where
  -- Enlarging has at most one answer.
  pub enlarges_unique : {s : List ℕ} {x y : Enlargement} → Enlarges l e s x → Enlarges l e s y → x ≡ y
  enlarges_unique {s} (refused {r} h p) (refused {r = i} k q) =
      p ∙ ap (λ (j : Refusal). record { answer = Err j; enlarged = blank_enlarged l }) (lowest_unique (ban_conditions l e s) r i h k) ∙ sym q
  enlarges_unique {s} (refused {r} h p) (enlarged k q) = absurd (lowest_none (ban_conditions l e s) r h k)
  enlarges_unique {s} (enlarged h p) (refused {r} k q) = absurd (lowest_none (ban_conditions l e s) r k h)
  enlarges_unique (enlarged h p) (enlarged k q) = p ∙ sym q
