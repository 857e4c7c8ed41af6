-- A store into an array that is a table.
use Rattle.std.specs.Prelude.{◌≡◌, ℕ, ◌<◌, get_or, set}
use Rattle.std.proofs.Common.{sym, ◌∙◌, length-set, get_or-set_same, get_or-set_other}
use Rattle.std.proofs.Math.Decide.{ℕ_discrete}
use Rattle.code.specs.Definitions.Lists.{tabulate}
use Rattle.code.specs.Laws.Lists.{length-tabulate, get_d_tabulate, tabulate_list}

module _ {A : Type 0} (f g : ℕ → A) (n x : ℕ) (v : A) (h : x < n) (here : g x ≡ v) (others : (i : ℕ) → (i ≡ x → ⊥) → g i ≡ f i) where
  stored : (i : ℕ) → i < n → Dec (i ≡ x) → g i ≡ get_or (set (tabulate f n) x v) i v
  stored i l (yes e) = rw e (here ∙ sym (get_or-set_same (tabulate f n) x v v (rw (length-tabulate f n) h)))
  stored i l (no e) = others i e ∙ sym (get_or-set_other (tabulate f n) x i v v e ∙ get_d_tabulate f n i v l)

  -- A store makes the table of the function that differs there.
  pub set-tabulate : set (tabulate f n) x v ≡ tabulate g n
  set-tabulate = sym (tabulate_list g n (set (tabulate f n) x v) v (length-set (tabulate f n) x v ∙ length-tabulate f n) (λ i l. stored i l (ℕ_discrete i x)))
