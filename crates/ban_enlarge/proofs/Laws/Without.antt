-- The tables without copies that sheets give are the well-enlarged values all of whose words are originals.
use mathlib.Core.Path.{◌≡◌, sym, ap, ◌∙◌, subst}
use mathlib.Core.Bool.{Bool, true, false}
use mathlib.Core.List.{List, []}
use Prim.Native.Nat.{ℕ, ◌<◌}
use native.Mathlib.Decide.{dec_lt}
use native.Mathlib.Omega.{arith}
use lib.Dec.{eqb}
use lib.ListN.{get_or}
use borrow.Author.Tests.{eqb-true, eqb-false}
use Rattle.code.specs.declared.Enlarged.{Enlarged}
use Rattle.code.specs.declared.Limits.{Limits}
use Rattle.code.specs.Definitions.Bans.{origin}
use Rattle.code.specs.Definitions.Enlarged.{plain_of}
use Rattle.code.specs.Definitions.Operations.{WithoutCopies, FromLists}
use Rattle.code.specs.Laws.Lists.{tabulate_list}
use Rattle.ban_theory.specs.CopyLists.{origin_word, origin_copy}
use Rattle.well_enlarged.specs.WellEnlarged.{WellEnlarged}
use Rattle.well_enlarged.proofs.Laws.Plain.{plain_well}
use Rattle.well_enlarged.specs.Listed.{RoomyLists, from_lists, to_lists}
use Rattle.code.specs.Laws.Exactly.{Exactly, exactly_false}
use Rattle.well_formed.specs.Given.{well}
use Rattle.well_formed.specs.Round.{from_sheet}
use Rattle.well_formed.specs.Written.{Roomy}

value_is : (e : Enlarged) (n : ℕ) (os bs : List ℕ) → n ≡ e.originals → os ≡ e.origins → bs ≡ e.behind → e ≡ record { code = e.code; originals = n; origins = os; behind = bs }
value_is e n os bs a b c = rw (a, b, c)

module _ {l : Limits} {e : Enlarged} where
  module _ (room : Roomy l) (w : WellEnlarged l e) (all : e.originals ≡ e.code.count) where
    origin_at : (x : ℕ) → x < l.words → Dec (x < e.code.count) → origin e.code.count [] x ≡ get_or e.origins x 0
    origin_at x h (yes k) = origin_word e.code.count [] x k ∙ sym ((w.numbers.number x h).of_word (omega arith))
    origin_at x h (no k) = origin_copy e.code.count [] x (omega arith) ∙ sym ((w.numbers.number x h).of_past (omega arith))

    behind_at_lem : (x : ℕ) → x < l.words → Dec (x < e.code.count) → 0 ≡ get_or e.behind x 0
    behind_at_lem x h (yes k) = sym ((w.numbers.number x h).behind_word (omega arith))
    behind_at_lem x h (no k) = sym ((w.numbers.number x h).behind_past (omega arith))

    all_originals : WithoutCopies l e
    unfolding plain_of
    all_originals = record {
      given = from_sheet room w.code;
      plain =
          value_is e e.code.count _ _ (sym all)
          (tabulate_list (origin e.code.count []) l.words e.origins 0 w.numbers.origins (λ x h. origin_at x h (dec_lt x e.code.count)))
          (tabulate_list (λ x. 0) l.words e.behind 0 w.numbers.behind (λ x h. behind_at_lem x h (dec_lt x e.code.count)));
    }

  plain_value : WithoutCopies l e → WellEnlarged l e
  plain_value p = subst (WellEnlarged l) (sym p.plain) (plain_well (well p.given))

  plain_all : WithoutCopies l e → e.originals ≡ e.code.count
  unfolding plain_of
  plain_all p = ap (λ (d : Enlarged). d.originals) p.plain

  -- What `without_copies` returns.
  pub tested_all : Roomy l → {a : Bool} → Exactly a (FromLists l e) → a ≡ true → Exactly (eqb e.originals e.code.count) (WithoutCopies l e)
  tested_all room t h = record {
    yes = λ q. all_originals room (from_lists (t.yes h)) (eqb-true e.originals e.code.count q);
    no = λ q p. eqb-false e.originals e.code.count q (plain_all p);
  }

  pub tested_not : Roomy l → RoomyLists l → {a : Bool} → Exactly a (FromLists l e) → a ≡ false → Exactly false (WithoutCopies l e)
  tested_not room lists t h = exactly_false (λ p. t.no h (to_lists room lists (plain_value p)))
