-- A table of a sheet, as the value without copies that it is, is well-enlarged; and how such a value is filled in.
use mathlib.Core.Path.{◌≡◌, refl}
use mathlib.Core.Bool.{true}
use mathlib.Core.List.{[]}
use Prim.Native.Nat.{ℕ, ◌-◌, ◌<◌}
use native.Mathlib.Omega.{arith}
use Rattle.code.specs.declared.Code.{Code}
use Rattle.code.specs.declared.Enlarged.{Enlarged}
use Rattle.code.specs.declared.Limits.{Limits}
use Rattle.code.specs.Definitions.Lists.{any, tabulate}
use Rattle.code.specs.Definitions.Tables.{table_of}
use Rattle.code.specs.Definitions.Bans.{has_copy, origin, stands_after}
use Rattle.code.specs.Definitions.Enlarged.{plain_of, copies_in}
use Rattle.code.specs.Laws.Lists.{length-tabulate, get_d_tabulate}
use Rattle.ban_theory.specs.CopyLists.{origin_word, origin_copy, next_stands, next_itself}
use Rattle.ban_theory.specs.Enlargements.{Fair}
use Rattle.code.specs.Laws.WellFormed.{WellFormed}
use Rattle.well_enlarged.specs.WellEnlarged.{NumberFits, Numbered, WellEnlarged}
use Rattle.well_enlarged.specs.Numbers.{copy_in}

-- Where there are no copies, a word stands after every word, and every matrix is that of an enlarged code.
pub none_stand : (n x y : ℕ) → x < n → stands_after n [] x y ≡ true
unfolding has_copy any
none_stand n x y h = rw (next_itself n [] y x refl) at (next_stands n [] y x h)

pub none_fair : (n : ℕ) (c : Code) → Fair n [] (table_of c).follow
none_fair n c = record {
  only = λ x y h k f. none_stand n x (origin n [] y) (omega arith);
  base = λ x y h k f. rw (origin_word n [] y (omega arith)) f;
}

pub no_copies : (e : Enlarged) → e.originals ≡ e.code.count → copies_in e ≡ []
unfolding tabulate
no_copies e h = let none : e.code.count - e.originals ≡ 0 = omega arith in rw none

pub plain_fair : (e : Enlarged) → e.originals ≡ e.code.count → Fair e.originals (copies_in e) (table_of e.code).follow
plain_fair e h = rw (no_copies e h) (none_fair e.originals e.code)

module _ {l : Limits} {c : Code} (given : WellFormed l c) where
  number_fits : (x : ℕ) → NumberFits c.count c.count x (origin c.count [] x) 0
  number_fits x = record {
    of_word = origin_word c.count [] x;
    of_copy = λ h k. absurd (omega arith);
    of_past = λ h. origin_copy c.count [] x h;
    behind_word = λ h. refl;
    behind_copy = λ h k. absurd (omega arith);
    behind_past = λ h. refl;
    apart = λ h k. absurd (omega arith);
  }

  numbers : Numbered l (plain_of l c)
  unfolding plain_of
  numbers = record {
    one = given.one;
    most = omega arith;
    room = given.most;
    origins = length-tabulate (origin c.count []) l.words;
    behind = length-tabulate (λ x. 0) l.words;
    number = λ x h. rw (get_d_tabulate (origin c.count []) l.words x 0 h, get_d_tabulate {A = ℕ} (λ x. 0) l.words x 0 h) (number_fits x);
  }

  pub plain_well : WellEnlarged l (plain_of l c)
  unfolding plain_of
  plain_well = record {
    code = given;
    numbers = numbers;
    once = λ y z i j a b. absurd (omega (arith, a.below, length-tabulate (copy_in (plain_of l c)) (c.count - c.count)));
    copy = λ x h k. absurd (omega arith);
    fair = plain_fair (plain_of l c) refl;
  }
