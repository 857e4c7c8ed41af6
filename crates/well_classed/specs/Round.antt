-- The class sheet that is written for the letters of well-classed entries is accepted, and gives the entries back; so the well-classed entries are just those that
-- accepted class sheets give.
use Rattle.std.specs.Prelude.{◌≡◌, refl, Bool, true, false, ◌↔◌, ℕ, ◌≤◌, ◌<◌, get_or}
use Rattle.std.proofs.Common.{sym, ◌∙◌, true≢false}
use mathlib.Core.List.{List, [], ◌∷◌, map}
use native.Mathlib.Omega.{arith}
use Rattle.std.proofs.Math.ListN.{length}
use borrow.Author.Tests.{ltb-true, le-ltb, ne_eqb}
use Rattle.code.specs.declared.Classes.{Classes}
use Rattle.code.specs.Definitions.Lists.{any}
use Rattle.code.specs.Definitions.Sheets.{limits}
use Rattle.code.specs.Definitions.ClassSheets.{takes_sign, refused18, upside_down, refused19, different_bytes, all_bytes, takers, refused20, class_by, classes_of, FromClassSheet}
use Rattle.code.specs.Definitions.Texts.{other, class_of, is_letter}
use Rattle.code.specs.Laws.Lists.{tabulate_list, tabulate-map, any-tabulate}
use Rattle.text_theory.specs.Signs.{is_sign}
use Rattle.well_classed.specs.WellClassed.{WellClassed}
use Rattle.well_classed.specs.Signs.{signs_no_letters}
use Rattle.well_classed.specs.Accepts.{Accepts, accepted}
use Rattle.well_classed.specs.Given.{given_well}
use Rattle.well_classed.specs.Letters.{Letters, listed, letters_few, letter_at}
use Rattle.well_classed.specs.Singles.{single, takes_single, Takes, takes_below}
use Rattle.well_classed.specs.Print.{print}
use Rattle.well_classed.specs.Written.{written_some, written_bytes, written_formed, written_grid, written_ranges, written_short}

module _ (c : List ℕ) (w : WellClassed c) where
  letter_no_sign : (b : ℕ) → is_letter c b ≡ true → is_sign b ≡ false
  letter_no_sign b e = by_sign (is_sign b) refl
    where
      by_sign : (t : Bool) → is_sign b ≡ t → t ≡ false
      by_sign true m = absurd (true≢false (sym e ∙ signs_no_letters w b m))
      by_sign false m = refl

  takes_no_sign : (b : ℕ) → is_letter c b ≡ true → takes_sign (single c b) ≡ false
  unfolding takes_sign
  takes_no_sign b e = simp (takes_single c b) (letter_no_sign b e)

  -- No letter, no range: then every byte would be `other`.
  some_range : (l : List ℕ) (b : ℕ) → class_by (map (single c) l) b ≡ class_of c b → class_of c b < other → 1 ≤ length l
  unfolding class_by
  some_range [] b e h = absurd (omega arith)
  some_range (a ∷ l) b e h = omega arith

  module _ (l : List ℕ) (letters : Letters c different_bytes l) where
    takes : (b : ℕ) → b < different_bytes → Takes c l b 1 (class_of c b)
    takes = takes_below c letters w.small

    some : 1 ≤ length l
    some = let b = w.letter in some_range l b.x (takes b.x b.below).class (ltb-true (class_of c b.x) other b.passes)

    -- Refusals 18 to 20 do not hold of the ranges.

    no_signs : any takes_sign (map (single c) l) ≡ false
    no_signs =
        rw (← tabulate-map (single c) l 0)
        (any-tabulate takes_sign (λ k. single c (get_or l k 0)) (length l) (λ k h. takes_no_sign (get_or l k 0) (letter_at c letters k h).1))

    all_upright : refused19 (map (single c) l) ≡ false
    unfolding refused19
    all_upright =
        rw (← tabulate-map (single c) l 0) (any-tabulate upside_down (λ k. single c (get_or l k 0)) (length l) (λ k h. le-ltb (get_or l k 0) (get_or l k 0) (omega arith)))

    all_once : refused20 (map (single c) l) ≡ false
    unfolding refused20 all_bytes
    all_once = any-tabulate _ (λ b. b) different_bytes (λ b h. le-ltb 1 (takers b (map (single c) l)) (takes b h).most)

    -- Their classes are the entries.
    same_classes : classes_of (map (single c) l) ≡ record { entries = c }
    unfolding classes_of
    same_classes = rw (tabulate_list (class_by (map (single c) l)) different_bytes c 0 w.whole (λ b h. (takes b h).class))

    print_accepted : Accepts limits (print c l) (record { entries = c })
    unfolding refused18
    print_accepted =
        let n = length (print c l) in
        let ranges = written_ranges c letters some in
        record {
          size = rw (ne_eqb n 0 (λ e. omega (arith, written_some c l)), le-ltb limits.classes n (omega (arith, written_short c letters some, letters_few c letters)));
          records = rw (written_bytes c letters, written_grid c letters some, written_formed c letters, ranges) no_signs;
          upright = rw ranges all_upright;
          once = rw ranges all_once;
          gives = rw ranges same_classes;
        }

-- Well-classed entries are given by an accepted class sheet.
pub well_given : {c : Classes} → WellClassed c.entries → FromClassSheet limits c
well_given {c} w =
    let l = listed c.entries different_bytes in
    let s = print c.entries l.list in
    record { sheet = s; gives = accepted limits s (print_accepted c.entries w l.list l.letters) }

pub well_classed_lem : {c : Classes} → WellClassed c.entries ↔ FromClassSheet limits c
well_classed_lem = (well_given, given_well)
