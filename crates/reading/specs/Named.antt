-- Readings in the numbers of original words. In the order of the origins, the first readings of a code with copies by number are by name the first of the table
-- of original words (Matches); where there are no copies, each number is its own name.
use Rattle.std.specs.Prelude.{◌≡◌, refl, List, [], ◌∷◌, ◌++◌, map, ℕ, ◌≤◌, ◌<◌, length, take, drop, get_or, Option}
use Rattle.std.proofs.Common.{sym, ap, ap₂, ◌∙◌, subst, subst₂, arith, take_at, drop_at}
use Rattle.std.proofs.lemmas.List.{length-map}
use Rattle.code.specs.declared.Code.{Code}
use Rattle.code.specs.declared.Enlarged.{Enlarged}
use Rattle.code.specs.declared.Limits.{Limits}
use Rattle.code.specs.Definitions.Bans.{number_after}
use Rattle.code.specs.Definitions.Enlarged.{copies_in, original_table}
use Rattle.code.specs.Definitions.Operations.{written}
use Rattle.code.specs.Definitions.Readings.{Reads, OnlyReading, FirstTwo}
use Rattle.code.specs.Definitions.Renumbering.{old_number, reordered, renumbered_code}
use Rattle.code.specs.Definitions.Tables.{size, table_of}
use Rattle.code.specs.Laws.Finite.{Within}
use Rattle.code.specs.Laws.Lists.{get_d_tabulate}
use Rattle.ban_theory.specs.Covers.{Cover}
use Rattle.ban_theory.specs.CoversSame.{cover_same}
use Rattle.ban_theory.specs.Matches.{named_none, named_only, named_first_two}
use Rattle.ban_theory.specs.Renumbered.{Order, renumbered_covers}
use Rattle.well_enlarged.specs.Meaning.{value_covers}
use Rattle.well_enlarged.specs.WellEnlarged.{WellEnlarged}
use Rattle.code.specs.declared.Readings.{Readings}
use Rattle.read_core.specs.Core.{Finds, unreadable, one, two, FindsAll}
use Rattle.read_core.specs.Counts.{first_count, second_count, reads_within}
use Rattle.renumbering.specs.Origins.{Origins, ByOrigin}
use Rattle.renumbering.specs.Renumberings.{number_in, renumbered_fits, renumbered_agrees}
use Rattle.code.specs.Laws.WellFormed.{WellFormed}
use Rattle.code.specs.Laws.Words.{size-count}

-- A buffer whose first n words have their names.
abbrev pub renamed : List ℕ → ℕ → List ℕ → List ℕ
renamed names n b = map (λ (x : ℕ). get_or names x 0) (take n b) ++ drop n b

-- Words below n that two functions name alike have the same names.
map_within : (n : ℕ) (f g : ℕ → ℕ) → ((x : ℕ) → x < n → f x ≡ g x) → (s : List ℕ) → Within n s → map f s ≡ map g s
map_within n f g same [] w = refl
map_within n f g same (x ∷ s) w = ap₂ ◌∷◌ (same x w.0) (map_within n f g same s w.1)

map_own : (n : ℕ) (f : ℕ → ℕ) → ((x : ℕ) → x < n → f x ≡ x) → (s : List ℕ) → Within n s → map f s ≡ s
map_own n f same [] w = refl
map_own n f same (x ∷ s) w = ap₂ ◌∷◌ (same x w.0) (map_own n f same s w.1)

-- Names in place of the words of a reading
renamed-written : (names : List ℕ) {c : ℕ} {b' b'' : List ℕ} (s b : List ℕ) → c ≡ length s → b' ≡ written s b → b'' ≡ renamed names c b' → b'' ≡ written (map (λ (x : ℕ). get_or names x 0) s) b
renamed-written names s b e p q =
    q ∙ rw (p, e, take_at s (drop (length s) b) (length s) refl, drop_at s (drop (length s) b) (length s) refl, length-map s (λ (x : ℕ). get_or names x 0))

module _ {l : Limits} {e : Enlarged} (w : WellEnlarged l e) where
  -- The origins of a value are as ordering by them needs.
  pub value_origins : Origins l e.origins e.originals e.code.count
  value_origins = record {
    array = w.numbers.origins;
    some = w.numbers.most;
    most = w.numbers.room;
    word = λ x h. (w.numbers.number x (omega (arith, w.numbers.most, w.numbers.room))).of_word h;
    copy = λ x h k. (w.numbers.number x (omega (arith, w.numbers.room))).of_copy h k;
  }

  -- Without copies
  module _ (all : e.originals ≡ e.code.count) where
    own_name : (x : ℕ) → x < size (table_of e.code) → get_or e.origins x 0 ≡ x
    own_name x h = value_origins.word x (omega (arith, size-count w.code))

    own_rises : (x y : ℕ) → x < y → y < size (table_of e.code) → get_or e.origins x 0 ≤ get_or e.origins y 0
    own_rises x y h k = rw (own_name x (omega arith), own_name y k) (omega arith)

    own_names : {m s : List ℕ} → Reads (table_of e.code) m s → map (λ (x : ℕ). get_or e.origins x 0) s ≡ s
    own_names {s = s} r = map_own (size (table_of e.code)) (λ x. get_or e.origins x 0) own_name s (reads_within r)

    own_finds : {m f g f' g' : List ℕ} {r : Option Readings} → Finds (table_of e.code) m f g f' g' r → Finds (original_table e) m f g f' g' r
    own_finds (unreadable o p q) = unreadable (named_none (value_covers w) o) p q
    own_finds {m = m} (one o c p q) = one (subst (OnlyReading (original_table e) m) (own_names o.reads) (named_only (value_covers w) o)) c p q
    own_finds {m = m} (two o c d p q) =
        two (subst₂ (FirstTwo (original_table e) m) (own_names o.first) (own_names o.second) (named_first_two (value_covers w) own_rises o)) c d p q

    -- What is found is in the numbers of original words.
    pub own_found : {m f g v f' g' v' : List ℕ} {r : Option Readings} → FindsAll (table_of e.code) m f g v f' g' v' r → FindsAll (original_table e) m f g v f' g' v' r
    own_found a = record { finds = own_finds a.finds; work = a.work }

  -- In the order of the origins
  module _ {old : List ℕ} (by : ByOrigin e.origins e.code.count old) where
    ordered_fits : WellFormed l (renumbered_code l old e.code)
    ordered_fits = renumbered_fits old w.code by.order

    ordered_size : size (table_of (renumbered_code l old e.code)) ≡ e.code.count
    unfolding renumbered_code
    ordered_size = size-count ordered_fits

    ordered_order : Order (size (table_of e.code)) (λ i. get_or old i 0) by.new
    ordered_order = rw (size-count w.code) by.order

    ordered_covers : Cover (table_of (renumbered_code l old e.code)) (original_table e) (λ i. get_or e.origins (get_or old i 0) 0) by.new
        (λ y x. by.new (number_after e.originals (copies_in e) y x))
    ordered_covers = cover_same (renumbered_covers (value_covers w) ordered_order) (renumbered_agrees old w.code by.order)

    ordered_rises : (x y : ℕ) → x < y → y < size (table_of (renumbered_code l old e.code)) → get_or e.origins (get_or old x 0) 0 ≤ get_or e.origins (get_or old y 0) 0
    ordered_rises x y h k = by.rises x y h (omega (arith, ordered_size))

    module _ {names : List ℕ} (named : names ≡ reordered l old e.code.count 0 e.origins) where
      name_is : (x : ℕ) → x < size (table_of (renumbered_code l old e.code)) → get_or e.origins (get_or old x 0) 0 ≡ get_or names x 0
      name_is x h =
          let known : x < e.code.count = omega (arith, ordered_size) in
          let at = get_d_tabulate (λ i. get_or e.origins (old_number old e.code.count i) 0) l.words x 0 (omega (arith, w.numbers.room)) in
          rw named (sym (at ∙ ap (λ (y : ℕ). get_or e.origins y 0) (number_in e.code.count (λ k. get_or old k 0) x known)))

      names_are : {m s : List ℕ} → Reads (table_of (renumbered_code l old e.code)) m s → map (λ (x : ℕ). get_or e.origins (get_or old x 0) 0) s ≡ map (λ (x : ℕ). get_or names x 0) s
      names_are {s = s} r = map_within (size (table_of (renumbered_code l old e.code))) _ _ name_is s (reads_within r)

      renamed_finds : {m f g f' g' f'' g'' : List ℕ} {r : Option Readings} → Finds (table_of (renumbered_code l old e.code)) m f g f' g' r → f'' ≡ renamed names (first_count r) f'
          → g'' ≡ renamed names (second_count r) g' → Finds (original_table e) m f g f'' g'' r
      renamed_finds (unreadable o p q) i j = unreadable (named_none ordered_covers o) (i ∙ p) (j ∙ q)
      renamed_finds {m = m} {f = f} (one {s = s} o c p q) i j =
          one (subst (OnlyReading (original_table e) m) (names_are o.reads) (named_only ordered_covers o)) (c ∙ sym (length-map s (λ (x : ℕ). get_or names x 0)))
          (renamed-written names s f c p i) (j ∙ q)
      renamed_finds {m = m} {f = f} {g = g} (two {s = s} {u = u} o c d p q) i j =
          two (subst₂ (FirstTwo (original_table e) m) (names_are o.first) (names_are o.second) (named_first_two ordered_covers ordered_rises o))
          (c ∙ sym (length-map s (λ (x : ℕ). get_or names x 0))) (d ∙ sym (length-map u (λ (x : ℕ). get_or names x 0)))
          (renamed-written names s f c p i) (renamed-written names u g d q j)

    -- The code in that order, as `renumber` gives it
    module _ {ordered : Code} (is : ordered ≡ renumbered_code l old e.code) where
      pub ordered_well : WellFormed l ordered
      ordered_well = rw is ordered_fits

      pub ordered_few : size (table_of ordered) ≤ l.words
      ordered_few = rw is (omega (arith, ordered_size, w.numbers.room))

      -- What is found, each word by its name, is in the numbers of original words.
      pub renamed_found : {names : List ℕ} → names ≡ reordered l old e.code.count 0 e.origins → {m f g v f' g' v' f'' g'' : List ℕ} {r : Option Readings}
          → FindsAll (table_of ordered) m f g v f' g' v' r → f'' ≡ renamed names (first_count r) f' → g'' ≡ renamed names (second_count r) g'
          → FindsAll (original_table e) m f g v f'' g'' v' r
      renamed_found named a i j = record { finds = renamed_finds named (rw is at a.finds) i j; work = a.work }
