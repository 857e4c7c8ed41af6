-- The numbers of a code with copies ordered by origin: each word before its copies, these in ascending order. The key of a number is its origin, then itself.
use Rattle.std.specs.Prelude.{◌≡◌, List, ℕ, suc, ◌+◌, ◌*◌, ◌≤◌, ◌<◌, length, get_or, set}
use Rattle.std.proofs.Common.{sym, ap, ◌∙◌, suc-mul, mul-le-mul, add-one, arith}
use Rattle.std.proofs.Math.Decide.{dec_lt}
use Rattle.code.specs.declared.Limits.{Limits}
use Rattle.ban_theory.specs.Renumbered.{Order}
use Rattle.renumbering.specs.Listing.{Named, Listed, listed_skip, listed_room, listed_push, listed_all}

-- The first `originals` of `count` numbers are words, each its own origin; the others are copies, whose origins are words.
pub record Origins (l : Limits) (origins : List ℕ) (originals count : ℕ) : Type 0 where
  pub array : length origins ≡ l.words
  pub some : originals ≤ count
  pub most : count ≤ l.words
  pub word : (x : ℕ) → x < originals → get_or origins x 0 ≡ x
  pub copy : (x : ℕ) → originals ≤ x → x < count → get_or origins x 0 < originals

-- A list of the numbers below `count` by their origins. With one origin they ascend, so a word stands before its copies.
pub record ByOrigin (origins : List ℕ) (count : ℕ) (list : List ℕ) : Type 0 where
  pub new : ℕ → ℕ
  pub order : Order count (λ i. get_or list i 0) new
  pub rises : (i j : ℕ) → i < j → j < count → get_or origins (get_or list i 0) 0 ≤ get_or origins (get_or list j 0) 0
  pub ascends : (i j : ℕ) → i < j → j < count → get_or origins (get_or list i 0) 0 ≡ get_or origins (get_or list j 0) 0 → get_or list i 0 < get_or list j 0
  pub past : (i : ℕ) → count ≤ i → get_or list i 0 ≡ 0

next_multiple : (w a c : ℕ) → c < a → c * w + w ≤ a * w
next_multiple w a c h = let m : suc c * w ≤ a * w = mul-le-mul h (omega arith) in omega (arith, suc-mul c w)

-- Of two keys in ascending order the first has no greater origin.
lower_origin : (w a b c d : ℕ) → d ≤ w → a * w + b < c * w + d → Dec (c < a) → a ≤ c
lower_origin w a b c d h l (yes g) = absurd (omega (arith, next_multiple w a c g))
lower_origin w a b c d h l (no g) = omega arith

origin_le : (w a b c d : ℕ) → d ≤ w → a * w + b < c * w + d → a ≤ c
origin_le w a b c d h l = lower_origin w a b c d h l (dec_lt c a)

module _ (l : Limits) (origins : List ℕ) where
  abbrev pub key_of : ℕ → ℕ
  key_of y = get_or origins y 0 * l.words + y

  -- The first `at` numbers of the list are the numbers whose origin is below z, and those below x whose origin is z.
  abbrev pub ListedTo : ℕ → ℕ → ℕ → List ℕ → ℕ → Type 0
  ListedTo count z x list at = Listed key_of count (z * l.words + x) list at

module _ {l : Limits} {origins : List ℕ} {originals count : ℕ} (given : Origins l origins originals count) where
  origin_at : (z r y : ℕ) → y < count → r ≤ l.words → z * l.words ≤ key_of l origins y → key_of l origins y < z * l.words + r → get_or origins y 0 ≡ z
  origin_at z r y h most above below =
      let up : get_or origins y 0 ≤ z = origin_le l.words (get_or origins y 0) y z r most below in
      let down : z ≤ get_or origins y 0 = origin_le l.words z 0 (get_or origins y 0) (y + 1) (omega (arith, given.most)) (omega arith) in
      omega arith

  known_origin : (y : ℕ) → y < count → Dec (y < originals) → get_or origins y 0 < originals
  known_origin y h (yes d) = omega (arith, given.word y d)
  known_origin y h (no d) = given.copy y (omega arith) h

  -- Only x has x's key.
  alone : (z x : ℕ) → x < count → (y : ℕ) → y < count → key_of l origins y ≡ z * l.words + x → y ≡ x
  alone z x h y k e =
      let same : get_or origins y 0 ≡ z = origin_at z (x + 1) y k (omega (arith, given.most)) (omega arith) (omega arith) in
      omega (arith, ap (λ (n : ℕ). n * l.words) same)

  key_is : (z x : ℕ) → get_or origins x 0 ≡ z → key_of l origins x ≡ z * l.words + x
  key_is z x e = ap (λ (n : ℕ). n * l.words + x) e

  module _ (z x : ℕ) {at : ℕ} {list : List ℕ} (listed : ListedTo l origins count z x list at) where
    pub number_room : x < count → get_or origins x 0 ≡ z → at < count
    number_room h e = listed_room (key_of l origins) count listed x h (key_is z x e) (alone z x h)

    pub number_listed : x < count → get_or origins x 0 ≡ z → ListedTo l origins count z (x + 1) (set list at x) (at + 1)
    number_listed h e =
        let m : z * l.words + x + 1 ≡ z * l.words + (x + 1) = omega arith in
        rw m at (listed_push (key_of l origins) count listed x h (key_is z x e) (alone z x h))

    -- None of the numbers from x up to m has the origin z.
    numbers_passed : (m : ℕ) → x ≤ m → m ≤ l.words → ((y : ℕ) → y < count → x ≤ y → y < m → get_or origins y 0 ≡ z → ⊥) → ListedTo l origins count z m list at
    numbers_passed m h most other =
        listed_skip (key_of l origins) count listed (z * l.words + m) (omega arith)
        (λ y k above below.
        let same : get_or origins y 0 ≡ z = origin_at z m y k most (omega arith) below in
        let key = key_is z y same in
        other y k (omega arith) (omega arith) same)

  pub copy_passed : (z x : ℕ) {at : ℕ} {list : List ℕ} → ListedTo l origins count z x list at → x < count → (get_or origins x 0 ≡ z → ⊥)
      → ListedTo l origins count z (x + 1) list at
  copy_passed z x listed h other =
      numbers_passed z x listed (x + 1) (omega arith) (omega (arith, given.most))
      (λ y k a b e. let same : y ≡ x = omega arith in other (ap (λ (n : ℕ). get_or origins n 0) (sym same) ∙ e))

  -- The word z is listed before its copies.
  module _ (z : ℕ) (h : z < originals) {at : ℕ} {list : List ℕ} (listed : ListedTo l origins count z 0 list at) where
    word_next : ListedTo l origins count z z list at
    word_next = numbers_passed z 0 listed z (omega arith) (omega (arith, given.most, given.some)) (λ y k a b e. omega (arith, given.word y (omega arith)))

    pub word_room : at < count
    word_room = number_room z z word_next (omega (arith, given.some)) (given.word z h)

    pub word_listed : ListedTo l origins count z originals (set list at z) (at + 1)
    word_listed =
        numbers_passed z (z + 1) (number_listed z z word_next (omega (arith, given.some)) (given.word z h)) originals (omega arith)
        (omega (arith, given.most, given.some)) (λ y k a b e. omega (arith, given.word y b))

  -- With all its copies listed the next word comes.
  pub word_done : (z : ℕ) {at : ℕ} {list : List ℕ} → ListedTo l origins count z count list at → ListedTo l origins count (z + 1) 0 list at
  word_done z listed =
      let full = numbers_passed z count listed l.words given.most (omega arith) (λ y k a b e. omega arith) in
      let m : z * l.words + l.words ≡ (z + 1) * l.words + 0 = omega (arith, suc-mul z l.words, ap (λ (n : ℕ). n * l.words) (add-one z)) in
      rw m at full

  -- With all words done every number is listed.
  module _ {z at : ℕ} {list : List ℕ} (listed : ListedTo l origins count z 0 list at) (end : originals ≤ z) where
    all_listed : (y : ℕ) → y < count → key_of l origins y < z * l.words + 0
    all_listed y h =
        let low : get_or origins y 0 < z = omega (arith, known_origin y h (dec_lt y originals)) in
        omega (arith, next_multiple l.words z (get_or origins y 0) low, given.most)

    as_many : at ≡ count
    as_many = listed_all (key_of l origins) count listed all_listed

    name : (y : ℕ) → y < count → Named list at y
    name y h = listed.named y h (all_listed y h)

    place : (y : ℕ) → Dec (y < count) → ℕ
    place y (yes h) = (name y h).i
    place y (no h) = 0

    place_known : (y : ℕ) → y < count → (d : Dec (y < count)) → place y d < count
    unfolding place
    place_known y h (yes d) = omega (arith, (name y d).below, as_many)
    place_known y h (no d) = absurd (d h)

    place_is : (y : ℕ) → y < count → (d : Dec (y < count)) → get_or list (place y d) 0 ≡ y
    unfolding place
    place_is y h (yes d) = (name y d).is
    place_is y h (no d) = absurd (d h)

    entry_known : (i : ℕ) → i < count → get_or list i 0 < count
    entry_known i h = listed.known i (omega (arith, as_many))

    key_rises : (i j : ℕ) → i < j → j < count → key_of l origins (get_or list i 0) < key_of l origins (get_or list j 0)
    key_rises i j h k = listed.rises i j h (omega (arith, as_many))

    once : (i j : ℕ) → i < count → j < count → get_or list i 0 ≡ get_or list j 0 → Dec (i < j) → Dec (j < i) → i ≡ j
    once i j h k e (yes d) b = absurd (omega (arith, key_rises i j d k, ap (key_of l origins) e))
    once i j h k e (no d) (yes b) = absurd (omega (arith, key_rises j i b h, ap (key_of l origins) e))
    once i j h k e (no d) (no b) = omega arith

    pub by_origin_lem : ByOrigin origins count list
    by_origin_lem = record {
      new = λ y. place y (dec_lt y count);
      order = record {
        old_known = entry_known;
        new_known = λ y h. place_known y h (dec_lt y count);
        new-old = λ i h.
            let y = get_or list i 0 in
            let known = entry_known i h in
            let p = place y (dec_lt y count) in
            once p i (place_known y known (dec_lt y count)) h (place_is y known (dec_lt y count)) (dec_lt p i) (dec_lt i p);
        old-new = λ y h. place_is y h (dec_lt y count);
      };
      rises = λ i j h k.
          origin_le l.words (get_or origins (get_or list i 0) 0) (get_or list i 0) (get_or origins (get_or list j 0) 0) (get_or list j 0)
          (omega (arith, entry_known j k, given.most)) (key_rises i j h k);
      ascends = λ i j h k e. omega (arith, key_rises i j h k, ap (λ (n : ℕ). n * l.words) e);
      past = λ i h. listed.past i (omega (arith, as_many));
    }
