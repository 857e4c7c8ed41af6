-- A table without bans of three words covers a table with such bans: each of its words stands for a word of the other together with what the bans must
-- remember. Then the permitted sequences of the two match one to one, by naming each word of the covering table by the word that it stands for.
use Rattle.std.specs.Prelude.{◌≡◌, refl, true, false, List, [], ◌∷◌, ◌++◌, map, ℕ, ◌<◌}
use Rattle.std.proofs.Common.{sym, ap, ap₂, ◌∙◌, subst}
use Rattle.code.specs.Definitions.Tables.{Table, size, word, Linked, none, one, more, Obeys, no_words, one_word, two_words, triple, Permitted, empty, begun, message}
use Rattle.code.specs.Laws.Finite.{Within}
use Rattle.code.specs.Laws.Sequences.{Free, first_word, second_follows, rest_linked, linked_within, permitted_linked, first_unbanned, rest_obeys, free_permitted}

-- Word x of e stands for word `name x` of t. Word x of t is `start x` where it begins a sequence, and `after y x` behind the word y.
pub record Cover (e t : Table) (name start : ℕ → ℕ) (after : ℕ → ℕ → ℕ) : Type 0 where
  pub free : Free e
  pub named : (x : ℕ) → x < size e → name x < size t
  pub words : (x : ℕ) → x < size e → word e x ≡ word t (name x)
  pub start_known : (x : ℕ) → x < size t → start x < size e
  pub start_named : (x : ℕ) → x < size t → name (start x) ≡ x
  pub after_known : (y x : ℕ) → y < size t → x < size t → after y x < size e
  pub after_named : (y x : ℕ) → y < size t → x < size t → name (after y x) ≡ x
  -- which words begin
  pub begins : (x : ℕ) → x < size t → t.begins x ≡ true → e.begins (start x) ≡ true
  pub begin_start : (x : ℕ) → x < size e → e.begins x ≡ true → x ≡ start (name x)
  pub begin_named : (x : ℕ) → x < size e → e.begins x ≡ true → t.begins (name x) ≡ true
  -- which words follow
  pub follow-after : (x y : ℕ) → x < size e → y < size e → e.follow x y ≡ true → x ≡ after (name y) (name x)
  pub follow_named : (x y : ℕ) → x < size e → y < size e → e.follow x y ≡ true → t.follow (name x) (name y) ≡ true
  pub follow_obeys : (w y x : ℕ) → w < size t → y < size t → x < size e → e.follow x (after w y) ≡ true → t.banned (name x) w y ≡ false
  pub follows_start : (y x : ℕ) → y < size t → x < size t → t.follow x y ≡ true → e.follow (after y x) (start y) ≡ true
  pub follows : (w y x : ℕ) → w < size t → y < size t → x < size t → t.follow x y ≡ true → t.banned x w y ≡ false → e.follow (after y x) (after w y) ≡ true

module _ (start : ℕ → ℕ) (after : ℕ → ℕ → ℕ) where
  -- the words of e for the words s behind y
  abbrev pub lift_after : ℕ → List ℕ → List ℕ
  lift_after y [] = []
  lift_after y (x ∷ s) = after y x ∷ lift_after x s

  -- the words of e for a whole sequence
  abbrev pub lift : List ℕ → List ℕ
  lift [] = []
  lift (x ∷ s) = start x ∷ lift_after x s

module _ {e t : Table} {name start : ℕ → ℕ} {after : ℕ → ℕ → ℕ} (c : Cover e t name start after) where
  -- From e to t

  named_linked : {s : List ℕ} → Linked e s → Linked t (map name s)
  named_linked none = none
  named_linked (one {x} h) = one (c.named x h)
  named_linked (more {y} {x} h f l) = more (c.named y h) (c.follow_named x y (first_word l) h f) (named_linked l)

  named_triple : (y z x : ℕ) (s : List ℕ) → Linked e (y ∷ z ∷ x ∷ s) → t.banned (name x) (name y) (name z) ≡ false
  named_triple y z x s l =
      let y< = first_word l in
      let l' = rest_linked l in
      let z< = first_word l' in
      let x< = first_word (rest_linked l') in
      c.follow_obeys (name y) (name z) x (c.named y y<) (c.named z z<) x<
      (subst (λ (v : ℕ). e.follow x v ≡ true) (c.follow-after z y z< y< (second_follows l)) (second_follows l'))

  named_obeys : (s : List ℕ) → Linked e s → Obeys t (map name s)
  named_obeys [] l = no_words
  named_obeys (x ∷ []) l = one_word
  named_obeys (y ∷ z ∷ []) l = two_words
  named_obeys (y ∷ z ∷ x ∷ s) l = triple (named_triple y z x s l) (named_obeys (z ∷ x ∷ s) (rest_linked l))

  -- The names of a sequence that e permits are permitted by t,
  pub named_permitted : {s : List ℕ} → Permitted e s → Permitted t (map name s)
  named_permitted empty = empty
  named_permitted (begun {x} {s} b l o) = begun (c.begin_named x (first_word l) b) (named_linked l) (named_obeys (x ∷ s) l)

  lift_after_lem : {y : ℕ} {s : List ℕ} → Linked e (y ∷ s) → s ≡ lift_after start after (name y) (map name s)
  lift_after_lem (one h) = refl
  lift_after_lem (more {y} {x} h f l) = ap₂ ◌∷◌ (c.follow-after x y (first_word l) h f) (lift_after_lem l)

  -- and lifting them gives the sequence again.
  pub named_lift : {s : List ℕ} → Permitted e s → s ≡ lift start after (map name s)
  named_lift empty = refl
  named_lift (begun {x} b l o) = ap₂ ◌∷◌ (c.begin_start x (first_word l) b) (lift_after_lem l)

  -- Different sequences of e have different names.
  pub names_differ : {s u : List ℕ} → Permitted e s → Permitted e u → map name s ≡ map name u → s ≡ u
  names_differ p q z = named_lift p ∙ ap (lift start after) z ∙ sym (named_lift q)

  within_message : (s : List ℕ) → Within (size e) s → message e s ≡ message t (map name s)
  within_message [] w = refl
  within_message (x ∷ s) w = ap₂ ◌++◌ (c.words x w.0) (within_message s w.1)

  -- Names have the same message.
  pub linked_message : {s : List ℕ} → Linked e s → message e s ≡ message t (map name s)
  linked_message {s} l = within_message s (linked_within l)

  pub named_message : {s : List ℕ} → Permitted e s → message e s ≡ message t (map name s)
  named_message p = linked_message (permitted_linked p)

  -- From t to e

  lifted_after : (w y : ℕ) (s : List ℕ) → Linked t (w ∷ y ∷ s) → Obeys t (w ∷ y ∷ s) → Linked e (after w y ∷ lift_after start after y s)
  lifted_after w y [] l o = one (c.after_known w y (first_word l) (first_word (rest_linked l)))
  lifted_after w y (x ∷ s) l o =
      let l' = rest_linked l in
      more (c.after_known w y (first_word l) (first_word l'))
      (c.follows w y x (first_word l) (first_word l') (first_word (rest_linked l')) (second_follows l') (first_unbanned o))
      (lifted_after y x s l' (rest_obeys o))

  lifted_start : (y : ℕ) (s : List ℕ) → Linked t (y ∷ s) → Obeys t (y ∷ s) → Linked e (start y ∷ lift_after start after y s)
  lifted_start y [] l o = one (c.start_known y (first_word l))
  lifted_start y (x ∷ s) l o =
      more (c.start_known y (first_word l)) (c.follows_start y x (first_word l) (first_word (rest_linked l)) (second_follows l)) (lifted_after y x s l o)

  -- What t permits is lifted to what e permits,
  pub lifted_permitted : {s : List ℕ} → Permitted t s → Permitted e (lift start after s)
  lifted_permitted empty = empty
  lifted_permitted (begun {x} {s} b l o) = free_permitted c.free (c.begins x (first_word l) b) (lifted_start x s l o)

  pub after_names : (y : ℕ) (s : List ℕ) → Linked t (y ∷ s) → map name (lift_after start after y s) ≡ s
  after_names y [] l = refl
  after_names y (x ∷ s) l = ap₂ ◌∷◌ (c.after_named y x (first_word l) (first_word (rest_linked l))) (after_names x s (rest_linked l))

  -- and its names give it again.
  pub lifted_named : {s : List ℕ} → Permitted t s → map name (lift start after s) ≡ s
  lifted_named empty = refl
  lifted_named (begun {x} {s} b l o) = ap₂ ◌∷◌ (c.start_named x (first_word l)) (after_names x s l)

  pub lifted_message : {s : List ℕ} → Permitted t s → message e (lift start after s) ≡ message t s
  lifted_message p = named_message (lifted_permitted p) ∙ ap (message t) (lifted_named p)
