-- All readings of a message, as a list that computes: each word with which the message opens, before all linked sequences that have what is left. The
-- number of words bounds the depth, and no reading has more words than its message has symbols.
use Rattle.std.specs.Prelude.{◌≡◌, Bool, true, ◌&&◌, ◌⊎◌, length, take, drop}
use Rattle.std.proofs.Math.Path.{refl, subst}
use Rattle.std.proofs.Common.{sym, ap, ◌∙◌, inl, inr, arith, take-append-drop}
use Rattle.std.proofs.lemmas.Bool.{false≢true}
use Rattle.std.proofs.Math.Bool.{and-eq-true_iff}
use mathlib.Core.List.Memᴰ
use mathlib.Core.List.{List, [], ◌∷◌, ◌++◌, map, flat_map, Memᴰ}
use Prim.Native.Nat.{ℕ, zero, suc, ◌≤◌, ◌<◌}
use Rattle.std.proofs.Math.Seq.{take-append_seam, drop-append_seam}
use Rattle.code.specs.Definitions.Tables.{Table, size, word, Linked, none, one, more, Permitted, empty as nothing, message}
use Rattle.code.specs.Definitions.Readings.{Reads}
use Rattle.code.specs.Laws.Sequences.{NonEmpty, Free, first_word, rest_linked, second_follows, linked_within, permitted_linked, first_begins, free_permitted, words_most}
use Rattle.cases.specs.Members.{empty, keep, keep_in, keep_out, numbers, numbers_in, numbers_out, flat_map_in, flat_map_out}
use Rattle.cases.specs.Comparing.{equal, equal-true, equal_same}

empty_nil : (m : List ℕ) → empty m ≡ true → m ≡ []
unfolding empty
empty_nil [] e = refl
empty_nil (c ∷ m) e = absurd (false≢true e)

-- The first word of a sequence, if there is one, passes the test.
abbrev pub MayBegin : (ℕ → Bool) → List ℕ → Type 0
MayBegin f [] = Unit
MayBegin f (x ∷ s) = f x ≡ true

module _ (t : Table) where
  -- y may come immediately after x
  abbrev pub may_follow : ℕ → ℕ → Bool
  may_follow x y = t.follow y x

  -- m opens with word x, which passes the test f
  abbrev pub opens : (ℕ → Bool) → List ℕ → ℕ → Bool
  opens f m x = f x && equal (take (length (word t x)) m) (word t x)

  abbrev pub openers : (ℕ → Bool) → List ℕ → List ℕ
  openers f m = keep (opens f m) (numbers (size t))

  -- what is left of m after word x
  abbrev pub left : List ℕ → ℕ → List ℕ
  left m x = drop (length (word t x)) m

  -- word x, in front of each sequence that r gives for what is left
  abbrev pub opened_by : ((ℕ → Bool) → List ℕ → List (List ℕ)) → List ℕ → ℕ → List (List ℕ)
  opened_by r m x = map (◌∷◌ x) (r (may_follow x) (left m x))

  -- the empty sequence, for the empty message
  abbrev pub empty_reading : List ℕ → List (List ℕ)
  empty_reading m = keep (λ s. empty m) ([] ∷ [])

  -- the linked sequences of at most n words that have the message m, and of which the first passes the test f
  unfoldable pub readings_from : ℕ → (ℕ → Bool) → List ℕ → List (List ℕ)
  unfolding keep empty flat_map equal numbers
  readings_from zero f m = empty_reading m
  readings_from (suc n) f m = empty_reading m ++ flat_map (opened_by (readings_from n) m) (openers f m)

  unfoldable pub readings : List ℕ → List (List ℕ)
  unfolding readings_from
  readings m = readings_from (length m) t.begins m

  -- s is linked, its message is m, and its first word passes the test f.
  record ReadsFrom (f : ℕ → Bool) (m s : List ℕ) : Type 0 where
    linked : Linked t s
    joined : message t s ≡ m
    begins : MayBegin f s

  empty_out : {s : List ℕ} (f : ℕ → Bool) (m : List ℕ) → Memᴰ s (empty_reading m) → ReadsFrom f m s
  empty_out {s} f m i =
      let o = keep_out (λ s. empty m) ([] ∷ []) i in
      rw (Memᴰ.eq_of_singleton o.0, empty_nil m o.1) (record { linked = none; joined = refl; begins = tt })

  linked_cons : {x : ℕ} (s : List ℕ) → x < size t → Linked t s → MayBegin (may_follow x) s → Linked t (x ∷ s)
  linked_cons [] h p b = one h
  linked_cons (y ∷ s) h p b = more h b p

  opened_out : (x : ℕ) (f : ℕ → Bool) (m s : List ℕ) → x < size t → opens f m x ≡ true → ReadsFrom (may_follow x) (left m x) s → ReadsFrom f m (x ∷ s)
  opened_out x f m s h e r =
      let a = (and-eq-true_iff (f x) (equal (take (length (word t x)) m) (word t x))).0 e in
      let w = equal-true (take (length (word t x)) m) (word t x) a.1 in
      record {
        linked = linked_cons s h r.linked r.begins;
        joined = rw r.joined (ap (λ (l : List ℕ). l ++ left m x) (sym w) ∙ take-append-drop (length (word t x)) m);
        begins = a.0;
      }

  -- What the lists have, for at most n words, are such sequences.
  abbrev Sound : ℕ → Type 0
  Sound n = (f : ℕ → Bool) (m s : List ℕ) → Memᴰ s (readings_from n f m) → ReadsFrom f m s

  openers_out : (n : ℕ) → Sound n → (f : ℕ → Bool) (m s : List ℕ) → Memᴰ s (flat_map (opened_by (readings_from n) m) (openers f m)) → ReadsFrom f m s
  openers_out n ih f m s i =
      let a = flat_map_out (opened_by (readings_from n) m) (openers f m) i in
      let x = a.a in
      let o = keep_out (opens f m) (numbers (size t)) a.member in
      let b = Memᴰ.of_map (◌∷◌ x) (readings_from n (may_follow x) (left m x)) a.gives in
      subst (ReadsFrom f m) b.2 (opened_out x f m b.0 (numbers_out (size t) o.0) o.1 (ih (may_follow x) (left m x) b.0 b.1))

  either_out : (n : ℕ) → Sound n → (f : ℕ → Bool) (m s : List ℕ)
      → Memᴰ s (empty_reading m) ⊎ Memᴰ s (flat_map (opened_by (readings_from n) m) (openers f m)) → ReadsFrom f m s
  either_out n ih f m s (inl i) = empty_out f m i
  either_out n ih f m s (inr i) = openers_out n ih f m s i

  readings_out : (n : ℕ) → Sound n
  unfolding readings_from
  readings_out zero f m s i = empty_out f m i
  readings_out (suc n) f m s i = either_out n (readings_out n) f m s (Memᴰ.append_cases (empty_reading m) i)

  empty_in : Memᴰ [] (empty_reading [])
  unfolding empty
  empty_in = keep_in (λ s. empty {A = ℕ} []) {l = [] ∷ []} (Memᴰ.head refl) refl

  begins_rest : {x : ℕ} (s : List ℕ) → Linked t (x ∷ s) → MayBegin (may_follow x) s
  begins_rest [] p = tt
  begins_rest (y ∷ s) p = second_follows p

  opened_in : (n : ℕ) (f : ℕ → Bool) (x : ℕ) (s : List ℕ) → Linked t (x ∷ s) → f x ≡ true → Memᴰ s (readings_from n (may_follow x) (message t s))
      → Memᴰ (x ∷ s) (flat_map (opened_by (readings_from n) (message t (x ∷ s))) (openers f (message t (x ∷ s))))
  opened_in n f x s p b i =
      let m = message t (x ∷ s) in
      let rest : left m x ≡ message t s = drop-append_seam (word t x) (message t s) in
      let opened : opens f m x ≡ true = (and-eq-true_iff (f x) _).1 (b, rw (take-append_seam (word t x) (message t s)) (equal_same (word t x))) in
      flat_map_in (opened_by (readings_from n) m) (keep_in (opens f m) (numbers_in (size t) (first_word p)) opened)
      (Memᴰ.map (◌∷◌ x) {l = readings_from n (may_follow x) (left m x)} (rw rest i))

  -- Every linked sequence of at most n words, of which the first passes the test f, is in the list of its message.
  readings_in : (n : ℕ) (f : ℕ → Bool) (s : List ℕ) → Linked t s → MayBegin f s → length s ≤ n → Memᴰ s (readings_from n f (message t s))
  unfolding readings_from
  readings_in zero f [] p b l = empty_in
  readings_in zero f (x ∷ s) p b l = absurd (omega arith)
  readings_in (suc n) f [] p b l = Memᴰ.append_left (flat_map (opened_by (readings_from n) []) (openers f [])) empty_in
  readings_in (suc n) f (x ∷ s) p b l =
      Memᴰ.append_right (empty_reading (message t (x ∷ s)))
      (opened_in n f x s p b (readings_in n (may_follow x) s (rest_linked p) (begins_rest s p) (omega arith)))

  permitted_begins : (s : List ℕ) → Permitted t s → MayBegin t.begins s
  permitted_begins [] p = tt
  permitted_begins (x ∷ s) p = first_begins p

  linked_permitted : Free t → (s : List ℕ) → Linked t s → MayBegin t.begins s → Permitted t s
  linked_permitted free [] l b = nothing
  linked_permitted free (x ∷ s) l b = free_permitted free b l

  -- Every reading of m is in the list.
  pub reading_in : NonEmpty t → {m s : List ℕ} → Reads t m s → Memᴰ s (readings m)
  unfolding readings
  reading_in ne {s = s} r =
      let linked = permitted_linked r.permitted in
      let short = words_most t ne s (linked_within linked) in
      subst (λ (l : List ℕ). Memᴰ s (readings l)) r.joined (readings_in (length (message t s)) t.begins s linked (permitted_begins s r.permitted) short)

  -- Without bans every member of the list is a reading of m.
  pub reading_out : Free t → {s : List ℕ} (m : List ℕ) → Memᴰ s (readings m) → Reads t m s
  unfolding readings
  reading_out free {s} m i =
      let r = readings_out (length m) t.begins m s i in
      record { permitted = linked_permitted free s r.linked r.begins; joined = r.joined }
