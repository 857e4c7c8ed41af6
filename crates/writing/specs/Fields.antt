-- Fields written one by one: each but the first follows what parts them.
use Rattle.std.specs.Prelude.{◌≡◌, ℕ, suc, ◌+◌, ◌≤◌, ◌<◌, eqb, length, take, drop, get_or, if◌then◌else◌}
use Rattle.std.proofs.Math.Path.{refl}
use Rattle.std.proofs.Common.{ap, ◌∙◌, arith, add-one, length-append, take-append-drop, length-take-le, take-suc, take_all, ne_eqb}
use mathlib.Core.List.{List, [], ◌∷◌, ◌++◌, append_assoc, append-nil}
use Rattle.code.specs.Definitions.Lists.{join}
use Rattle.writing.specs.Puts.{Puts, puts_then, puts_none, puts_length}

-- field i of a record, with what parts it from the field before
abbrev pub following : (sep : List ℕ) → ℕ → List ℕ → List ℕ
following sep i f = if eqb i 0 then f else sep ++ f

module _ (sep : List ℕ) where
  join_last : (fs : List (List ℕ)) (f : List ℕ) → join sep (fs ++ (f ∷ [])) ≡ join sep fs ++ following sep (length fs) f
  unfolding join
  join_last [] f = refl
  join_last (g ∷ []) f = refl
  join_last (g ∷ h ∷ fs) f =
      let rest = rw (ne_eqb (suc (length fs)) 0 (λ e. omega arith)) at (join_last (h ∷ fs) f) in
      rw (ne_eqb (suc (suc (length fs))) 0 (λ e. omega arith)) (ap (λ (l : List ℕ). g ++ (sep ++ l)) rest ∙ simp append_assoc)

  -- the first fields are no longer than all
  join_front : (fs gs : List (List ℕ)) → length (join sep fs) ≤ length (join sep (fs ++ gs))
  join_front fs [] = rw (append-nil fs) (omega arith)
  join_front fs (g ∷ gs) =
      let more : length (join sep fs) ≤ length (join sep (fs ++ (g ∷ []))) = rw (join_last fs g) (omega (arith, length-append (join sep fs) (following sep (length fs) g))) in
      let rest = rw (append_assoc fs (g ∷ []) gs) at (join_front (fs ++ (g ∷ [])) gs) in
      omega (arith, rest)

  -- the first i fields of a record
  abbrev pub fields_to : List (List ℕ) → ℕ → List ℕ
  fields_to fs i = join sep (take i fs)

  module _ (fs : List (List ℕ)) (i : ℕ) where
    fields_next : i < length fs → fields_to fs (i + 1) ≡ fields_to fs i ++ following sep i (get_or fs i [])
    fields_next h = rw (add-one i, take-suc fs i [] h) (join_last (take i fs) (get_or fs i []) ∙ rw (length-take-le i fs (omega arith)))

    fields_most : length (fields_to fs i) ≤ length (join sep fs)
    fields_most = rw (take-append-drop i fs) at (join_front (take i fs) (drop i fs))

  -- A loop over the fields: nothing put yet, one field more, all of them.
  pub none_put : (fs : List (List ℕ)) (at : ℕ) (o : List ℕ) → Puts at (fields_to fs 0) o o at
  unfolding join
  none_put fs at o = puts_none at o

  module _ (fs : List (List ℕ)) (i : ℕ) {o p : List ℕ} {at next : ℕ} (before : Puts at (fields_to fs i) o p next) where
    pub field_fits : i < length fs → at + length (join sep fs) ≤ length o → next + length (following sep i (get_or fs i [])) ≤ length p
    field_fits h room =
        omega
        (arith, before.end, puts_length before, fields_most fs (i + 1), ap length (fields_next fs i h), length-append (fields_to fs i) (following sep i (get_or fs i [])))

    pub field_put : {q : List ℕ} {r : ℕ} → i < length fs → Puts next (following sep i (get_or fs i [])) p q r → Puts at (fields_to fs (i + 1)) o q r
    field_put h g = rw (fields_next fs i h) (puts_then before g)

    pub all_put : length fs ≤ i → Puts at (join sep fs) o p next
    all_put h = rw (take_all i fs h) at before
