-- Lists that forbid the same make the same copies, but for their order. So they pass the limits together.
use Rattle.std.specs.Prelude.{◌≡◌, refl, Bool, true, false, ◌||◌, List, [], ◌∷◌, ◌++◌, map, ◌⊎◌, ℕ, ◌+◌, ◌≤◌, ltb, eqb, length, if◌then◌else◌}
use Rattle.std.proofs.Common.{sym, ap, ap₂, ◌∙◌, subst₂, inl, inr, arith, eqb-true, eq-eqb}
use Rattle.std.proofs.lemmas.Bool.{false≢true}
use Rattle.std.proofs.Math.Bool.{and-eq-true_iff}
use Rattle.std.proofs.lemmas.List.{map-append}
use Rattle.code.specs.declared.Code.{Code}
use Rattle.code.specs.declared.Limits.{Limits}
use Rattle.code.specs.Definitions.Lists.{any, sum}
use Rattle.code.specs.Definitions.Tables.{word, table_of}
use Rattle.code.specs.Definitions.Bans.{Ban, Copy, banned_by, is_copy, has_copy, copy_index, copies_from, copies_of, enlarged}
use Rattle.code.specs.Definitions.Enlarged.{refused17}
use Rattle.code.specs.Laws.Below.{or_cases, or_left, or_right}
use Rattle.code.specs.Laws.Lists.{or_neither, any_append, sum_append}
use Rattle.ban_theory.specs.BanLists.{all_copies_lem, ban_served}
use Rattle.ban_theory.specs.CopyLists.{found}
use Rattle.ban_meaning.specs.SameBans.{SameBans}

-- Every copy of the one list is in the other.
abbrev Within : List Copy → List Copy → Type 0
Within cs ds = (y z : ℕ) → has_copy cs y z ≡ true → has_copy ds y z ≡ true

-- No copy stands in the list twice.
abbrev Distinct : List Copy → Type 0
Distinct [] = Unit
Distinct (c ∷ cs) = (has_copy cs c.behind c.of ≡ false) × Distinct cs

-- the copies without the first copy of z after y
unfoldable without : ℕ → ℕ → List Copy → List Copy
without y z [] = []
without y z (c ∷ cs) = if is_copy y z c then cs else c ∷ without y z cs

-- what the copies weigh together, where one of z weighs f z
unfoldable weight : (ℕ → ℕ) → List Copy → ℕ
unfolding sum
weight f cs = sum (map (λ c. f c.of) cs)

is_copy_lem : (y z : ℕ) (c : Copy) → is_copy y z c ≡ true → (c.behind ≡ y) × (c.of ≡ z)
is_copy_lem y z c e = let a = (and-eq-true_iff (eqb c.behind y) (eqb c.of z)).0 e in (eqb-true _ _ a.0, eqb-true _ _ a.1)

is_itself : (c : Copy) → is_copy c.behind c.of c ≡ true
is_itself c = (and-eq-true_iff (eqb c.behind c.behind) (eqb c.of c.of)).1 (eq-eqb c.behind c.behind refl, eq-eqb c.of c.of refl)

weigh_step : (f : ℕ → ℕ) (y z : ℕ) (c : Copy) (cs : List Copy) → (has_copy cs y z ≡ true → weight f cs ≡ f z + weight f (without y z cs))
    → (a : Bool) → is_copy y z c ≡ a → (a || has_copy cs y z) ≡ true → weight f (c ∷ cs) ≡ f z + weight f (if a then cs else c ∷ without y z cs)
unfolding weight sum
weigh_step f y z c cs ih true e h = ap (λ (v : ℕ). f v + weight f cs) (is_copy_lem y z c e).1
weigh_step f y z c cs ih false e h = let i = ih h in omega arith

-- A copy that is taken out has its weight.
weigh : (f : ℕ → ℕ) (y z : ℕ) (cs : List Copy) → has_copy cs y z ≡ true → weight f cs ≡ f z + weight f (without y z cs)
unfolding has_copy any without
weigh f y z [] h = absurd (false≢true h)
weigh f y z (c ∷ cs) h = weigh_step f y z c cs (weigh f y z cs) (is_copy y z c) refl h

kept_case : (i j : ℕ) (c : Copy) (cs ds : List Copy) → (has_copy cs i j ≡ true → has_copy ds i j ≡ true) → (is_copy i j c ≡ true) ⊎ (has_copy cs i j ≡ true)
    → (is_copy i j c || has_copy ds i j) ≡ true
kept_case i j c cs ds ih (inl e) = or_left (is_copy i j c) (has_copy ds i j) e
kept_case i j c cs ds ih (inr e) = or_right (is_copy i j c) (has_copy ds i j) (ih e)

other_case : (y z i j : ℕ) (c : Copy) (cs : List Copy) → is_copy i j (record { behind = y; of = z }) ≡ false → is_copy y z c ≡ true
    → (is_copy i j c ≡ true) ⊎ (has_copy cs i j ≡ true) → has_copy cs i j ≡ true
other_case y z i j c cs other e (inl d) =
    let same = is_copy_lem y z c e in
    absurd (false≢true (sym other ∙ subst₂ (λ (v w : ℕ). is_copy i j (record { behind = v; of = w }) ≡ true) same.0 same.1 d))
other_case y z i j c cs other e (inr d) = d

kept_step : (y z i j : ℕ) (c : Copy) (cs : List Copy) → is_copy i j (record { behind = y; of = z }) ≡ false → (has_copy cs i j ≡ true → has_copy (without y z cs) i j ≡ true)
    → (a : Bool) → is_copy y z c ≡ a → (is_copy i j c || has_copy cs i j) ≡ true → has_copy (if a then cs else c ∷ without y z cs) i j ≡ true
unfolding has_copy any
kept_step y z i j c cs other ih true e h = other_case y z i j c cs other e (or_cases (is_copy i j c) (has_copy cs i j) h)
kept_step y z i j c cs other ih false e h = kept_case i j c cs (without y z cs) ih (or_cases (is_copy i j c) (has_copy cs i j) h)

-- Other copies stay.
kept : (y z i j : ℕ) (cs : List Copy) → is_copy i j (record { behind = y; of = z }) ≡ false → has_copy cs i j ≡ true → has_copy (without y z cs) i j ≡ true
unfolding has_copy any without
kept y z i j [] other h = absurd (false≢true h)
kept y z i j (c ∷ cs) other h = kept_step y z i j c cs other (kept y z i j cs other) (is_copy y z c) refl h

-- A copy behind c is not c.
apart : (c : Copy) (cs : List Copy) (y z : ℕ) → has_copy cs c.behind c.of ≡ false → has_copy cs y z ≡ true → (a : Bool) → is_copy y z c ≡ a → a ≡ false
apart c cs y z new h false e = refl
apart c cs y z new h true e =
    let same = is_copy_lem y z c e in
    absurd (false≢true (sym new ∙ subst₂ (λ (v w : ℕ). has_copy cs v w ≡ true) (sym same.0) (sym same.1) h))

-- Copies that stand once each weigh no more than a list that has them all.
lighter : (f : ℕ → ℕ) (cs ds : List Copy) → Distinct cs → Within cs ds → weight f cs ≤ weight f ds
unfolding weight sum has_copy any
lighter f [] ds d w = omega arith
lighter f (c ∷ cs) ds d w =
    let here = w c.behind c.of (or_left _ _ (is_itself c)) in
    let rest = lighter f cs (without c.behind c.of ds) d.1
    (λ y z h. kept c.behind c.of y z ds (apart c cs y z d.0 h (is_copy y z c) refl) (w y z (or_right (is_copy y z c) (has_copy cs y z) h))) in
    omega (arith, weigh f c.behind c.of ds here)

-- The copies of bans stand once each.
distinct_last : (d c : Copy) → is_copy c.behind c.of d ≡ false → (a : Bool) → is_copy d.behind d.of c ≡ a → a ≡ false
distinct_last d c e false h = refl
distinct_last d c e true h =
    let same = is_copy_lem d.behind d.of c h in
    absurd (false≢true (sym e ∙ (and-eq-true_iff (eqb d.behind c.behind) (eqb d.of c.of)).1 (eq-eqb _ _ (sym same.0), eq-eqb _ _ (sym same.1))))

distinct_more : (cs : List Copy) (c : Copy) → Distinct cs → has_copy cs c.behind c.of ≡ false → Distinct (cs ++ (c ∷ []))
unfolding has_copy any
distinct_more [] c d new = (refl, tt)
distinct_more (e ∷ cs) c d new =
    let split = or_neither (is_copy c.behind c.of e) (has_copy cs c.behind c.of) new in (
      any_append (is_copy e.behind e.of) cs (c ∷ []) ∙ rw (d.0, distinct_last e c split.0 (is_copy e.behind e.of c) refl),
      distinct_more cs c d.1 split.1,
    )

distinct_step : (cs : List Copy) (c : Copy) → Distinct cs → (a : Bool) → has_copy cs c.behind c.of ≡ a → Distinct (if a then cs else cs ++ (c ∷ []))
distinct_step cs c d true e = d
distinct_step cs c d false e = distinct_more cs c d e

distinct_from : (cs : List Copy) (bs : List Ban) → Distinct cs → Distinct (copies_from cs bs)
unfolding copies_from
distinct_from cs [] d = d
distinct_from cs (b ∷ bs) d = distinct_from (if has_copy cs b.y b.z then cs else cs ++ (record { behind = b.y; of = b.z } ∷ [])) bs
    (distinct_step cs (record { behind = b.y; of = b.z }) d (has_copy cs b.y b.z) refl)

module _ (bs cs : List Ban) where
  -- What the one list forbids has its copy in those of the other.
  copies_within : ((x y z : ℕ) → banned_by bs x y z ≡ true → banned_by cs x y z ≡ true) → Within (copies_of bs) (copies_of cs)
  copies_within f y z h =
      let at = found y z (copies_of bs) h in
      subst₂ (λ (v w : ℕ). has_copy (copies_of cs) v w ≡ true) at.behind at.of
      (all_copies_lem (λ c. has_copy (copies_of cs) c.behind c.of ≡ true) [] bs (λ i k. absurd (omega arith)) (λ i j k e. ban_served cs i j k (f i j k e)) (copy_index (copies_of bs) y z) at.below)

  no_heavier : (f : ℕ → ℕ) → SameBans bs cs → weight f (copies_of bs) ≤ weight f (copies_of cs)
  no_heavier f same = lighter f (copies_of bs) (copies_of cs) (distinct_from [] bs tt) (copies_within (λ x y z e. sym (same x y z) ∙ e))

same_weight : (f : ℕ → ℕ) (bs cs : List Ban) → SameBans bs cs → weight f (copies_of bs) ≡ weight f (copies_of cs)
same_weight f bs cs same = omega (arith, no_heavier bs cs f same, no_heavier cs bs f (λ x y z. sym (same x y z)))

weight_count : (cs : List Copy) → weight (λ z. 1) cs ≡ length cs
unfolding weight sum
weight_count [] = refl
weight_count (c ∷ cs) = let r = weight_count cs in omega arith

weight_symbols : (f : ℕ → List ℕ) (cs : List Copy) → weight (λ z. length (f z)) cs ≡ sum (map length (map (λ c. f c.of) cs))
unfolding weight sum
weight_symbols f [] = refl
weight_symbols f (c ∷ cs) = ap (λ (n : ℕ). length (f c.of) + n) (weight_symbols f cs)

module _ (l : Limits) (c : Code) (bs cs : List Ban) (same : SameBans bs cs) where
  -- Lists that forbid the same make as many copies
  pub copies_same : length (copies_of bs) ≡ length (copies_of cs)
  copies_same = sym (weight_count (copies_of bs)) ∙ same_weight (λ z. 1) bs cs same ∙ weight_count (copies_of cs)

  -- with as many symbols,
  pub symbols_same : sum (map length (enlarged (table_of c) (copies_of bs) (banned_by bs)).words) ≡ sum (map length (enlarged (table_of c) (copies_of cs) (banned_by cs)).words)
  symbols_same = split (copies_of bs) ∙ ap (λ (n : ℕ). sum (map length (table_of c).words) + n) (same_weight (λ z. length (word (table_of c) z)) bs cs same) ∙ sym (split (copies_of cs))
    where
      split : (ds : List Copy) → sum (map length ((table_of c).words ++ map (λ d. word (table_of c) d.of) ds)) ≡ sum (map length (table_of c).words) + weight (λ z. length (word (table_of c) z)) ds
      split ds =
          ap sum (map-append length (table_of c).words (map (λ d. word (table_of c) d.of) ds))
          ∙ sum_append (map length (table_of c).words) (map length (map (λ d. word (table_of c) d.of) ds))
          ∙ ap (λ (n : ℕ). sum (map length (table_of c).words) + n) (sym (weight_symbols (word (table_of c)) ds))

  -- so refusal 17 meets both or neither.
  pub refused17_same : refused17 l c bs ≡ refused17 l c cs
  refused17_same = ap₂ (λ (n m : ℕ). ltb l.words (c.count + n) || ltb l.total m) copies_same symbols_same
