-- The label of a queue entry: the message of its group, from the back, read off the entries along `from`. One group has one label, labels ascend with keys, and
-- a walk to each queued node reads its label.
use Rattle.std.specs.Prelude.{◌≡◌, refl, List, [], ◌∷◌, ℕ, zero, suc, ◌+◌, ◌≤◌, ◌<◌}
use Rattle.std.proofs.Common.{sym, ap₂, ◌∙◌, inl, inr, ⊎_elim, lt_trans, eq-or-lt_of_le, arith}
use Rattle.std.proofs.Math.Decide.{ℕ_discrete, dec_lt}
use Rattle.graph.specs.Graph.{Graph}
use Rattle.pair_storage.specs.Entries.{node_at, above_at}
use Rattle.pair_groups.specs.Backward.{Sooner, NoLater, empty, ahead, last}
use Rattle.pair_groups.specs.Links.{Walk, none, more}
use Rattle.pair_groups.specs.Queue.{key, Queue, from_early}

-- m is the label of entry k.
pub data Label (g : Graph) (q : List ℕ) : ℕ → List ℕ → Type 0 where
  source : {k : ℕ} → k ≡ 0 → Label g q k []
  grown : {k f c : ℕ} {m : List ℕ} → f < k → above_at q k ≡ f + 1 → g.symbol (node_at q k) ≡ c → Label g q f m → Label g q k (c ∷ m)

pub record Labelled (g : Graph) (q : List ℕ) (k : ℕ) : Type 0 where
  pub message : List ℕ
  pub label : Label g q k message

module _ {g : Graph} {ms q : List ℕ} {tail : ℕ} (s : Queue g ms q tail) where
  label_more : (k : ℕ) → k < tail → ((f : ℕ) → f < k → Labelled g q f) → Dec (k ≡ 0) → Labelled g q k
  label_more k l h (yes z) = record { message = []; label = source z }
  label_more k l h (no n) =
      let o = s.origin k (omega arith) l in
      let r = h o.first o.early in
      record { message = g.symbol (node_at q k) ∷ r.message; label = grown o.early o.from refl r.label }

  label_below : (n k : ℕ) → k < n → k < tail → Labelled g q k
  label_below zero k h l = absurd (omega arith)
  label_below (suc n) k h l = label_more k l (λ f d. label_below n f (omega arith) (omega arith)) (ℕ_discrete k 0)

  -- Every entry has a label.
  pub label_of : (k : ℕ) → k < tail → Labelled g q k
  label_of k l = label_below (k + 1) k (omega arith) l

  -- Only the source has a key below 16.
  source_key : (i : ℕ) → i ≡ 0 → key g q i < 16
  source_key i e = let c = s.bounded.symbols (node_at q i) in let f : above_at q i ≡ 0 = rw e s.source_from in omega arith

  -- A key is its `from` and its symbol.
  module _ (i j : ℕ) (e : key g q i ≡ key g q j) where
    same_from : above_at q i ≡ above_at q j
    same_from = let c = s.bounded.symbols (node_at q i) in let d = s.bounded.symbols (node_at q j) in omega arith

    same_symbol_lem : g.symbol (node_at q i) ≡ g.symbol (node_at q j)
    same_symbol_lem = let c = same_from in omega arith

  same_cons : (i j f h : ℕ) {c d : ℕ} {l m : List ℕ} → key g q i ≡ key g q j → above_at q i ≡ f + 1 → g.symbol (node_at q i) ≡ c → above_at q j ≡ h + 1
      → g.symbol (node_at q j) ≡ d → (key g q f ≡ key g q h → l ≡ m) → ◌≡◌ {A = List ℕ} (c ∷ l) (d ∷ m)
  same_cons i j f h e a b x y r =
      let z : f ≡ h = let p = same_from i j e in omega arith in
      ap₂ ◌∷◌ (sym b ∙ same_symbol_lem i j e ∙ y) (r (rw z))

  -- Entries with one key have one label.
  pub same_label : {i j : ℕ} {l m : List ℕ} → key g q i ≡ key g q j → Label g q i l → Label g q j m → l ≡ m
  same_label e (source x) (source y) = refl
  same_label {i} {j} e (source x) (grown p a b y) = let c = source_key i x in absurd (omega arith)
  same_label {i} {j} e (grown p a b x) (source y) = let c = source_key j y in absurd (omega arith)
  same_label {i} {j} e (grown {f = f} p a b x) (grown {f = h} r c d y) = same_cons i j f h e a b c d (λ z. same_label z x y)

  -- The entries before the group from which an entry comes have smaller keys.
  from_begins : (i f j : ℕ) → f < i → i < tail → above_at q i ≡ f + 1 → j < f → key g q j < key g q f
  from_begins i f j p l e h =
      let o = s.origin i (omega arith) l in
      let z : o.first ≡ f = let d = o.from in omega arith in
      rw z at (o.begins j (omega arith))

  sooner_source : (i j : ℕ) → key g q i < key g q j → i ≡ 0 → j ≡ 0 → ⊥
  sooner_source i j e x y = let z : i ≡ j = omega arith in let k : key g q i ≡ key g q j = rw z in omega arith

  sooner_cons : (i j f h : ℕ) {c d : ℕ} {l m : List ℕ} → j < tail → h < j → key g q i < key g q j → above_at q i ≡ f + 1 → g.symbol (node_at q i) ≡ c
      → above_at q j ≡ h + 1 → g.symbol (node_at q j) ≡ d → Label g q f l → Label g q h m → (key g q f < key g q h → Sooner l m) → Sooner (c ∷ l) (d ∷ m)
  sooner_cons i j f h {c} {d} {l} {m} v p e a b x y k n r = go (dec_lt f h)
    where
      go : Dec (f < h) → Sooner (c ∷ l) (d ∷ m)
      go (yes w) = ahead (r (from_begins j h f p v x w))
      go (no w) =
          let u = s.bounded.symbols (node_at q i) in
          let u' = s.bounded.symbols (node_at q j) in
          let z : f ≡ h = omega arith in
          last {x = c} {y = d} (same_label (rw z) k n) (omega arith)

  -- A smaller key has a label that comes sooner.
  pub sooner_label : {i j : ℕ} {l m : List ℕ} → i < tail → j < tail → key g q i < key g q j → Label g q i l → Label g q j m → Sooner l m
  sooner_label {i} {j} u v e (source x) (source y) = absurd (sooner_source i j e x y)
  sooner_label u v e (source x) (grown p a b y) = empty
  sooner_label {i} {j} u v e (grown p a b x) (source y) = let c = source_key j y in absurd (omega arith)
  sooner_label {i} {j} u v e (grown {f = f} p a b x) (grown {f = h} r c d y) =
      sooner_cons i j f h v r e a b c d x y
      (λ z. sooner_label (lt_trans p u) (lt_trans r v) z x y)

  -- A key that is not larger has a label that comes no later.
  pub no_later_label : {i j : ℕ} {l m : List ℕ} → i < tail → j < tail → key g q i ≤ key g q j → Label g q i l → Label g q j m → NoLater l m
  no_later_label u v e x y = ⊎_elim (λ z. inl (same_label z x y)) (λ z. inr (sooner_label u v z x y)) (eq-or-lt_of_le e)

  walk_source : (j k : ℕ) → j < tail → key g q j ≡ key g q k → k ≡ 0 → Walk g [] (node_at q j)
  walk_source j k l e z = go (ℕ_discrete j 0)
    where
      go : Dec (j ≡ 0) → Walk g [] (node_at q j)
      go (yes y) = none {v = node_at q j} (rw y s.source_node)
      go (no n) = let c = source_key k z in let o = s.origin j (omega arith) l in let f = o.from in absurd (omega arith)

  walk_grown : (j k f : ℕ) {c : ℕ} {m : List ℕ} → j < tail → key g q j ≡ key g q k → above_at q k ≡ f + 1 → g.symbol (node_at q k) ≡ c
      → ((i : ℕ) → i < tail → key g q i ≡ key g q f → Walk g m (node_at q i)) → Walk g (c ∷ m) (node_at q j)
  walk_grown j k f l e a b r =
      let d = same_from j k e in
      let z : 1 ≤ j = let h = from_early s j l in omega arith in
      let o = s.origin j z l in
      let y : o.first ≡ f = let x = o.from in omega arith in
      more (r o.member o.below (rw y at o.same)) o.link (same_symbol_lem j k e ∙ b)

  -- A walk to every member of a group reads the label.
  pub label_walk : {k : ℕ} {m : List ℕ} → Label g q k m → (j : ℕ) → j < tail → key g q j ≡ key g q k → Walk g m (node_at q j)
  label_walk {k} (source z) j l e = walk_source j k l e z
  label_walk {k} (grown {f = f} p a b x) j l e = walk_grown j k f l e a b (label_walk x)
