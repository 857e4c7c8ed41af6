-- The sets that go along with the position, from the last to the first: the tails, the words after which reading can go on, and the marks of the positions
-- behind. Shown is that a step of the tails, the union of the rows of the words that begin and one entry more keep them right.
use Rattle.std.specs.Prelude.{◌≡◌, refl, Bool, true, List, [], ℕ, ◌+◌, ◌-◌, ◌^◌, ◌≤◌, ◌<◌, length, get_or, set}
use Rattle.std.proofs.Common.{sym, ◌∙◌, arith, length-set, pow_pos, get_or-set_same}
use Rattle.std.proofs.Math.Decide.{dec_lt, ℕ_discrete}
use Rattle.std.specs.Int.Bits.{bit_and, bit_or}
use Rattle.std.proofs.Math.ListN.{get_or-eq_default}
use Rattle.code.specs.Laws.Cells.{on_set}
use Rattle.code.specs.Laws.Exactly.{Exactly, exactly_true, exactly_false, exactly_iff, exactly_on, exactly_itself}
use Rattle.bits.specs.Bits.{bit_of, width, bit_none, bit_all, bit_below}
use Rattle.bits.specs.Sets.{exactly_meet, exactly_join}
use Rattle.bits.specs.Unions.{Within, UnionOf}
use Rattle.read_sets.specs.Sets.{block_of, having_at, length_at, SetsOf}
use Rattle.read_marks.specs.Text.{Text, Can, done, Begins, Opened, opens_can, can_opened}
use Rattle.read_marks.specs.Tails.{Tail, last, more, begun, split_tail, tail_split, tail_begins, begins_tail}
use Rattle.read_marks.specs.Message.{Places, symbols_at, Fits, text, sets_spelled, sets_bounded, tail_short}
use Rattle.read_marks.specs.Steps.{Stepped, tail_at, stepped_bound}
use Rattle.read_marks.specs.Begun.{EndsFrom, FirstTails}

-- The mark of word x at position p.
abbrev pub mark_at : List ℕ → ℕ → ℕ → Bool
mark_at work p x = bit_of (get_or work p 0) x

-- The set has the words after which the message can be read from p on.
pub record Goes (K : Text) (onward p : ℕ) : Type 0 where
  pub is : (y : ℕ) → y < width → Exactly (bit_of onward y) (Can K p y)

-- For each index, the set has the words whose tail from there on stands at p.
pub record Tailed (K : Text) (fits : ℕ → ℕ → ℕ → Type 0) (cut : Bool) (n longest : ℕ) (tails : List ℕ) (p : ℕ) : Type 0 where
  pub is : (j x : ℕ) → x < width → Exactly (bit_of (get_or tails j 0) x) (Tail K fits cut p j x)
  pub rest : (j : ℕ) → longest ≤ j → get_or tails j 0 ≡ 0
  pub bound : get_or tails 0 0 < 2 ^ n

-- From position p on the entries have the words that begin a reading there, and none but the first n.
pub record Marked (K : Text) (n : ℕ) (work : List ℕ) (p : ℕ) : Type 0 where
  pub is : (q x : ℕ) → p ≤ q → x < width → Exactly (mark_at work q x) (Begins K q x)
  pub bound : (q : ℕ) → p ≤ q → get_or work q 0 < 2 ^ n

-- All three.
pub record Right (K : Text) (fits : ℕ → ℕ → ℕ → Type 0) (cut : Bool) (n longest : ℕ) (tails work : List ℕ) (onward p : ℕ) : Type 0 where
  pub tailed : Tailed K fits cut n longest tails p
  pub goes : Goes K onward p
  pub marked : Marked K n work p

-- The sets of place p: for each index the words that have a symbol there that may lie at p. They stand in a list from `block` on.
pub record BlockOf (having : List ℕ) (M : Places) (n longest p : ℕ) (list : List ℕ) (block : ℕ) : Type 0 where
  pub is : (j x : ℕ) → j < longest → Exactly (bit_of (get_or list (block + j) 0) x) (Fits having M p j x)
  pub bound : get_or list (block + 0) 0 < 2 ^ n

module _ {having ends rows lengths : List ℕ} {n longest : ℕ} (M : Places) (sets : SetsOf having ends rows lengths n longest) where
  abbrev K : Text
  K = text having rows lengths n M

  module _ {tails : List ℕ} {p : ℕ} (inside : p < M.end) where
    -- A step of the tails.
    step_tailed : {list new : List ℕ} {block onward : ℕ} → BlockOf having M n longest p list block → Tailed K (Fits having M) M.cut n longest tails (p + 1)
        → Goes K onward (p + 1) → Stepped list ends block onward longest tails new → Tailed K (Fits having M) M.cut n longest new p
    step_tailed {list} {new} {block} {onward} b t g s = record {
      is = λ j x k. by j x k (dec_lt j longest);
      rest = λ j k. s.rest j k ∙ t.rest j k;
      bound = stepped_bound n s sets.sized.least b.bound;
    }
      where
        tail : (j x : ℕ) → j < longest → x < width → Exactly (bit_of (tail_at list ends block onward tails j) x) (Tail K (Fits having M) M.cut p j x)
        tail j x h k = exactly_iff (split_tail, tail_split inside)
            (exactly_meet (bit_or (get_or tails (j + 1) 0) (bit_and onward (get_or ends j 0))) (get_or list (block + j) 0) x
            (exactly_join (get_or tails (j + 1) 0) (bit_and onward (get_or ends j 0)) x (t.is (j + 1) x k)
            (exactly_meet onward (get_or ends j 0) x (g.is x k) (sets.ending j x k)))
            (b.is j x h))

        by : (j x : ℕ) → x < width → Dec (j < longest) → Exactly (bit_of (get_or new j 0) x) (Tail K (Fits having M) M.cut p j x)
        by j x k (yes l) = rw (s.tails j l) (tail j x l k)
        by j x k (no l) = rw (s.rest j (omega arith), t.rest j (omega arith), bit_none x) (exactly_false (λ q. omega (arith, tail_short M sets q)))

    begins_of_lem : Tailed K (Fits having M) M.cut n longest tails p → (x : ℕ) → x < width → Exactly (bit_of (get_or tails 0 0) x) (Begins K p x)
    begins_of_lem t x k = exactly_iff (tail_begins (sets_spelled M sets) inside, begins_tail (sets_spelled M sets) inside) (t.is 0 x k)

    -- The union of the rows of the words that begin at p: the words after which reading can go on there.
    union_goes : {onward : ℕ} → Tailed K (Fits having M) M.cut n longest tails p → UnionOf rows (get_or tails 0 0) (length rows) onward → Goes K onward p
    union_goes t u = record { is = λ y k. exactly_iff ((λ w. there y w), (λ c. back y (can_opened inside c))) (u.is y) }
      where
        there : (y : ℕ) → Within rows (get_or tails 0 0) (length rows) y → Can K p y
        there y w =
            let known = bit_below (get_or tails 0 0) w.from t.bound w.member in
            opens_can (record { begins = (begins_of_lem t w.from (omega (arith, sets.shaped.small))).yes w.member; after = w.has })

        back : (y : ℕ) → Opened K p y → Within rows (get_or tails 0 0) (length rows) y
        back y o =
            let known = o.opens.begins.here.0 in
            record {
              from = o.next;
              below = omega (arith, sets.shaped.rowed);
              member = exactly_on (begins_of_lem t o.next (omega (arith, sets.shaped.small))) o.opens.begins;
              has = o.opens.after;
            }

    -- The entry of position p.
    entry_marked : {work : List ℕ} → Tailed K (Fits having M) M.cut n longest tails p → Marked K n work (p + 1) → p < length work
        → Marked K n (set work p (get_or tails 0 0)) p
    entry_marked {work} t d room = record {
      is = λ q x. on_set work p (get_or tails 0 0) room (λ q v. p ≤ q → x < width → Exactly (bit_of v x) (Begins K q x))
          (λ h k. begins_of_lem t x k) (λ q ne h k. d.is q x (omega arith) k) q;
      bound = on_set work p (get_or tails 0 0) room (λ q v. p ≤ q → v < 2 ^ n) (λ h. t.bound) (λ q ne h. d.bound q (omega arith));
    }

  -- At the end a tail is what is not shown of a word that is begun,
  end_tail : {cut : Bool} (j x : ℕ) → x < width → (cut ≡ true) × (1 ≤ j) × EndsFrom ends longest j x → cut ≡ M.cut → Tail K (Fits having M) M.cut M.end j x
  end_tail j x k (c, some, e) q =
      let size = (sets.ending e.index x k).yes e.here in
      begun {p = M.end} {j = j} {x = x} (sym q ∙ c) (omega arith) some (omega (arith, e.low))

  tail_end : (j x : ℕ) → x < width → Tail K (Fits having M) M.cut M.end j x → (M.cut ≡ true) × (1 ≤ j) × EndsFrom ends longest j x
  tail_end j x k (last f e c) = absurd (omega (arith, f.inside))
  tail_end j x k (more f t) = absurd (omega (arith, f.inside))
  tail_end j x k (begun c e some h) =
      let size = sets.most x in
      let is : length_at lengths x ≡ length_at lengths x - 1 + 1 = omega arith in
      (c, some, record { index = length_at lengths x - 1; low = omega arith; high = omega arith; here = exactly_on (sets.ending (length_at lengths x - 1) x k) is })

  -- reading is done after any word, and nothing begins.
  right_end : {tails work : List ℕ} → FirstTails ends longest M.cut tails → ((q : ℕ) → M.end ≤ q → get_or work q 0 ≡ 0)
      → Right K (Fits having M) M.cut n longest tails work (2 ^ width - 1) M.end
  right_end {tails} {work} f empty = record {
    tailed = record {
      is = λ j x k. exactly_iff ((λ e. end_tail j x k e refl), tail_end j x k) (f.is j x);
      rest = f.rest;
      bound = rw f.none (pow_pos n);
    };
    goes = record { is = λ y k. rw (bit_all width y k) (exactly_true (record { rest = []; reads = done (omega arith) })) };
    marked = record {
      is = λ q x h k. rw (empty q h, bit_none x) (exactly_false (λ b. omega (arith, (sets_bounded M sets).inside q x b.here)));
      bound = λ q h. rw (empty q h) (pow_pos n);
    };
  }

  right_step : {list tails work new : List ℕ} {block onward more p : ℕ} → p < M.end → BlockOf having M n longest p list block
      → Right K (Fits having M) M.cut n longest tails work onward (p + 1)
      → Stepped list ends block onward longest tails new → p < length work → UnionOf rows (get_or new 0 0) (length rows) more
      → Right K (Fits having M) M.cut n longest new (set work p (get_or new 0 0)) more p
  right_step inside b r s room u =
      let t = step_tailed inside b r.tailed r.goes s in
      record { tailed = t; goes = union_goes inside t u; marked = entry_marked inside t r.marked room }

-- The lists do not say the lengths of the words; for all lengths and numbers of words whose sets they are, the three are right.
pub record RightFor (having ends rows : List ℕ) (longest : ℕ) (M : Places) (tails work : List ℕ) (onward p : ℕ) : Type 0 where
  pub each : (lengths : List ℕ) (n : ℕ) → SetsOf having ends rows lengths n longest
      → Right (text having rows lengths n M) (Fits having M) M.cut n longest tails work onward p

-- So are the sets of a place,
pub record BlockFor (having : List ℕ) (M : Places) (longest p : ℕ) (list : List ℕ) (block : ℕ) : Type 0 where
  pub each : (n : ℕ) → ((i : ℕ) → get_or having i 0 < 2 ^ n) → BlockOf having M n longest p list block

-- and the marks of all positions.
pub record MarksAll (having ends rows : List ℕ) (longest : ℕ) (M : Places) (work : List ℕ) : Type 0 where
  pub each : (lengths : List ℕ) (n : ℕ) → SetsOf having ends rows lengths n longest → Marked (text having rows lengths n M) n work 0

-- A message has the sets of its symbols.
pub symbol_block : (having : List ℕ) (cut : Bool) (m : List ℕ) (longest p : ℕ) → p < length m → BlockFor having (symbols_at cut m) longest p having (block_of (get_or m p 0))
symbol_block having cut m longest p inside = record { each = λ n b. record { is = λ j x h. by j x; bound = b (block_of (get_or m p 0) + 0) } }
  where
    by : (j x : ℕ) → Exactly (bit_of (having_at having (get_or m p 0) j) x) (Fits having (symbols_at cut m) p j x)
    by j x = exactly_iff ((λ e. record { inside = inside; symbol = get_or m p 0; lies = refl; here = e }), (λ f. rw f.lies at f.here))
        (exactly_itself (bit_of (having_at having (get_or m p 0) j) x))

module _ {having ends rows : List ℕ} {longest : ℕ} {M : Places} where
  pub marks_none : {tails : List ℕ} (work : List ℕ) → FirstTails ends longest M.cut tails → length work ≡ M.end + 1
      → RightFor having ends rows longest M tails (set work M.end 0) (2 ^ width - 1) M.end
  marks_none work first long = record { each = λ lengths n sets. right_end M sets first (λ q h. empty q h (ℕ_discrete q M.end)) }
    where
      empty : (q : ℕ) → M.end ≤ q → Dec (q ≡ M.end) → get_or (set work M.end 0) q 0 ≡ 0
      empty q h (yes e) = rw (e, get_or-set_same work M.end 0 0 (omega arith))
      empty q h (no e) = get_or-eq_default (set work M.end 0) 0 (rw length-set (omega arith))

  pub marks_more : {list tails work new : List ℕ} {block onward more p : ℕ} → 0 < p → p ≤ M.end → length work ≡ M.end + 1
      → RightFor having ends rows longest M tails work onward p → BlockFor having M longest (p - 1) list block
      → Stepped list ends block onward longest tails new
      → UnionOf rows (get_or new 0 0) (length rows) more → RightFor having ends rows longest M new (set work (p - 1) (get_or new 0 0)) more (p - 1)
  marks_more {p = p} some within long r b s u =
      let e : p ≡ p - 1 + 1 = omega arith in
      record { each = λ lengths n sets. right_step M sets (omega arith) (b.each n sets.bound) (rw e at (r.each lengths n sets)) s (omega arith) u }

  pub marks_all : {tails work : List ℕ} {onward : ℕ} → RightFor having ends rows longest M tails work onward 0 → MarksAll having ends rows longest M work
  marks_all r = record { each = λ lengths n sets. (r.each lengths n sets).marked }
