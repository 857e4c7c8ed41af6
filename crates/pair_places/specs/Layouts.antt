-- Laying out a table word by word: the words laid out so far stay as they are, and what comes after them is zero.
use Rattle.std.specs.Prelude.{◌≡◌, List, ℕ, suc, ◌+◌, ◌*◌, ◌-◌, ◌≤◌, ◌<◌, eqb, length, get_or, set, replicate}
use Rattle.std.proofs.Common.{sym, ap, ◌∙◌, arith, length-set, get_or-set_same, get_or-set_other, eq-eqb, ne_eqb}
use Rattle.std.proofs.Math.Decide.{dec_lt, ℕ_discrete}
use Rattle.std.proofs.lemmas.List.{length-replicate, get_or-replicate}
use Rattle.code.specs.declared.Word.{Word}
use Rattle.code.specs.declared.Row.{Row}
use Rattle.code.specs.Definitions.Sheets.{limits}
use Rattle.code.specs.Definitions.Tables.{Table, size, word}
use Rattle.pair_places.specs.Bases.{base_more, base_before}
use Rattle.pair_places.specs.Flat.{symbol_at, owner_at, first_at, word_count, begins_at}
use Rattle.pair_places.specs.Lays.{length_of, base, LaysWord}
use Rattle.pair_places.specs.Offsets.{owners_from, ends_from, firsts_from, follow_from, word_count_at, place_count_at, begins_from, list_length}
use Rattle.pair_places.specs.Words.{WordLaid}
use Rattle.pair_places.specs.Writes.{Written, elements}

-- Nothing is laid out at number p.
pub record Clear (f : List ℕ) (p : ℕ) : Type 0 where
  pub symbol : symbol_at f p ≡ 0
  pub owner : owner_at f p ≡ 0
  pub end : get_or f (ends_from + p) 0 ≡ 0

-- The first n words are laid out, and nothing else.
pub record LaysTo (t : Table) (n : ℕ) (f : List ℕ) : Type 0 where
  pub long : length f ≡ list_length
  pub count : word_count f ≡ size t
  pub words : (x : ℕ) → x < n → LaysWord t f x (base t x)
  pub clear : (p : ℕ) → base t n ≤ p → p < limits.total → Clear f p
  pub firsts : (x : ℕ) → n ≤ x → x < limits.words → first_at f x ≡ 0
  pub begins : (x : ℕ) → x < size t → begins_at f x ≡ t.begins x

-- A word and a row as a code holds them are word x and row x of the table.
pub record Holds (t : Table) (x : ℕ) (w : Word) (r : Row) : Type 0 where
  pub len : w.len ≡ length_of t x
  pub symbols : (k : ℕ) → k < length_of t x → get_or w.symbols k 0 ≡ get_or (word t x) k 0
  pub follow : (y : ℕ) → y < size t → eqb (get_or r.entries y 0) 1 ≡ t.follow x y

module _ (t : Table) (most : size t ≤ limits.words) {f g : List ℕ} (same : (i : ℕ) → i < word_count_at → get_or g i 0 ≡ get_or f i 0) where
  -- A word stays where the entries before the counts stay.
  pub word_stays : (x at : ℕ) → x < limits.words → at + length_of t x ≤ limits.total → LaysWord t f x at → LaysWord t g x at
  word_stays x at h room a = record {
    symbols = λ k l. same (at + k) (omega arith) ∙ a.symbols k l;
    owners = λ k l. same (owners_from + (at + k)) (omega arith) ∙ a.owners k l;
    ends = λ k l. ap (λ (v : ℕ). eqb v 1) (same (ends_from + (at + k)) (omega arith)) ∙ a.ends k l;
    first = same (firsts_from + x) (omega arith) ∙ a.first;
    follow = λ y l. ap (λ (v : ℕ). eqb v 1) (same (follow_from + (x * limits.words + y)) (omega arith)) ∙ a.follow y l;
  }

-- Storing the number of places leaves what is laid out.
pub counted : (t : Table) (n v : ℕ) {f : List ℕ} → n ≤ limits.words → size t ≤ limits.words → base t n ≤ limits.total → LaysTo t n f → LaysTo t n (set f place_count_at v)
counted t n v {f} few most room old = record {
  long = length-set f place_count_at v ∙ old.long;
  count = other word_count_at (omega arith) ∙ old.count;
  words = λ x h. word_stays t most (λ i l. other i (omega arith)) x (base t x) (omega arith) (omega (arith, base_before t x n h)) (old.words x h);
  clear = λ p l h. let c = old.clear p l h in record {
    symbol = other p (omega arith) ∙ c.symbol;
    owner = other (owners_from + p) (omega arith) ∙ c.owner;
    end = other (ends_from + p) (omega arith) ∙ c.end;
  };
  firsts = λ x l h. other (firsts_from + x) (omega arith) ∙ old.firsts x l h;
  begins = λ x h. ap (λ (v : ℕ). eqb v 1) (other (begins_from + x) (omega arith)) ∙ old.begins x h;
}
  where
    other : (i : ℕ) → (i ≡ place_count_at → ⊥) → get_or (set f place_count_at v) i 0 ≡ get_or f i 0
    other i h = get_or-set_other f place_count_at i v 0 h

module _ (t : Table) where
  -- Before the first word the list is zero but for the start marks and the number of words.
  module _ (count : ℕ) (known : count ≡ size t) (few : size t ≤ limits.words) (bs g : List ℕ) (marks : Written (replicate list_length 0) begins_from limits.words (elements bs) g)
      (begins : (x : ℕ) → x < size t → eqb (get_or bs x 0) 1 ≡ t.begins x) where
    long : length g ≡ list_length
    long = marks.long ∙ length-replicate {A = ℕ} list_length 0

    empty : (i : ℕ) → i < word_count_at → get_or (set g word_count_at count) i 0 ≡ 0
    empty i l = get_or-set_other g word_count_at i count 0 (omega arith) ∙ marks.others i (omega arith) ∙ get_or-replicate list_length i 0 0 (omega arith)

    mark : (x : ℕ) → x < limits.words → get_or (set g word_count_at count) (begins_from + x) 0 ≡ get_or bs x 0
    mark x l = get_or-set_other g word_count_at (begins_from + x) count 0 (omega arith) ∙ marks.within x l

    pub lays_none : LaysTo t 0 (set g word_count_at count)
    lays_none = record {
      long = length-set g word_count_at count ∙ long;
      count = get_or-set_same g word_count_at count 0 (omega (arith, long)) ∙ known;
      words = λ x l. absurd (omega arith);
      clear = λ p l h. record { symbol = empty p (omega arith); owner = empty (owners_from + p) (omega arith); end = empty (ends_from + p) (omega arith) };
      firsts = λ x l h. empty (firsts_from + x) (omega arith);
      begins = λ x h. ap (λ (v : ℕ). eqb v 1) (mark x (omega arith)) ∙ begins x h;
    }

  module _ (n : ℕ) (w : Word) (r : Row) {f g : List ℕ} (laid : WordLaid (base t n) n w r f g) (holds : Holds t n w r) (low : n < limits.words) (few : size t ≤ limits.words)
      (some : 0 < length_of t n) (room : base t n + length_of t n ≤ limits.total) (old : LaysTo t n f) where
    -- an earlier word stays
    kept : (x : ℕ) → x < n → LaysWord t f x (base t x) → LaysWord t g x (base t x)
    kept x h a =
        let before = base_before t x n h in
        let len = holds.len in
        record {
          symbols = λ k l. laid.others (base t x + k) (omega arith) ∙ a.symbols k l;
          owners = λ k l. laid.others (owners_from + (base t x + k)) (omega arith) ∙ a.owners k l;
          ends = λ k l. ap (λ (v : ℕ). eqb v 1) (laid.others (ends_from + (base t x + k)) (omega arith)) ∙ a.ends k l;
          first = laid.others (firsts_from + x) (omega arith) ∙ a.first;
          follow = λ y l. ap (λ (v : ℕ). eqb v 1) (laid.others (follow_from + (x * limits.words + y)) (omega arith)) ∙ a.follow y l;
        }

    by_end : (k : ℕ) → k < length_of t n → Dec (suc k ≡ length_of t n) → eqb (get_or g (ends_from + (base t n + k)) 0) 1 ≡ eqb (suc k) (length_of t n)
    by_end k l (yes e) =
        let len = holds.len in
        let last : ends_from + (base t n + k) ≡ ends_from + (base t n + w.len - 1) = omega arith in
        eq-eqb (get_or g (ends_from + (base t n + k)) 0) 1 (rw last laid.end) ∙ sym (eq-eqb _ _ e)
    by_end k l (no e) =
        let len = holds.len in
        let zero = laid.others (ends_from + (base t n + k)) (omega arith) ∙ (old.clear (base t n + k) (omega arith) (omega arith)).end in
        ne_eqb (get_or g (ends_from + (base t n + k)) 0) 1 (λ h. omega (arith, zero)) ∙ sym (ne_eqb _ _ e)

    added : LaysWord t g n (base t n)
    added =
        let len = holds.len in
        record {
          symbols = λ k l. laid.symbols k (omega arith) ∙ holds.symbols k l;
          owners = λ k l. laid.owners k (omega arith);
          ends = λ k l. by_end k l (ℕ_discrete (suc k) (length_of t n));
          first = laid.first;
          follow = λ y l. ap (λ (v : ℕ). eqb v 1) (laid.row y (omega arith)) ∙ holds.follow y l;
        }

    by_word : (x : ℕ) → x < n + 1 → Dec (x < n) → LaysWord t g x (base t x)
    by_word x h (yes l) = kept x l (old.words x l)
    by_word x h (no l) =
        let e : x ≡ n = omega arith in
        rw e added

    -- One more word.
    pub lays_more : LaysTo t (n + 1) g
    lays_more =
        let len = holds.len in
        let next = base_more t n in
        record {
          long = laid.long ∙ old.long;
          count = laid.others word_count_at (omega arith) ∙ old.count;
          words = λ x h. by_word x h (dec_lt x n);
          clear = λ p h l.
              let c = old.clear p (omega arith) l in
              record {
                symbol = laid.others p (omega arith) ∙ c.symbol;
                owner = laid.others (owners_from + p) (omega arith) ∙ c.owner;
                end = laid.others (ends_from + p) (omega arith) ∙ c.end;
              };
          firsts = λ x h l. laid.others (firsts_from + x) (omega arith) ∙ old.firsts x (omega arith) l;
          begins = λ x h. ap (λ (v : ℕ). eqb v 1) (laid.others (begins_from + x) (omega arith)) ∙ old.begins x h;
        }
