-- Where the lists are the sets of a table's words, the words that open a reading of the symbols w are those that begin a sequence with the message w, or, where the
-- last word may be cut, with a message that w begins. Words after the end of w are left out of the reading, and any number of them may come.
use Rattle.std.specs.Prelude.{◌≡◌, refl, Bool, false, ℕ, ◌+◌, ◌-◌, ◌≤◌, ◌<◌, length, drop, get_or}
use Rattle.std.proofs.Common.{sym, ap, ◌∙◌, subst, arith, length-append, take-append-drop, drop_of_length-le}
use mathlib.Core.List.{List, [], ◌∷◌, ◌++◌, head-eq_of_cons-eq, tail-eq_of_cons-eq}
use Rattle.std.proofs.Math.Decide.{dec_lt}
use Rattle.std.proofs.Math.ListN.{get_or-append}
use Rattle.code.specs.Definitions.Tables.{Table, word, Permitted, message}
use Rattle.code.specs.Laws.Sequences.{cut_permitted, message_append}
use Rattle.read_sets.specs.Sets.{Lays}
use Rattle.read_marks.specs.Text.{Text, From, done, word as then, Opens as OpensAt, opens_of}
use Rattle.read_marks.specs.Message.{symbols_at, text}
use Rattle.read_core.specs.Spells.{Spells, from_spells, spells_from, spelled}

-- Word x begins a permitted sequence whose message is w, or where `cut` one that w begins.
pub record Opens (t : Table) (cut : Bool) (w : List ℕ) (x : ℕ) : Type 0 where
  pub s : List ℕ
  pub permitted : Permitted t (x ∷ s)
  pub past : List ℕ
  pub joined : message t (x ∷ s) ≡ w ++ past
  pub ends : cut ≡ false → past ≡ []

-- The words of s that begin before its first k symbols end, and those behind them.
record Front (t : Table) (k : ℕ) (s : List ℕ) : Type 0 where
  front : List ℕ
  behind : List ℕ
  is : s ≡ front ++ behind
  reaches : k ≤ length (message t front)
  begins : (o : List ℕ) (x : ℕ) (u : List ℕ) → front ≡ o ++ (x ∷ u) → length (message t o) < k

no_front : (t : Table) (k : ℕ) (s : List ℕ) → k ≤ 0 → Front t k s
no_front t k s h = record {
  front = [];
  behind = s;
  is = refl;
  reaches = omega arith;
  begins = λ o x u e. absurd (let z = ap length e in omega (arith, length-append o (x ∷ u)));
}

front_of : (t : Table) (s : List ℕ) (k : ℕ) → k ≤ length (message t s) → Front t k s
front_of t [] k h = no_front t k [] (omega arith)
front_of t (x ∷ s) k h = by (dec_lt 0 k) (front_of t s (k - length (word t x)) (omega (arith, length-append (word t x) (message t s))))
  where
    by : Dec (0 < k) → Front t (k - length (word t x)) s → Front t k (x ∷ s)
    by (no g) f = no_front t k (x ∷ s) (omega arith)
    by (yes g) f = record {
      front = x ∷ f.front;
      behind = f.behind;
      is = ap (◌∷◌ x) f.is;
      reaches = omega (arith, f.reaches, length-append (word t x) (message t f.front));
      begins = more;
    }
      where
        more : (o : List ℕ) (y : ℕ) (u : List ℕ) → x ∷ f.front ≡ o ++ (y ∷ u) → length (message t o) < k
        more [] y u e = omega arith
        more (a ∷ o) y u e =
            let b = f.begins o y u (tail-eq_of_cons-eq e) in
            subst (λ (v : ℕ). length (word t v ++ message t o) < k) (head-eq_of_cons-eq e) (omega (arith, length-append (word t x) (message t o)))

module _ {t : Table} {having closing rows lengths : List ℕ} {n longest : ℕ} (l : Lays t having closing rows lengths n longest) (cut : Bool) (w : List ℕ) where
  abbrev K : Text
  K = text having rows lengths n (symbols_at cut w)

  -- The words that begin before the symbols end spell them.
  front_spells : (s past : List ℕ) → message t s ≡ w ++ past → (cut ≡ false → past ≡ []) → (f : Front t (length w) s) → Spells t (symbols_at cut w) 0 f.front
  front_spells s past joined ends f = record {
    reaches = omega (arith, f.reaches);
    exact = λ q. omega (arith, f.reaches, long, ap length joined, length-append w past, ap length (ends q));
    symbols = λ j h k.
        let z : 0 + j ≡ j = omega arith in
        rw z (sym (get_or-append (message t f.front) (message t f.behind) 0 j h)
        ∙ ap (λ (v : List ℕ). get_or v j 0) (sym parts ∙ joined)
        ∙ get_or-append w past 0 j (omega arith));
    begins = λ o x u e. omega (arith, f.begins o x u e);
  }
    where
      parts : message t s ≡ message t f.front ++ message t f.behind
      parts = ap (message t) f.is ∙ message_append t f.front f.behind

      long : length (message t s) ≡ length (message t f.front) + length (message t f.behind)
      long = ap length parts ∙ length-append (message t f.front) (message t f.behind)

  opens_front : {p y x : ℕ} {s f : List ℕ} → From K p y f → (b : List ℕ) → x ∷ s ≡ f ++ b → 0 < length (message t f) → OpensAt K p y x
  opens_front (done e) b q h = absurd (omega arith)
  opens_front {p} {y} (then g a r) b q h = subst (OpensAt K p y) (sym (head-eq_of_cons-eq q)) (opens_of g a r)

  -- What opens a reading of the symbols after the start opens a sequence with them, and the other way round.
  pub opens_there : {x : ℕ} → OpensAt K 0 n x → Opens t cut w x
  opens_there {x} o =
      let s = o.begins.after.rest in
      let r = from_spells l (symbols_at cut w) (x ∷ s) (then o.begins.here o.after o.begins.after.reads) in
      record {
        s = s;
        permitted = r.0;
        past = drop (length w) (message t (x ∷ s));
        joined = sym (take-append-drop (length w) (message t (x ∷ s))) ∙ ap (λ (z : List ℕ). z ++ drop (length w) (message t (x ∷ s))) (spelled {cut = cut} {m = w} r.1);
        ends = λ q. drop_of_length-le (message t (x ∷ s)) {i = length w} (omega (arith, r.1.exact q));
      }

  pub opens_back : {x : ℕ} → 0 < length w → Opens t cut w x → OpensAt K 0 n x
  opens_back {x} h o =
      let f = front_of t (x ∷ o.s) (length w) (omega (arith, ap length o.joined, length-append w o.past)) in
      opens_front
      (spells_from l (symbols_at cut w) f.front (cut_permitted f.front f.behind (subst (Permitted t) f.is o.permitted))
      (front_spells (x ∷ o.s) o.past o.joined o.ends f))
      f.behind f.is (omega (arith, f.reaches))
