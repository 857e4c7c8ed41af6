-- The record of a word: its place, its length and its kind. It lies in the text, its reading has lengths, and what is written from it shows the word.
use Rattle.std.specs.Prelude.{◌≡◌, refl, true, List, [], ◌∷◌, ℕ, suc, ◌+◌, ◌-◌, ◌^◌, ◌≤◌, ◌<◌, length, take, drop, get_or, Option}
use Rattle.std.proofs.Common.{sym, ap, ap₂, ◌∙◌, arith, length-append, length-drop, length-take, length-take-le, take_all, drop-cons}
use Rattle.std.proofs.lemmas.List.{length-map}
use Rattle.code.specs.Definitions.Tables.{Table}
use Rattle.code.specs.Definitions.Texts.{class_of, is_letter, run, symbols_in, lengths_of, Shows}
use Rattle.code.specs.Definitions.Texts as Texts
use Rattle.code.specs.Laws.Buffers.{take-written}
use Rattle.code.specs.Laws.Finite.{Within, within_at}
use Rattle.code.specs.declared.Readings.{Readings}
use Rattle.read_core.specs.Core.{ReadsSets}
use Rattle.read_core.specs.Counts.{reads_within}
use Rattle.text_runs.specs.Runs.{RunOf, LaysRun}
use Rattle.read_sets.specs.Sets.{Lays}
use Rattle.text_syllables.specs.declared.Kind.{Kind}
use Rattle.text_syllables.specs.declared.TextWord.{TextWord}
use Rattle.text_syllables.specs.Lengths.{lengths_in}
use Rattle.text_syllables.specs.Words.{letters_of, shown_as, KindFits, Showable}
use Rattle.text_theory.specs.Runs.{run_some}
use Rattle.text_theory.specs.Syllables.{reads_length, reads_count}
use Rattle.text_words.specs.Rooms.{WordRooms}
use Rattle.text_words.specs.Kinds.{kind_of, IsOfKind, split, none, several, found_kind}

-- The buffers have room for a run of k letters that is laid.
pub record RunRooms (m f g w : List ℕ) (k : ℕ) : Type 0 where
  pub near : k < 2 ^ 32
  pub message : k ≤ length m
  pub first : k ≤ length f
  pub second : k ≤ length g
  pub work : k + 1 ≤ length w

-- So they serve reading it.
pub core_rooms : {m f g w : List ℕ} {k : ℕ} → RunRooms m f g w k
    → (length (take (k + 1) w) ≡ length (take k m) + 1) × (length (take k m) < 2 ^ 32) × (length (take k m) ≤ length f) × (length (take k m) ≤ length g)
core_rooms {m} {w = w} {k = k} r =
    let long = length-take-le k m r.message in
    (omega (arith, long, length-take-le (k + 1) w r.work), omega (arith, long, r.near), omega (arith, long, r.first), omega (arith, long, r.second))

-- what the text has from `at` on
pub part_length : (s : List ℕ) (at : ℕ) → length (take (length s - at) (drop at s)) ≤ length s
part_length s at = omega (arith, length-take-le (length s - at) (drop at s) (omega (arith, length-drop at s)))

pub run_rooms : (s : List ℕ) (at : ℕ) {classes m m' f g w : List ℕ} {k : ℕ} → WordRooms s m f g w → LaysRun classes (take (length s - at) (drop at s)) m m' k
    → RunRooms m' f g w k
run_rooms s at {classes} {m} {m'} {k = k} room l =
    let part = take (length s - at) (drop at s) in
    let most : k ≤ length s = omega (arith, l.run_of.within, part_length s at) in
    let symbols = length-map (take k part) (class_of classes) ∙ length-take-le k part l.run_of.within in
    let same = ap length l.laid ∙ length-append (symbols_in classes (take k part)) (drop (length (symbols_in classes (take k part))) m) in
    record {
      near = omega (arith, room.near);
      message = omega (arith, same, symbols);
      first = omega (arith, room.first);
      second = omega (arith, room.second);
      work = omega (arith, room.work);
    }

module _ (having ends rows lengths : List ℕ) (n longest : ℕ) where
  -- The lists are the sets of some table's words.
  pub record Served : Type 0 where
    pub table : Table
    pub lays : Lays table having ends rows lengths n longest

  -- The word that stands at `at` in the text s: a run of letters, of this kind in every table whose sets these are. f is the first reading buffer.
  pub record Recorded (classes s : List ℕ) (at : ℕ) (f : List ℕ) (w : TextWord) : Type 0 where
    pub place : w.offset ≡ at
    pub run_of : RunOf classes (drop at s) w.length
    pub kind : (t : Table) → Lays t having ends rows lengths n longest → IsOfKind t (symbols_in classes (letters_of s w)) f w.kind

  -- A run that is laid and read gives the record.
  pub recorded : {classes s m m' f g v f' g' v' : List ℕ} {at k : ℕ} {r : Option Readings} {d : Kind} → LaysRun classes (take (length s - at) (drop at s)) m m' k
      → ReadsSets having ends rows lengths n longest (take k m') f g v f' g' v' r → d ≡ kind_of r
      → Recorded classes s at f' (record { kind = d; offset = at; length = k })
  recorded {classes} {s} {m} {m'} {f} {g} {f' = f'} {g' = g'} {at = at} {k = k} {r = r} {d = d} l reads e =
      let all : take (length s - at) (drop at s) ≡ drop at s = take_all (length s - at) (drop at s) (omega (arith, length-drop at s)) in
      let here : LaysRun classes (drop at s) m m' k = rw all at l in
      let long : k ≡ length (symbols_in classes (take k (drop at s))) =
      sym (length-map (take k (drop at s)) (class_of classes) ∙ length-take-le k (drop at s) here.run_of.within) in
      let laid : take k m' ≡ symbols_in classes (take k (drop at s)) = take-written k (symbols_in classes (take k (drop at s))) m m' long here.laid in
      record { place = refl; run_of = here.run_of; kind = λ t lays. rw e (found_kind (rw laid at (reads.finds t lays))) }

module _ {t : Table} {having ends rows lengths : List ℕ} {n longest : ℕ} (lays : Lays t having ends rows lengths n longest) where
  lengths_same : (r : List ℕ) → Within n r → lengths_in lengths r ≡ lengths_of t r
  lengths_same [] w = refl
  lengths_same (x ∷ r) w = ap₂ ◌∷◌ (sym (lays.sizes x w.0)) (lengths_same r w.1)

  module _ (classes letters : List ℕ) {f : List ℕ} where
    -- What is written for this kind shows the word.
    pub kind_shows : {d : Kind} → IsOfKind t (symbols_in classes letters) f d → Shows t classes letters (shown_as lengths f d letters)
    kind_shows (split {c} h o) = rw (lengths_same (take c.0 f) (rw lays.count at (reads_within o.reads))) (Texts.split o)
    kind_shows (none x) = Texts.none x
    kind_shows (several x) = Texts.several x

    kind_fits : {d : Kind} → IsOfKind t (symbols_in classes letters) f d → KindFits lengths f letters d
    kind_fits (split {c} h o) =
        let within : Within n (take c.0 f) = rw lays.count at (reads_within o.reads) in
        let count = length-take-le c.0 f h in
        record {
          stands = h;
          most = omega (arith, reads_count t classes letters o.reads (λ x k. omega (arith, lays.sizes x (omega (arith, lays.count)), lays.sets.shaped.some x (omega (arith, lays.count)))), count);
          parts = record {
            known = λ i k. omega (arith, within_at n (take c.0 f) within i k, lays.sets.shaped.sized);
            whole = rw (lengths_same (take c.0 f) within) (reads_length t classes letters o.reads);
          };
        }
    kind_fits (none x) = tt
    kind_fits (several x) = tt

module _ {having ends rows lengths : List ℕ} {n longest : ℕ} {classes s f : List ℕ} {at : ℕ} {w : TextWord}
    (r : Recorded having ends rows lengths n longest classes s at f w) where
  -- Where a letter stands, the record can be shown.
  pub record_showable : Served having ends rows lengths n longest → at < length s → is_letter classes (get_or s at 0) ≡ true → Showable w lengths f s
  record_showable v h letter =
      let some : 1 ≤ length (run classes (drop at s)) = rw (drop-cons s at 0 h) (run_some classes (get_or s at 0) (drop (suc at) s) letter) in
      record {
        within = omega (arith, r.place, r.run_of.within, length-drop at s);
        some = omega (arith, some, ap length r.run_of.is, length-take w.length (drop at s));
        fits = kind_fits v.lays classes (letters_of s w) (r.kind v.table v.lays);
      }
