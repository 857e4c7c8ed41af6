-- The judgement on a sheet and a ban list can be printed from its buffers: a refusal shows nothing, and after a verdict the buffers hold what it shows.
use Rattle.std.specs.Prelude.{Err, Ok, Result}
use mathlib.Core.Path.{◌≡◌, refl, sym, ap, ◌∙◌, subst}
use mathlib.Core.List.{List, []}
use mathlib.Core.Logic.{⊎_elim}
use Prim.Native.Nat.{ℕ, ◌≤◌}
use native.Mathlib.Omega.{arith}
use lib.ListN.{length, drop, length-append}
use Rattle.io.specs.Counts.{IsPrefixLen}
use Rattle.code.specs.declared.Enlarged.{Enlarged}
use Rattle.code.specs.declared.Enlargement.{Enlargement}
use Rattle.code.specs.declared.SymbolCount.{SymbolCount}
use Rattle.code.specs.declared.WordCount.{WordCount}
use Rattle.code.specs.declared.Refusal.{Refusal}
use Rattle.code.specs.declared.Taken.{Taken}
use Rattle.code.specs.declared.Verdict.{Verdict}
use Rattle.code.specs.declared.Verdict.TheVariants.{Ambiguous as Two-ways, Finite, Unbounded}
use Rattle.code.specs.Definitions.Readings.{Ambiguous}
use Rattle.code.specs.Definitions.Answers.{VerdictMeans}
use Rattle.code.specs.Definitions.Enlarged.{plain_of, original_table}
use Rattle.code.specs.Definitions.Operations.{Lowest, Enlarges, FromLists, verdict_room, verdict_work, verdict_conditions, written, Shown, Judges, refused, judged}
use Rattle.code.specs.Definitions.Sheets.{limits, taken}
use Rattle.code.specs.Laws.Buffers.{take-written}
use Rattle.code.specs.Laws.Sequences.{permitted_linked, message_below_lem}
use Rattle.well_formed.specs.Given.{well}
use Rattle.pair_places.specs.Codes.{code_fits}
use Rattle.printing.specs.Printed.{printed}
use Rattle.printing.proofs.Laws.Starts.{starts_counts}
use Rattle.writing.specs.Puts.{Starts}
use Rattle.printing.specs.Prints.{lengths_of, Symbols, Printable, Prints, all, none, result_of}
use Rattle.ban_meaning.specs.Alike.{same_reads}
use Rattle.ban_meaning.specs.Given.{table_with}
use Rattle.ban_meaning.proofs.Given.{lists_alike}
use Rattle.sheet.proofs.Laws.Either.{not_both}
use Rattle.verdict.specs.Answers.{output_room, Gives, sheet_refused, sheet_accepted, Answers, Shows}

-- What shows nothing of the buffers can be printed.
plain : (j : Result Verdict Refusal) → lengths_of j ≡ record { message = 0; first = 0; second = 0 } → (m f g : List ℕ) → Printable j m f g output_room
plain j nothing m f g = record {
  message = rw nothing (omega arith);
  first = rw nothing (omega arith);
  second = rw nothing (omega arith);
  symbols = rw nothing (λ k. omega arith);
  room = rw nothing (omega arith);
}

-- What the sheet and the list give, in code: a refusal of the sheet, or what enlarging gives
pub gives_refused : {t : Taken} {e : Enlarged} {x : Enlargement} (sheet list : List ℕ) {r : Refusal} → t ≡ taken limits sheet → e ≡ plain_of limits t.code → t.answer ≡ Err r
    → x ≡ record { answer = t.answer; enlarged = e } → Gives sheet list x
gives_refused sheet list came plain answer is = sheet_refused (rw came at answer) (is ∙ rw (answer, plain, came))

pub gives_accepted : {t : Taken} {e : Enlarged} {x : Enlargement} (sheet list : List ℕ) → t ≡ taken limits sheet → e ≡ plain_of limits t.code → t.answer ≡ Ok tt
    → Enlarges limits e list x → Gives sheet list x
gives_accepted sheet list came plain answer enlarges = sheet_accepted (rw came at answer) (rw (plain, came) at enlarges)

-- A refusal of the sheet or the list
pub shows_refused : {g : Enlargement} {sheet list : List ℕ} (m f h : List ℕ) {r : Refusal} → Gives sheet list g → g.answer ≡ Err r → Shows sheet list m f h (Err r)
shows_refused {g} m f h {r} gives answer = record {
  message = [];
  first = [];
  second = [];
  right = record { given = g; gives = gives; right = answer };
  printable = plain (Err r) refl m f h;
  same = refl;
}

-- A buffer has room for what was written to it.
start_within : (x m b : List ℕ) (n : ℕ) → b ≡ written x m → length x ≡ n → n ≤ length b
start_within x m b n e h = omega (arith, ap length e, length-append x (drop (length x) m))

module _ {e : Enlarged} (lists : FromLists limits e) where
  ambiguous_symbols : (x s u : List ℕ) → Ambiguous (original_table e) x s u → Symbols x
  ambiguous_symbols x s u a =
      let r = (same_reads (lists_alike lists)).0 a.readings.first in
      rw r.joined at (message_below_lem (table_with lists.table lists.list) (omega arith) (code_fits lists.table (well lists.given)).low (permitted_linked r.permitted))

-- An accepted sheet and list give a code.
gives_lists : {sheet list : List ℕ} {g : Enlargement} → Gives sheet list g → g.answer ≡ Ok tt → FromLists limits g.enlarged
gives_lists (sheet_refused a is) answer = absurd (not_both answer (ap (λ (y : Enlargement). y.answer) is))
gives_lists {sheet} {list} {g} (sheet_accepted a enlarges) answer = record {
  table = (taken limits sheet).code;
  given = record { sheet = sheet; gives = λ i. record { answer = a i; code = (taken limits sheet).code } };
  list = list;
  gives = subst (Enlarges limits (plain_of limits (taken limits sheet).code) list) (λ i. record { answer = answer i; enlarged = g.enlarged }) enlarges;
}

module _ {sheet list : List ℕ} {g : Enlargement} (gives : Gives sheet list g) (accepted : g.answer ≡ Ok tt) where
  from_lists : FromLists limits g.enlarged
  from_lists = gives_lists gives accepted

  module _ (m f h m' f' h' x s u : List ℕ) (m-long : length m' ≡ verdict_room limits) (f-long : length f' ≡ verdict_room limits) (h-long : length h' ≡ verdict_room limits) where
    shows_ambiguous : (a : SymbolCount) (b k : WordCount) → VerdictMeans (original_table g.enlarged) x s u (Two-ways a b k) → Shown m f h m' f' h' x s u (Two-ways a b k)
        → Shows sheet list m' f' h' (Ok (Two-ways a b k))
    shows_ambiguous a b k means shown =
        let m-start = take-written a.0 x m m' (sym means.1) shown.0 in
        let m-within = start_within x m m' a.0 shown.0 means.1 in
        let f-within = start_within s f f' b.0 shown.1 means.2 in
        let h-within = start_within u h h' k.0 shown.2 means.3 in
        record {
          message = x;
          first = s;
          second = u;
          right = record { given = g; gives = gives; right = (accepted, means) };
          printable = record {
            message = m-within;
            first = f-within;
            second = h-within;
            symbols = rw m-start (ambiguous_symbols from_lists x s u means.0);
            room = omega arith;
          };
          same = rw (m-start, take-written b.0 s f f' (sym means.2) shown.1, take-written k.0 u h h' (sym means.3) shown.2);
        }

    -- A verdict that is not ambiguous shows nothing of the buffers.
    shows_plain : (v : Verdict) → VerdictMeans (original_table g.enlarged) x s u v → Printable (Ok v) m' f' h' output_room → result_of (Ok v) m' f' h' ≡ printed (Ok v) x s u
        → Shows sheet list m' f' h' (Ok v)
    shows_plain v means printable same =
        record { message = x; first = s; second = u; right = record { given = g; gives = gives; right = (accepted, means) }; printable = printable; same = same }

    shows_verdict : (v : Verdict) → VerdictMeans (original_table g.enlarged) x s u v → Shown m f h m' f' h' x s u v → Shows sheet list m' f' h' (Ok v)
    shows_verdict (Two-ways a b k) means shown = shows_ambiguous a b k means shown
    shows_verdict (Finite d) means shown = shows_plain (Finite d) means (plain (Ok (Finite d)) refl m' f' h') refl
    shows_verdict Unbounded means shown = shows_plain Unbounded means (plain (Ok Unbounded) refl m' f' h') refl

  -- No refusal of the verdict holds: a sheet and a list give the code, and the buffers are long enough.
  no_refusal : (m f h w : List ℕ) → length m ≡ verdict_room limits → length f ≡ verdict_room limits → length h ≡ verdict_room limits → length w ≡ verdict_work limits → {r : Refusal}
      → Lowest (verdict_conditions limits g.enlarged m f h w) r → ⊥
  no_refusal m f h w a b c d lowest =
      ⊎_elim (λ p. p.0 from_lists)
      (λ p. ⊎_elim (λ q. ⊎_elim (λ i. omega arith) (⊎_elim (λ i. omega arith) (⊎_elim (λ i. omega arith) (λ i. omega arith))) q.0) (λ q. q.1) p.1) lowest

  -- After a verdict, with buffers that are long enough
  pub shows_judged : {m f h w m' f' h' w' : List ℕ} → length m ≡ verdict_room limits → length f ≡ verdict_room limits → length h ≡ verdict_room limits → length w ≡ verdict_work limits → length m' ≡ verdict_room limits → length f' ≡ verdict_room limits
      → length h' ≡ verdict_room limits → {j : Result Verdict Refusal} → Judges limits g.enlarged m f h w m' f' h' w' j → Shows sheet list m' f' h' j
  shows_judged {m} {f} {h} {w} a b c d a' b' c' (refused lowest e₁ e₂ e₃ e₄) = absurd (no_refusal m f h w a b c d lowest)
  shows_judged {m} {f} {h} {w} {m'} {f'} {h'} a b c d a' b' c' (judged {v} x s u holds means shown e) = shows_verdict m f h m' f' h' x s u a' b' c' v means shown

-- What a judgement shows is printed.
pub answers : (sheet list m f g o o' : List ℕ) (j : Result Verdict Refusal) → Shows sheet list m f g j → length o ≡ output_room → {r : ℕ} → Prints j m f g o o' r → Answers sheet list o o' r
answers sheet list m f g o o' j s long (all printable count out) = record {
  judgement = j;
  message = s.message;
  first = s.first;
  second = s.second;
  right = s.right;
  count = count ∙ ap length s.same;
  out = out ∙ ap (λ (text : List ℕ). written text o) s.same;
}
answers sheet list m f g o o' j s long (none unprintable out) = absurd (unprintable (rw long s.printable))

-- The printed result lies within the output buffer.
pub answer_counts : {sheet list o o' : List ℕ} {r : ℕ} → Answers sheet list o o' r → IsPrefixLen r o'
answer_counts {o = o} {o' = o'} {r = r} a =
    let whole : Starts (printed a.judgement a.message a.first a.second) o o' r = record { count = a.count; out = a.out } in
    starts_counts whole
