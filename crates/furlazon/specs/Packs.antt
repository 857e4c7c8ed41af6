-- What an accepted sheet or an accepted ban list gives can be packed, and so can the code of the twelve Turkish types.
use Rattle.std.specs.Prelude.{◌≡◌, List, ℕ, ◌≤◌, ◌<◌, Err, Ok, Result}
use Rattle.std.proofs.Common.{sym, subst, ap, ◌∙◌, arith}
use Rattle.std.proofs.Math.Decide.{dec_lt}
use Rattle.code.specs.declared.Code.{Code}
use Rattle.code.specs.declared.Enlarged.{Enlarged}
use Rattle.code.specs.declared.Enlargement.{Enlargement}
use Rattle.code.specs.declared.Taken.{Taken}
use Rattle.code.specs.declared.Refusal.{Refusal}
use Rattle.code.specs.Definitions.Enlarged.{plain_of}
use Rattle.code.specs.Definitions.Operations.{WithoutCopies, Enlarges, refused, enlarged}
use Rattle.code.specs.Definitions.Sheets.{limits, taken}
use Rattle.well_enlarged.specs.WellEnlarged.{WellEnlarged}
use Rattle.well_enlarged.proofs.Laws.Plain.{plain_well}
use Rattle.well_enlarged.specs.Listed.{from_lists}
use Rattle.c_image.specs.Image.{Packable}
use Rattle.well_formed.specs.Given.{well}
use Rattle.turkish.specs.Types.{types, code_of_types}
use Rattle.turkish.proofs.Given.{twelve_from_sheet}

packs : {e : Enlarged} → WellEnlarged limits e → Packable e
packs w = record {
  code = record {
    words = w.code.words;
    rows = w.code.rows;
    begins = w.code.begins;
    symbols = λ k h. (w.code.word k h).array;
    len = λ k h. omega (arith, (w.code.word k h).short);
    entries = λ x h. (w.code.row x h).array;
    count = omega (arith, w.code.most);
  };
  originals = omega (arith, w.numbers.most, w.numbers.room);
  origins = w.numbers.origins;
  behind = w.numbers.behind;
}

pub sheet_packs : (s : List ℕ) {t : Taken} {e : Enlarged} → t ≡ taken limits s → e ≡ plain_of limits t.code → t.answer ≡ Ok tt → Packable e
sheet_packs s g p a = rw p (packs (plain_well (well (record { sheet = s; gives = sym g ∙ rw a }))))

pub turkish_packs : {c : Code} {e : Enlarged} → c ≡ code_of_types limits types → e ≡ plain_of limits c → Packable e
turkish_packs g p = rw (p, g) (packs (plain_well (well twelve_from_sheet)))

-- That a list is accepted says only that it is not so that refusal 8 holds. What can be packed is told by numbers, so this is enough.
module _ {e : Enlarged} (n : (Packable e → ⊥) → ⊥) where
  at_most : (a b : ℕ) → (Packable e → a ≤ b) → Dec (b < a) → a ≤ b
  at_most a b f (yes h) = absurd (n (λ p. omega (arith, f p)))
  at_most a b f (no h) = omega arith

  le : (a b : ℕ) → (Packable e → a ≤ b) → a ≤ b
  le a b f = at_most a b f (dec_lt b a)

  eq : (a b : ℕ) → (Packable e → a ≡ b) → a ≡ b
  eq a b f = omega (arith, le a b (λ p. omega (arith, f p)), le b a (λ p. omega (arith, f p)))

  packs_after_all : Packable e
  packs_after_all = record {
    code = record {
      words = eq _ _ (λ p. p.code.words);
      rows = eq _ _ (λ p. p.code.rows);
      begins = eq _ _ (λ p. p.code.begins);
      symbols = λ k h. eq _ _ (λ p. p.code.symbols k h);
      len = λ k h. le _ _ (λ p. p.code.len k h);
      entries = λ x h. eq _ _ (λ p. p.code.entries x h);
      count = le _ _ (λ p. p.code.count);
    };
    originals = le _ _ (λ p. p.originals);
    origins = eq _ _ (λ p. p.origins);
    behind = eq _ _ (λ p. p.behind);
  }

module _ {v : Enlarged} {s : List ℕ} {x : Enlargement} where
  pub list_accepted : Enlarges limits v s x → x.answer ≡ Ok tt → Enlarges limits v s (record { answer = Ok tt; enlarged = x.enlarged })
  list_accepted g a = subst (λ (y : Result Unit Refusal). Enlarges limits v s (record { answer = y; enlarged = x.enlarged })) a g

  not_refused_8 : Enlarges limits v s x → x.answer ≡ Ok tt → (WithoutCopies limits v → ⊥) → ⊥
  not_refused_8 (refused {r} h d) a =
      let b : (Ok tt) ≡ Err r = sym a ∙ ap (λ (y : Enlargement). y.answer) d in
      let y : ◌≡◌ {A = ℕ} 0 1 = cc in
      absurd (omega arith)
  not_refused_8 (enlarged h d) a = h.1.0

  pub list_packs : Enlarges limits v s x → x.answer ≡ Ok tt → Packable x.enlarged
  list_packs g a =
      packs_after_all
      (λ no. not_refused_8 g a
      (λ p. no (packs (from_lists (record {
        table = v.code;
        given = p.given;
        list = s;
        gives = subst (λ (w : Enlarged). Enlarges limits w s (record { answer = Ok tt; enlarged = x.enlarged })) p.plain (list_accepted g a);
      })))))
