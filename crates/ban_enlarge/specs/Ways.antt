-- Enlarging by a list, way by way: one lemma for each refusal, and one for what the bans give.
use Rattle.std.specs.Prelude.{◌≡◌, Bool, false, not, List, ℕ, ◌≤◌, ◌<◌, length, Some, if◌then◌else◌, Err, Ok}
use Rattle.std.proofs.Math.Path.{refl}
use Rattle.std.proofs.Common.{sym, ◌∙◌, inl, inr, arith}
use Rattle.std.proofs.Math.Bool.{true, true≢false}
use Rattle.std.proofs.lemmas.Bool.{not-true, not-false}
use Rattle.code.specs.declared.Enlarged.{Enlarged}
use Rattle.code.specs.declared.Enlargement.{Enlargement}
use Rattle.code.specs.declared.Limits.{Limits}
use Rattle.code.specs.declared.Refusal.{Refusal}
use Rattle.code.specs.declared.Refusal.TheVariants.{SheetLength, NotFromSheet, BanRecord, BanLimit}
use Rattle.code.specs.Definitions.BanLists.{refused16, bans_of}
use Rattle.code.specs.Definitions.Enlarged.{blank_enlarged, enlarged_code, enlargement, refused17}
use Rattle.code.specs.Definitions.Sheets.{limits}
use Rattle.code.specs.Definitions.Operations.{WithoutCopies, Enlarges, refused, enlarged}
use Rattle.ban_list.specs.Ensured.{Listed}
use Rattle.ban_theory.specs.BanLists.{Known}
use Rattle.ban_theory.specs.Triples.{bans_from}
use Rattle.ban_writing.specs.Named.{listed_known}
use Rattle.code.specs.Laws.Exactly.{Exactly}
use Rattle.well_formed.specs.Given.{well}
use Rattle.code.specs.Laws.WellFormed.{WellFormed}

-- The answer to a refused list.
abbrev pub refused_list : Limits → Refusal → Enlargement
refused_list l r = record { answer = Err r; enlarged = blank_enlarged l }

-- A table without copies is well-formed, of few words, and an accepted list bans words of it.
pub plain_few : {e : Enlarged} {a : Bool} → Exactly a (WithoutCopies limits e) → not a ≡ false → e.code.count ≤ 256
plain_few {a = a} t h = omega (arith, (well (t.yes (not-false a h)).given).most)

pub plain_formed : {l : Limits} {e : Enlarged} {a : Bool} → Exactly a (WithoutCopies l e) → not a ≡ false → WellFormed l e.code
plain_formed {a = a} t h = well (t.yes (not-false a h)).given

pub bans_known : (n : ℕ) (s numbers : List ℕ) (k : ℕ) → Listed (refused16 n s) (bans_of s) numbers (Some k) → Known n (bans_from numbers k)
bans_known n s numbers k b = rw b.1 (listed_known n s b.0)

module _ {l : Limits} {e : Enlarged} {s : List ℕ} {x : Enlargement} where
  pub way_long : l.bytes < length s → x ≡ refused_list l SheetLength → Enlarges l e s x
  way_long h d = refused (inl (h, refl)) d

  module _ (short : length s ≤ l.bytes) {a : Bool} (plain : Exactly a (WithoutCopies l e)) where
    pub way_copies : not a ≡ true → x ≡ refused_list l NotFromSheet → Enlarges l e s x
    way_copies h d = refused (inr ((λ n. omega arith), inl (plain.no (not-true a h), refl))) d

    module _ (h : not a ≡ false) where
      pub way_wrong : refused16 e.code.count s ≡ true → x ≡ refused_list l BanRecord → Enlarges l e s x
      way_wrong w d = refused (inr ((λ n. omega arith), inr ((λ n. n (plain.yes (not-false a h))), inl (w, refl)))) d

      pub way_bans : (numbers : List ℕ) (k : ℕ) → Listed (refused16 e.code.count s) (bans_of s) numbers (Some k)
          → x ≡ enlargement l e.code (bans_from numbers k) → Enlarges l e s x
      unfolding enlargement
      way_bans numbers k b d = by (refused17 l e.code (bans_of s)) refl (rw b.1 at d)
        where
          right : refused16 e.code.count s ≡ true → ⊥
          right q = true≢false (sym q ∙ b.0)

          by : (t : Bool) → refused17 l e.code (bans_of s) ≡ t → x ≡ (if t then refused_list l BanLimit else record { answer = Ok tt; enlarged = enlarged_code l e.code (bans_of s) })
              → Enlarges l e s x
          by true q k = refused (inr ((λ n. omega arith), inr ((λ n. n (plain.yes (not-false a h))), inr (right, inl (q, refl))))) k
          by false q k = enlarged ((λ n. omega arith), ((λ n. n (plain.yes (not-false a h))), (right, ((λ p. true≢false (sym p ∙ q)), tt)))) k
