-- The values that a sheet and a ban list give are just the well-enlarged ones: an accepted list has its bans, and a list is written for the bans of a value.
use Rattle.std.specs.Prelude.{◌≡◌, Bool, true, false, List, ◌↔◌, ℕ, ◌+◌, ◌-◌, ◌*◌, ◌≤◌, ltb, length, Err, Ok}
use Rattle.std.proofs.Math.Path.{refl, sym}
use Rattle.std.proofs.Common.{ap, ◌∙◌, mul-le-mul, arith, ltb-false}
use Rattle.std.proofs.Math.Bool.{true≢false}
use Rattle.code.specs.declared.Enlarged.{Enlarged}
use Rattle.code.specs.declared.Enlargement.{Enlargement}
use Rattle.code.specs.declared.Refusal.{Refusal}
use Rattle.code.specs.declared.Limits.{Limits}
use Rattle.code.specs.declared.Code.{Code}
use Rattle.code.specs.Definitions.Lists.{any, tabulate}
use Rattle.code.specs.Definitions.Sheets.{limits}
use Rattle.code.specs.Definitions.BanLists.{refused16, bans_of}
use Rattle.code.specs.Definitions.Enlarged.{plain_of, refused17}
use Rattle.code.specs.Definitions.Operations.{Enlarges, refused, enlarged, FromLists}
use Rattle.code.specs.Laws.Lists.{length-tabulate, get_d_tabulate, any_at}
use Rattle.ban_writing.specs.Lists.{print, print_accepted, print_short, bans_back}
use Rattle.ban_writing.specs.Named.{listed_known, listed_apart}
use Rattle.code.specs.Laws.Exactly.{Exactly, exactly_iff}
use Rattle.well_formed.specs.Given.{well}
use Rattle.well_formed.specs.Round.{from_sheet}
use Rattle.well_formed.specs.Written.{Roomy}
use Rattle.code.specs.Laws.WellFormed.{WellFormed}
use Rattle.well_enlarged.specs.WellEnlarged.{WellEnlarged}
use Rattle.well_enlarged.specs.FromBans.{FromBans}
use Rattle.well_enlarged.specs.Made.{from_bans}
use Rattle.well_enlarged.specs.Back.{to_bans, few_bans}

-- A list has room for the bans of every value, at ten bytes a ban: two digits for each number, two commas, and the CR LF.
pub record RoomyLists (l : Limits) : Type 0 where
  pub digits : l.words ≤ 100
  pub bytes : (k : ℕ) → k ≤ l.words → 10 * ((l.words - k) * k) ≤ l.bytes

pub never_true : (b : Bool) → (b ≡ true → ⊥) → b ≡ false
never_true true n = absurd (n refl)
never_true false n = refl

-- A list that is accepted is not refused.
pub accepted_never : {e d : Enlarged} {r : Refusal} → ◌≡◌ {A = Enlargement} (record { answer = Ok tt; enlarged = e }) (record { answer = Err r; enlarged = d }) → ⊥
accepted_never {r = r} x =
    let a : (Ok tt) ≡ Err r = ap (λ (y : Enlargement). y.answer) x in
    let y : ◌≡◌ {A = ℕ} 0 1 = cc in
    omega arith

module _ {l : Limits} {e : Enlarged} where
  -- the bans that an accepted list gives
  unfoldable pub given_by : (c : Code) (s : List ℕ) → WellFormed l c → Enlarges l (plain_of l c) s (record { answer = Ok tt; enlarged = e }) → FromBans l e
  unfolding plain_of
  given_by c s w (refused h x) = absurd (accepted_never x)
  given_by c s w (enlarged h x) =
      let listed = never_true (refused16 c.count s) h.1.1.0 in
      record {
        base = c;
        given = w;
        bans = bans_of s;
        known = listed_known c.count s listed;
        apart = listed_apart c.count s listed;
        room = never_true (refused17 l c (bans_of s)) h.1.1.1.0;
        same = sym (ap (λ (y : Enlargement). y.enlarged) x);
      }

  -- What a sheet and a list give is well-enlarged.
  pub from_lists : FromLists l e → WellEnlarged l e
  from_lists f = from_bans (given_by f.table f.list (well f.given) f.gives)

  module _ (sheets : Roomy l) (lists : RoomyLists l) (w : WellEnlarged l e) where
    abbrev bans : FromBans l e
    bans = to_bans w

    few : bans.base.count ≤ 100
    few = omega (arith, bans.given.most, lists.digits)

    short : length (print bans.bans) ≤ l.bytes
    short =
        let most : (e.code.count - e.originals) * e.originals ≤ (l.words - e.originals) * e.originals =
        mul-le-mul {n₂ = l.words - e.originals} {m₂ = e.originals} (omega (arith, w.code.most)) (omega arith) in
        omega
        (arith, print_short bans.base.count few bans.bans bans.known, few_bans w, most, lists.bytes e.originals (omega (arith, w.numbers.most, w.numbers.room)))

    -- And a sheet and a list give every well-enlarged value.
    pub to_lists : FromLists l e
    unfolding plain_of
    to_lists =
        let back = bans_back bans.base.count few bans.bans bans.known in
        record {
          table = bans.base;
          given = from_sheet sheets bans.given;
          list = print bans.bans;
          gives =
              enlarged (
                (λ h. omega (arith, short)),
                (
                  (λ none. none (record { given = from_sheet sheets bans.given; plain = refl })),
                  ((λ h. true≢false (sym h ∙ print_accepted bans.base.count few bans.bans bans.known bans.apart)), ((λ h. true≢false (sym (rw back at h) ∙ bans.room)), tt)),
                ),
              )
              (rw (back, bans.same));
        }

-- The values that a sheet and a list give are the well-enlarged ones.
pub well_enlarged_lem : {l : Limits} {e : Enlarged} → Roomy l → RoomyLists l → WellEnlarged l e ↔ FromLists l e
well_enlarged_lem sheets lists = (to_lists sheets lists, from_lists)

-- The limits of 01 have this room: no more than 256 bans, of 16 words and 16 copies, in 4,096 bytes. Every number of words is tried.
over : ℕ → Bool
over k = ltb limits.bytes (10 * ((limits.words - k) * k))

none_over : any over (tabulate (λ k. k) (limits.words + 1)) ≡ false
unfolding over any tabulate
none_over = refl

pub limits_lists : RoomyLists limits
unfolding over
limits_lists = record {
  digits = omega arith;
  bytes = λ k h.
      let below : over k ≡ false = rw (get_d_tabulate (λ i. i) (limits.words + 1) k 0 (omega arith)) at (any_at over (tabulate (λ i. i) (limits.words + 1)) 0 none_over k (rw (length-tabulate (λ (i : ℕ). i) (limits.words + 1)) (omega arith))) in
      ltb-false limits.bytes (10 * ((limits.words - k) * k)) below;
}

-- So a test of the value tells whether a sheet and a list give it.
pub lists_tested : {e : Enlarged} {a : Bool} → Exactly a (WellEnlarged limits e) → Exactly a (FromLists limits e)
lists_tested = exactly_iff (well_enlarged_lem (omega arith) limits_lists)
