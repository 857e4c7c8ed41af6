-- The ways through the verdict: refused with 8, then with 13, else what was decided.
use Rattle.std.specs.Prelude.{Err, Ok}
use mathlib.Core.Path.{◌≡◌, refl}
use mathlib.Core.Bool.{Bool, true, false}
use mathlib.Core.List.{List}
use mathlib.Core.Logic.{inl, inr}
use Prim.Native.Nat.{ℕ}
use lib.ListN.{length}
use Rattle.code.specs.declared.Enlarged.{Enlarged}
use Rattle.code.specs.declared.Refusal.TheVariants.{NotFromSheet, ShortBuffer}
use Rattle.code.specs.declared.Verdict.{Verdict}
use Rattle.code.specs.Definitions.Enlarged.{original_table}
use Rattle.code.specs.Definitions.Operations.{FromLists, Judges, refused, judged}
use Rattle.code.specs.Definitions.Sheets.{limits}
use Rattle.code.specs.Laws.Exactly.{Exactly}
use Rattle.decipher.specs.Buffers.{Short}
use Rattle.decipher.specs.Decided.{Decided}

module _ {e : Enlarged} {t : Bool} {m f g w : List ℕ} (lists : Exactly t (FromLists limits e)) where
  -- No sheet and list give the value: 8.
  pub way_8 : t ≡ false → Judges limits e m f g w m f g w (Err NotFromSheet)
  way_8 h = refused (inl (lists.no h, refl)) refl refl refl refl

  module _ (given : t ≡ true) {k : Bool} (short : Exactly k (Short (length m) (length f) (length g) (length w))) where
    -- Some do, and a buffer is too short: 13.
    pub way_13 : k ≡ true → Judges limits e m f g w m f g w (Err ShortBuffer)
    way_13 h = refused (inr (λ n. n (lists.yes given), inl (short.yes h, refl))) refl refl refl refl

    -- All are long enough, and the verdict is decided.
    pub way_judged : {m' f' g' w' : List ℕ} {v : Verdict} → k ≡ false → Decided (original_table e) m f g w m' f' g' w' v → Judges limits e m f g w m' f' g' w' (Ok v)
    way_judged h d =
        judged d.x d.s d.u (λ n. n (lists.yes given), (short.no h, tt)) d.means d.shown d.work
