-- Where no bans are, two sequences that part behind a shared opening and then share N symbols are rivals and what follows them.
use Rattle.std.specs.Prelude.{◌↔◌, ℕ}
use Rattle.code.specs.Definitions.Tables.{Table}
use Rattle.code.specs.Definitions.Delays.{SharePrefix}
use Rattle.code.specs.Laws.Sequences.{Free}
use Rattle.code.specs.Laws.Openings.{RivalsShare, rivals_open, open_rivals}

module _ {t : Table} {N : ℕ} where
  pub share→rivals : SharePrefix t N → RivalsShare t N
  share→rivals r =
      record { x = r.x; s = r.s; y = r.y; u = r.u; parted = open_rivals r.o r.left r.right; differ = r.differ; share = r.share }

  pub rivals→share : Free t → RivalsShare t N → SharePrefix t N
  rivals→share free r =
      let z = rivals_open free r.parted.rivals in
      record {
        o = z.o;
        x = r.x;
        s = r.s;
        y = r.y;
        u = r.u;
        left = z.left r.s r.parted.left;
        right = z.right r.u r.parted.right;
        differ = r.differ;
        share = r.share;
      }

  -- Without bans sequences that share an opening, and then N symbols, are rivals and what follows them.
  pub share_rivals : Free t → SharePrefix t N ↔ RivalsShare t N
  share_rivals free = (share→rivals, rivals→share free)
