-- The marks, the start's mark and the byte for openings stand behind what was laid out.
use Rattle.code.specs.Definitions.Sheets.{limits}
use Rattle.pair_endings.specs.Laying.{zeros_unmarked, all_laid}
use borrow.Author.Rules.{rules}
use Rattle.pair_endings.proofs.lay_out.Goals as goal

pub mark_endings-requires : goal.mark_endings-requires
mark_endings-requires c = (search rules, search rules, zeros_unmarked limits.words)

pub returns : goal.returns
returns c =
    all_laid c.lay_out-places.ensures c.opening-opens.ensures c.mark_endings.ensures c.copy_at.ensures
