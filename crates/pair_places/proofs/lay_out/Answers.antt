use mathlib.Core.Path.{sym}
use native.Mathlib.Omega.{arith}
use Rattle.code.specs.Definitions.Tables.{table_of}
use Rattle.pair_places.specs.Codes.{code_none, word_room, next_start, next_lays, places_fit, code_laid}
use Rattle.pair_places.specs.Bases.{base_none}
use Rattle.pair_places.proofs.lay_out.Goals as goal

pub loop-x-init : goal.loop-x-init
loop-x-init c =
    (sym (base_none (table_of c.args.code)), code_none c.args.code c.requires c.copy_at.new.to c.copy_at.ensures)

pub lay_word-requires : goal.lay_word-requires
lay_word-requires c =
    word_room c.args.code c.requires c.loop-x.x c.loop-x.at c.loop-x.places (omega arith) c.loop-x.invariant.0 c.loop-x.invariant.1

pub loop-x-preserved : goal.loop-x-preserved
loop-x-preserved c =
    let s = c.loop-x in (
      next_start c.args.code c.requires s.x s.at s.places (omega arith) s.invariant.0 s.invariant.1,
      next_lays c.args.code c.requires s.x s.at s.places (omega arith) s.invariant.0 s.invariant.1 c.lay_word.new.places
          c.lay_word.ensures,
    )

pub overflow_cast-places-2 : goal.overflow_cast-places-2
overflow_cast-places-2 c =
    omega (arith, places_fit c.args.code c.requires c.loop-x.x c.loop-x.at c.loop-x.places (omega arith) (omega arith) c.loop-x.invariant.0 c.loop-x.invariant.1)

pub returns : goal.returns
returns c =
    code_laid c.args.code c.requires c.loop-x.x c.loop-x.at c.loop-x.places (omega arith) (omega arith) c.loop-x.invariant.0 c.loop-x.invariant.1
