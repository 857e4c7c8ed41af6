-- The lists that are made zero become the code's sets, by which the words are read.
use mathlib.Core.Path.{refl}
use native.Mathlib.Omega.{arith}
use Rattle.code.specs.Definitions.Tables.{table_of}
use Rattle.text_split.proofs.split_by.Goals as goal

pub lay-longest-requires : goal.lay-longest-requires
lay-longest-requires c = (c.requires.0, refl, refl, refl, omega arith)

pub split_words-requires : goal.split_words-requires
split_words-requires c =
    (record { table = table_of c.args.code; lays = c.lay-longest.ensures }, c.requires.1)

pub returns : goal.returns
returns c =
    c.split_words.ensures.all (table_of c.args.code) c.lay-longest.ensures
