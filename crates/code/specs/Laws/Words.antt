-- The words of a well-formed code's table are those of its array: as many as it counts, each with the symbols and the length that stand there.
use Rattle.std.specs.Prelude.{◌≡◌, ℕ, ◌<◌, length, take, get_or}
use Rattle.std.proofs.Common.{ap, ◌∙◌, arith, length-take-le, get_or-take}
use Rattle.std.proofs.lemmas.List.{length-map}
use Rattle.std.proofs.Math.ListN.{get_or-map}
use Rattle.code.specs.declared.Code.{Code}
use Rattle.code.specs.declared.Limits.{Limits}
use Rattle.code.specs.Definitions.Tables.{size, word, symbols_of, no_word, table_of}
use Rattle.code.specs.Laws.WellFormed.{len_of, WellFormed}

module _ {l : Limits} {c : Code} (well : WellFormed l c) where
  pub size-count : size (table_of c) ≡ c.count
  size-count = length-map (take c.count c.words) symbols_of ∙ length-take-le c.count c.words (omega (arith, well.most, well.words))

  pub word_symbols : (x : ℕ) → x < c.count → word (table_of c) x ≡ symbols_of (get_or c.words x no_word)
  word_symbols x h = get_or-map symbols_of (take c.count c.words) x no_word ∙ ap symbols_of (get_or-take c.count c.words x no_word h)

  pub word-length : (x : ℕ) → x < c.count → length (word (table_of c) x) ≡ len_of c x
  word-length x h =
      let fits = well.word x (omega (arith, well.most)) in
      rw (word_symbols x h) (length-take-le (len_of c x) (get_or c.words x no_word).symbols (omega (arith, fits.short, fits.array)))
