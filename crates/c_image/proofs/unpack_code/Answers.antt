-- Each word and each row is what its closure reads at its number.
use borrow.Author.Rules.{rules}
use borrow.Author.Tests.{tests}
use native.Mathlib.Omega.{arith}
use Rattle.code.specs.Definitions.Tables.{no_word, no_row}
use Rattle.code.specs.Laws.Lists.{tabulate_list}
use Rattle.c_image.specs.Image.{word_number, row_number, code_in}
use Rattle.c_image.proofs.Laws.Unpacking.{from_fn_at}
use Rattle.c_image.proofs.unpack_code.Goals as goal

pub returns : goal.returns
unfolding code_in
returns c =
    let b = c.args.table.now in
    let words = c.from_fn-words.ensures.items in
    let rows = c.from_fn-rows.ensures.items in
    let ws = tabulate_list (word_number b) 32 c.from_fn-words.result no_word words.long
    (λ k h. from_fn_at _ _ (word_number b) c.from_fn-words.result no_word (λ x y q d. search (rules, tests)) 32 0 words.each k (omega arith) (omega arith)) in
    let rs = tabulate_list (row_number b) 32 c.from_fn-rows.result no_row rows.long
    (λ k h. from_fn_at _ _ (row_number b) c.from_fn-rows.result no_row (λ x y q d. search (rules, tests)) 32 0 rows.each k (omega arith) (omega arith)) in
    rw (ws, rs) (cc)
