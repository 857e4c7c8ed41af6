-- 0 bytes and wrong bytes first; then the body without a final CR LF, whose records decide.
use Rattle.std.proofs.Common.{sym, ◌∙◌, eqb-true}
use Rattle.std.proofs.lemmas.Bool.{eqb-false}
use native.Mathlib.Omega.{arith}
use lib.Seq.{length-take-le}
use Rattle.code.specs.Laws.Clean.{clean_body}
use Rattle.ban_list.proofs.Laws.Passing.{list_empty, list_bytes, list_records}
use borrow.Author.Rules.{rules}
use Rattle.ban_list.proofs.read_bans.Goals as goal

pub returns-then-is_empty : goal.returns-then-is_empty
returns-then-is_empty c = (list_empty _ _ _ (eqb-true _ 0 (sym c.is_empty.ensures ∙ c.if-is_empty.true)), search rules)

pub returns-then-bad_bytes : goal.returns-then-bad_bytes
returns-then-bad_bytes c = (search list_bytes, search rules)

pub slice_bounds-read_records-end : goal.slice_bounds-read_records-end
slice_bounds-read_records-end c = let s = c.before.before.before.before.before.before.before.args.list.now in
    sym (length-take-le _ s c.body_len-e.ensures.1)

pub read_records-requires : goal.read_records-requires
read_records-requires c = let s = c.before.before.before.before.before.before.before.before.args.list.now in
    let b = c.body_len-e.ensures in (
      rw b.0 (clean_body s (sym c.bad_bytes.ensures ∙ c.if-bad_bytes.false)),
      search rules,
      omega (arith, length-take-le _ s b.1, b.1),
    )

pub returns : goal.returns
returns c = (list_records _ _ _ _ c.body_len-e.ensures.0 (eqb-false _ 0 (sym c.is_empty.ensures ∙ c.if-is_empty.false)) c.bad_bytes.ensures c.if-bad_bytes.false c.read_records.ensures, search rules)
