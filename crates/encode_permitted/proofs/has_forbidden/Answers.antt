-- The loop goes from pair to pair; each way out is one of those through the walk.
use Rattle.std.proofs.Common.{◌≡◌, arith, rules, ℕ, ◌+◌, ◌-◌, ◌<◌, length, get_or}
use Rattle.std.specs.Slice.Iter.{windows_rest}
use Rattle.std.proofs.lemmas.Iterator.{window_more}
use Rattle.code.specs.Definitions.Sheets.{limits}
use Rattle.encode_permitted.proofs.Laws.Walk.{Opens, next_in, held_low, next_low, forbidden_here, walked_on, forbidden_nowhere}
use Rattle.encode_permitted.proofs.has_forbidden.Goals as goal
use Rattle.encode_permitted.proofs.has_forbidden.Goals.{After-number_in-next}

-- where the pair stands
abbrev at : (c : After-number_in-next) → ℕ
at c = length c.args.words.now - length (windows_rest c.loop-pair.pair-iterator)

record Turn (c : After-number_in-next) : Type 0 where
  more : at c + 1 < length c.args.words.now
  next : c.number_in-next.result ≡ next_in c.args.e (get_or c.args.words.now (at c) 0) (get_or c.args.words.now (at c + 1) 0)
  on : length c.args.words.now - length (windows_rest c.next.new.self) ≡ at c + 1

turn : (c : After-number_in-next) → Turn c
turn c =
    let inv = c.loop-pair.invariant in
    let t = window_more c.args.words.now c.loop-pair.pair-iterator c.next.new.self _ _ c.in-Some-pair.is c.next.ensures.steps (omega arith) inv.1 inv.2 in
    let zero : at c + 0 ≡ at c = omega arith in
    let first : get_or c.in-Some-pair.pair.now 0 0 ≡ get_or c.args.words.now (at c) 0 = rw zero at (t.3 0 0 (omega (arith, inv.0))) in
    let second : get_or c.in-Some-pair.pair.now 1 0 ≡ get_or c.args.words.now (at c + 1) 0 = t.3 1 0 (omega (arith, inv.0)) in
    record {
      more = omega (arith, inv.0, t.2);
      next = rw (c.from.ensures, c.from-in-loop-pair.ensures, first, second) at c.number_in-next.ensures;
      on = omega (arith, t.0, inv.1);
    }

row_low : (c : After-number_in-next) → c.number_in-next.result < limits.words
row_low c = next_low limits c.requires c.loop-pair.invariant.3 (turn c).more (turn c).next

pub bounds-e-next : goal.bounds-e-next
bounds-e-next c = row_low c

pub offset_bounds-e-next : goal.offset_bounds-e-next
offset_bounds-e-next c = omega (arith, row_low c)

pub bounds-row-last : goal.bounds-row-last
bounds-row-last c = held_low limits c.requires c.loop-pair.invariant.3

pub returns-then-row-last-ne1 : goal.returns-then-row-last-ne1
returns-then-row-last-ne1 c =
    let t = turn (goal.at.returns-then-row-last-ne1 c).After-number_in-next in
    forbidden_here limits c.requires c.loop-pair.invariant.3 t.more t.next c.if-row-last-ne1.true

pub loop-pair-preserved : goal.loop-pair-preserved
loop-pair-preserved c =
    let inv = c.loop-pair.invariant in
    let t = turn (goal.at.loop-pair-preserved c).After-number_in-next in
    let left = window_more c.args.words.now c.loop-pair.pair-iterator c.next.new.self _ _ c.in-Some-pair.is c.next.ensures.steps (omega arith) inv.1 inv.2 in (
      search rules,
      omega (arith, left.0),
      left.1,
      rw t.on (walked_on limits c.requires inv.3 t.more t.next c.if-row-last-ne1.false),
    )

pub returns : goal.returns
returns c =
    let inv = c.loop-pair.invariant in
    let opens : Opens c.args.e c.args.words.now = search rules in
    forbidden_nowhere limits c.requires inv.3 opens (omega (arith, inv.0, inv.1, c.in-None.ensures.steps.1.0))
