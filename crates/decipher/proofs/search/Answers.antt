-- `search` meets its contract: the search for the message is lent what it needs (`lent_marks`, `lent_queue`, `lent_message`), a message that was found has two readings
-- and fits (`found_two`, `found_short`), the cleared list is lent to the search for the delay (`lent_again`), and each way gives the verdict that it decides.
use borrow.Author.Rules.{rules}
use mathlib.Core.Path.{◌≡◌}
use native.Mathlib.Omega.{arith}
use lib.ListN.{length}
use Rattle.decipher.specs.Found.{found_inside, found_long, found_two, found_short}
use Rattle.decipher.specs.Lent.{lent_marks, lent_queue, lent_message, lent_again, read_few, read_within}
use Rattle.decipher.specs.Decided.{decided_ambiguous, decided_decipherable}
use Rattle.decipher.proofs.search.Goals as goal

pub shortest-requires : goal.shortest-requires
shortest-requires c =
    let s = c.requires in
    (s.laid.laid, s.laid.numbered, lent_marks s, lent_queue s, lent_message s)

pub slice_bounds-ambiguous-end : goal.slice_bounds-ambiguous-end
slice_bounds-ambiguous-end c = search (rules, found_inside)

pub slice_bounds-ambiguous-end-in-Some : goal.slice_bounds-ambiguous-end-in-Some
slice_bounds-ambiguous-end-in-Some c = search (rules, found_long)

pub ambiguous-requires : goal.ambiguous-requires
ambiguous-requires c =
    let long : length c.shortest.new.work ≡ length c.args.work.now = omega arith in
    let few = read_few c.requires in
    let within = read_within c.requires c.shortest.new.work long in
    (search rules, search found_two, search (few, found_short), search rules, search rules, search (within, found_short))

pub decipherable-requires : goal.decipherable-requires
decipherable-requires c =
    let long : length c.shortest.new.work ≡ length c.args.work.now = omega arith in
    lent_again c.requires c.shortest.new.work long (c.fill.ensures.after (λ y e. e))

pub returns-in-Some : goal.returns-in-Some
returns-in-Some c = search decided_ambiguous

pub returns-in-None : goal.returns-in-None
returns-in-None c =
    let long : length c.fill.new.self ≡ length c.args.work.now = omega arith in
    decided_decipherable c.requires.value c.requires.laid c.requires.ended c.shortest.ensures long c.in-None.is c.decipherable.ensures
