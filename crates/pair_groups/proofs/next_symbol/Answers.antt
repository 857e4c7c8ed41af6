use borrow.Author.Rules.{rules}
use Rattle.pair_groups.specs.Carrying.{known_high}
use Rattle.pair_groups.specs.Symbols.{none_led_begin, none_led_more, none_led_end}
use Rattle.pair_groups.proofs.next_symbol.Goals as goal

pub loop-member-init : goal.loop-member-init
loop-member-init c = (search none_led_begin, search rules)

pub sooner-least-requires : goal.sooner-least-requires
sooner-least-requires c = (search rules, search known_high, search rules)

pub loop-member-preserved : goal.loop-member-preserved
loop-member-preserved c = (search none_led_more, search rules)

pub returns : goal.returns
returns c = (search none_led_end, search rules)
