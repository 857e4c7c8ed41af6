-- `leads` is `leads_behind`, by whether the word begins with the symbol.
use Rattle.pair_slots.specs.Words.{leads_by, leads_other}
use Rattle.pair_slots.proofs.meeting.leads.Goals as goal

pub returns-then-first_symbol-symbol : goal.returns-then-first_symbol-symbol
returns-then-first_symbol-symbol c = search leads_by

pub returns : goal.returns
returns c = search leads_other
