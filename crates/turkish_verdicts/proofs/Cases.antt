-- 01's cases 11 and 12 hold, of the codes that types and rules make.
use Rattle.std.specs.Prelude.{◌≡◌, refl, true}
use Rattle.std.proofs.Math.Bool.{and-eq-true_iff}
use Rattle.code.specs.Definitions.Delays.{Delay}
use Rattle.code.specs.Definitions.Readings.{Ambiguous, Decipherable}
use Rattle.code.specs.Definitions.Tables.{table_of}
use Rattle.cases.specs.Cases.{check_table}
use Rattle.cases.proofs.Cases.{sound_table}
use Rattle.turkish_verdicts.specs.Cases.{twelve, six, message_twelve, first_twelve, second_twelve, expected_twelve, expected_six, both_checked}

each_checked : (check_table (table_of twelve) expected_twelve ≡ true) × (check_table (table_of six) expected_six ≡ true)
each_checked = (and-eq-true_iff (check_table (table_of twelve) expected_twelve) (check_table (table_of six) expected_six)).0 both_checked

pub twelve_ambiguous : Ambiguous (table_of twelve) message_twelve first_twelve second_twelve
twelve_ambiguous = sound_table (table_of twelve) (λ x y z. refl) expected_twelve each_checked.0

pub six_delay : Decipherable (table_of six) × Delay (table_of six) 5
six_delay = sound_table (table_of six) (λ x y z. refl) expected_six each_checked.1
