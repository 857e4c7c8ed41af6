-- The two ways to say what the delay is agree, for tables with bans and without: whether two sequences share N symbols can be decided.
use Rattle.std.specs.Prelude.{◌↔◌, ℕ}
use Rattle.code.specs.Definitions.Tables.{Table}
use Rattle.code.specs.Definitions.Delays.{Delay, LeastAlike}
use Rattle.code.proofs.Laws.Delays.{delay_least, least_delay}
use Rattle.code.specs.Laws.Sequences.{NonEmpty}
use Rattle.ban_theory.specs.Everywhere.{decide_sharing}

-- Demand 3 and the words of 01 define the same delay, for non-empty words.
pub delay_iff : {t : Table} {N : ℕ} → NonEmpty t → Delay t N ↔ LeastAlike t N
delay_iff {t} nonempty = (delay_least, least_delay (λ M. decide_sharing t M nonempty))
