-- What passes the check of cases is as it is expected, by the definitions.
use Rattle.std.specs.Prelude.{◌≡◌, refl, true}
use Rattle.std.proofs.Math.Bool.{and-eq-true_iff}
use Rattle.code.specs.Definitions.Tables.{Table}
use Rattle.code.specs.Laws.Sequences.{Free, Plain}
use Rattle.cases.proofs.Delays.{delay_means, without_bound_means}
use Rattle.cases.specs.Messages.{least_is}
use Rattle.cases.proofs.Messages.{ambiguous_means}
use Rattle.cases.specs.Enumeration.{readings}
use Rattle.cases.specs.Readings.{first_two_of, only_means, first_two_means}
use Rattle.cases.specs.Cases.{Expected, delay, without_bound, ambiguous, only_reading, Case, case_table, Means, Holds, is_non_empty, is_meant, check_table, check, non_empty}

-- What the check computes is so.
pub meant : (t : Table) → Plain t → (x : Expected) → is_meant t x ≡ true → Means t x
unfolding is_meant
meant t plain (delay N) e = delay_means t plain N e
meant t plain without_bound e = without_bound_means t plain e
meant t plain (ambiguous m s u) e =
    let a = (and-eq-true_iff (least_is t m) (first_two_of (readings t m) s u)).0 e in
    ambiguous_means t plain a.0 (first_two_means plain m s u a.1)
meant t plain (only_reading m s) e = only_means plain m s e

-- A table without bans of three words that passes the check is as expected,
pub sound_table : (t : Table) → Free t → (x : Expected) → check_table t x ≡ true → Means t x
unfolding check_table
sound_table t free x e =
    let a = (and-eq-true_iff (is_non_empty t) (is_meant t x)).0 e in
    meant t (record { some = non_empty t a.0; free = free }) x a.1

-- and a case that passes it holds.
pub sound : (c : Case) → check c ≡ true → Holds c
unfolding check
sound c e = sound_table (case_table c) (λ x y z. refl) c.expected e
