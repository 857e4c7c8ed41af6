-- Lists of the same records forbid the same, and the values of lists that forbid the same are alike.
use Rattle.std.specs.Prelude.{◌≡◌, List, ◌↔◌, ℕ}
use Rattle.std.proofs.Common.{sym, ◌∙◌, subst}
use Rattle.std.proofs.Math.Path.{fun_ext}
use Rattle.code.specs.declared.Enlarged.{Enlarged}
use Rattle.code.specs.declared.Limits.{Limits}
use Rattle.code.specs.declared.Verdict.{Verdict}
use Rattle.code.specs.Definitions.Tables.{Permitted, table_of}
use Rattle.code.specs.Definitions.Answers.{VerdictMeans}
use Rattle.code.specs.Definitions.Bans.{is_ban, with_bans}
use Rattle.code.specs.Definitions.BanLists.{ban_of, bans_of}
use Rattle.code.specs.Definitions.Enlarged.{original_table}
use Rattle.code.specs.Definitions.Operations.{FromLists}
use Rattle.ban_meaning.specs.Alike.{Alike, alike_back, alike_on, same_verdict}
use Rattle.ban_meaning.specs.Given.{table_with}
use Rattle.ban_meaning.proofs.Given.{lists_alike}
use Rattle.ban_meaning.specs.Members.{any_same}
use Rattle.ban_meaning.specs.SameBans.{SameBans, SameRecords, banned_records}

-- Lists of the same records forbid the same.
pub records_bans : (s u : List ℕ) → SameRecords s u → SameBans (bans_of s) (bans_of u)
records_bans s u r x y z = banned_records s x y z ∙ any_same (λ f. is_ban x y z (ban_of f)) r ∙ sym (banned_records u x y z)

module _ {l : Limits} {e d : Enlarged} (f : FromLists l e) (g : FromLists l d) (table : f.table ≡ g.table) (bans : SameBans (bans_of f.list) (bans_of g.list)) where
  same_table : table_with f.table f.list ≡ table_with g.table g.list
  same_table = λ i. with_bans (table_of (table i)) (fun_ext (λ x. fun_ext (λ y. fun_ext (λ z. bans x y z))) i)

  -- Two values of one sheet, by lists that forbid the same, are alike:
  pub lists_same : Alike (original_table e) (original_table d)
  lists_same = alike_on (subst (Alike (original_table e)) same_table (lists_alike f)) (alike_back (lists_alike g))

  -- they permit the same sequences,
  pub permitted_same : (s : List ℕ) → Permitted (original_table e) s ↔ Permitted (original_table d) s
  permitted_same = lists_same.permitted

  -- and have the same verdict. (What else two alike tables share is said in Alike.)
  pub verdicts_same : (m s w : List ℕ) (v : Verdict) → VerdictMeans (original_table e) m s w v ↔ VerdictMeans (original_table d) m s w v
  verdicts_same = same_verdict lists_same
