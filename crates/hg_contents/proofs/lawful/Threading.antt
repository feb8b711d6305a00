-- The threads of a report are numbers up to 1,023.
use Rattle.std.proofs.Common.{ℕ, ◌+◌, ◌≤◌, List, [], ◌∷◌, All}
use Rattle.std.specs.List.{AllByRecursion}
use Rattle.std.proofs.lemmas.List.Elements.{All-from_recursion}
use Rattle.hg_model.specs.declared.report.Report.{Report}
use Rattle.hg_model.specs.Contents.{Content}
use Rattle.hg_model.specs.ThreadSets.{IsThreadSet, RisesFrom}
use Rattle.hg_contents.specs.Lawful.{IsReportOf}
use Rattle.hg_contents.proofs.lawful.Lists.{each_with}
use Rattle.hg_contents.proofs.lawful.Reporting.{AreMade, IsMade}

pub all_small : (n : ℕ) (ts : List ℕ) → RisesFrom n ts → AllByRecursion (λ t. t ≤ 1023) ts
all_small n [] rises = tt
all_small n (t ∷ ts) rises = (rises.1, all_small (t + 1) ts rises.2)

report_is : (events : ℕ) (r : Report) → IsMade events r → IsThreadSet r.threads → IsReportOf events r
report_is events r made rises = record { event = made.event; word = made.word; member = made.member; threads = All-from_recursion (λ t. t ≤ 1023) r.threads (all_small 0 r.threads rises) }

pub reports_are : (c : Content) → AreMade c → AllByRecursion (λ r. IsThreadSet r.threads) c.reports → All (IsReportOf c.events) c.reports
reports_are c made sets = All-from_recursion (IsReportOf c.events) c.reports (each_with (IsMade c.events) (λ r. IsThreadSet r.threads) (IsReportOf c.events) (report_is c.events) c.reports made sets)
