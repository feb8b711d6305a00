use Rattle.std.proofs.Common.{◌↔◌, drop}
use Rattle.std.specs.List.{AllByRecursion}
use Rattle.hg_model.specs.ThreadSets.{IsThreadSet}
use Rattle.hg_desk.proofs.sets.are_thread_sets.Given as goal

abbrev pub invariant-loop-report : goal.invariant-loop-report
invariant-loop-report l = AllByRecursion (λ r. IsThreadSet r.threads) l.reports ↔ AllByRecursion (λ r. IsThreadSet r.threads) (drop l.report-index l.reports)
