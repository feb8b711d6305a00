use Rattle.std.proofs.Common.{◌≡◌, ◌≤◌, ◌++◌, replicate}
use Rattle.std.specs.Prelude.{vec_capacity}
use Rattle.hg_detect.proofs.plan.add_run.Given as goal

-- so many are added so far
abbrev pub invariant-loop : goal.invariant-loop
invariant-loop l = (l.plan.items ≡ l.fn.plan.items ++ replicate l.counter l.planned) × (17 ≤ vec_capacity l.plan)
