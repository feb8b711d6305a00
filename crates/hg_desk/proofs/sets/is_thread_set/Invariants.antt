use Rattle.std.proofs.Common.{◌↔◌, ◌≤◌, drop}
use Rattle.hg_model.specs.ThreadSets.{IsThreadSet, RisesFrom}
use Rattle.hg_desk.proofs.sets.is_thread_set.Given as goal

abbrev pub invariant-loop-number : goal.invariant-loop-number
invariant-loop-number l = record {
  least : l.least ≤ 1024;
  rises : IsThreadSet l.numbers ↔ RisesFrom l.least (drop l.number-index l.numbers);
}
