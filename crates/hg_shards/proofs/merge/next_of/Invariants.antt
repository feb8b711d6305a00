use Rattle.hg_shards.proofs.Taking.{IsBest}
use Rattle.hg_shards.proofs.merge.next_of.Given as goal

abbrev pub invariant-loop-k : goal.invariant-loop-k
invariant-loop-k l = IsBest l.heads l.best l.k
