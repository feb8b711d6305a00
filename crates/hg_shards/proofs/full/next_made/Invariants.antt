use Rattle.hg_shards.specs.Filling.{heads_of}
use Rattle.hg_shards.proofs.Together.{IsBest}
use Rattle.hg_shards.proofs.full.next_made.Given as goal

abbrev pub invariant-loop-k : goal.invariant-loop-k
invariant-loop-k l = IsBest (heads_of l.parts l.taken) l.taken l.k l.best
