use Rattle.hg_shards.specs.Reading.{heads_upto}
use Rattle.hg_shards.proofs.Reading.{IsBestAt}
use Rattle.hg_shards.proofs.cursor.next_part.Given as goal

abbrev pub invariant-loop-k : goal.invariant-loop-k
invariant-loop-k l = IsBestAt (heads_upto l.last l.shards l.given) l.best l.k l.place
