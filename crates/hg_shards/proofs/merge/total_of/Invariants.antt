use Rattle.std.proofs.Common.{◌≡◌, sum, take}
use Rattle.hg_shards.proofs.merge.total_of.Given as goal

abbrev pub invariant-loop-count : goal.invariant-loop-count
invariant-loop-count l = l.total ≡ sum (take l.count-index l.totals)
