use Rattle.std.proofs.Common.{map}
use Rattle.std.specs.List.{AllByRecursion}
use Rattle.hg_shards.specs.Merging.{Rises}
use Rattle.hg_test_detector.proofs.tests.merging.lists_of.Given as goal

abbrev pub invariant-loop-shard : goal.invariant-loop-shard
invariant-loop-shard g l = AllByRecursion Rises (map (λ list. list.items) l.lists.items)
