use Rattle.hg_shards.specs.Sharding.{IsReady}
use Rattle.hg_test_detector.proofs.tests.shards.an_access_to_other_words_is_counted.Given as goal

abbrev pub invariant-loop-number : goal.invariant-loop-number
invariant-loop-number g l = IsReady l.shard.it
