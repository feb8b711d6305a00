use Rattle.hg_shards.proofs.Offering.{shard_begins}
use Rattle.hg_shards.proofs.shard.Shard.new.Goals as goal

pub returns-clause-begins : goal.returns-clause-begins
returns-clause-begins c =
    let made = c.in_ok-detector.ensures in
    shard_begins c.args.count c.args.part c.args.most_sets c.in_ok-detector.detector c.in-Ok.log c.requires.part made.whole c.requires.least made.content made.sets c.in-Ok.ensures
