use Rattle.hg_shards.proofs.Passing.{passes_over}
use Rattle.hg_shards.proofs.shard.Shard.pass_all.Goals as goal

pub returns : goal.returns
returns c = passes_over c.args.self.now c.pass_all.new.self c.args.source c.args.count c.requires.ready c.pass_all.ensures
