use Rattle.std.proofs.Common.{refl}
use Rattle.hg_shards.proofs.Judging.{begins_lem}
use Rattle.hg_shards.proofs.judge.Judge.new.Goals as goal

pub returns-clause-begins : goal.returns-clause-begins
returns-clause-begins c = begins_lem c.args.count c.args.most_sets _ c.requires.some c.requires.least c.in_ok-new.ensures.begins refl refl refl
