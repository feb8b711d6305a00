use Rattle.hg_shards.proofs.Totals.{total_at}
use Rattle.hg_shards.proofs.judge.Judge.total.Goals as goal

pub returns : goal.returns
returns c = total_at c.args.self.now c.as_slice.result.now c.total_up_to_most.result c.as_slice.ensures c.total_up_to_most.ensures
