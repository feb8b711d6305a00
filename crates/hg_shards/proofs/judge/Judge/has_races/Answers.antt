use Rattle.hg_shards.proofs.Totals.{races_at}
use Rattle.hg_shards.proofs.judge.Judge.has_races.Goals as goal

pub returns : goal.returns
returns c = races_at c.args.self.now c.as_slice.result.now c.has_reports.result c.as_slice.ensures c.has_reports.ensures
