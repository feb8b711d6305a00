use Rattle.hg_commands.specs.FeedRunning.{place}
use Rattle.hg_commands.specs.TakingLaws.{takes_none}
use Rattle.hg_commands.proofs.feeding.FeedingSink.settle.Goals as goal

pub returns : goal.returns
returns g c = record {
  takes = takes_none g.D.Disk (place c.args.self.now.store c.args.self.now.fed c.args._output.now.calls) c.args.self.now.moments;
  settled = λ none. tt;
}
