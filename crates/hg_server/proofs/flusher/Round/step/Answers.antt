use Rattle.hg_server.proofs.Flushing.{other_kept}
use Rattle.hg_server.proofs.flusher.Round.step.Goals as goal

pub returns : goal.returns
returns g c = record {
  told = (
    c.make.ensures.told.0,
    c.make.ensures.told.1,
    other_kept c.args.step c.make.result c.args.self.now.seat.share c.make.new.self.seat.share c.requires.opens_none c.make.ensures.listed,
  );
}
