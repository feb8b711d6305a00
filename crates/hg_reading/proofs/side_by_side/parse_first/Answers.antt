use Rattle.hg_reading.proofs.Pushing.{held_alone}
use Rattle.hg_reading.proofs.side_by_side.parse_first.Goals as goal

pub returns : goal.returns
returns g c = held_alone g.Q.Queue.held c.args.parts.now c.parse.new.self c.args.text.now c.requires c.parse.ensures
