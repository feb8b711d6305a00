use Rattle.hg_detect.proofs.Counting.{passing_all_sound}
use Rattle.hg_detect.proofs.engine.Engine.pass_all.Goals as goal

pub returns-clause-sound : goal.returns-clause-sound
returns-clause-sound g c = passing_all_sound c.args.self.now c.follow_accesses.new.self c.args.source c.args.count c.requires.sound c.follow_accesses.ensures
