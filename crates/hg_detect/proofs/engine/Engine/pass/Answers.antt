use Rattle.hg_detect.proofs.Counting.{passing_content, passing_sound}
use Rattle.hg_detect.proofs.engine.Engine.pass.Goals as goal

pub returns-clause-sound : goal.returns-clause-sound
returns-clause-sound g c = passing_sound g.W.Words.cell_of c.args.self.now c.follow_access.new.self c.args.source c.args.number c.requires.sound c.requires.accepted c.follow_access.ensures

pub returns-clause-content : goal.returns-clause-content
returns-clause-content g c = passing_content g.W.Words.cell_of c.args.self.now c.follow_access.new.self c.args.source c.args.number c.requires.sound c.requires.accepted c.follow_access.ensures
