use Rattle.hg_contents.proofs.lawful.Heads.{detector_head}
use Rattle.hg_contents.proofs.laws.a_detector_has_a_lawful_head.Goals as goal

pub returns : goal.returns
returns g c = detector_head g.W.Words.cell_of
