use Rattle.hg_disk.proofs.Certain.{kept_by_images}
use Rattle.hg_disk.proofs.laws.kept_by_images.Goals as goal

pub returns : goal.returns
returns c = λ s at bytes now each. kept_by_images s at bytes each now
