use Rattle.hg_contents.specs.Images.{start_of}
use Rattle.hg_images.proofs.Contents.{keeps_content}
use Rattle.hg_images.proofs.GivingUp.{as_before, given_up}
use Rattle.hg_images.proofs.laws.giving_up_gives_the_same.Goals as goal

pub returns-clause-gives : goal.returns-clause-gives
returns-clause-gives c checkpoint base next events content number counts = (
  given_up (start_of checkpoint) content base next events number.0 counts,
  as_before (start_of checkpoint) content base next events number.0 counts number.1,
)

pub returns-clause-images : goal.returns-clause-images
returns-clause-images c = keeps_content
