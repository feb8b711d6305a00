use Rattle.std.proofs.Common.{refl}
use Rattle.hg_disk.specs.Kept.{image_of_write, image_of_cut}
use Rattle.hg_disk.specs.State.{after_sync}
use Rattle.hg_disk.proofs.Moments.{synced_image, same_images}
use Rattle.hg_disk.proofs.laws.images_of_calls.Goals as goal

pub returns : goal.returns
returns c = record { write = image_of_write; cut = image_of_cut; sync = λ s image bytes is. synced_image s (after_sync s) bytes refl image is; failed = same_images }
