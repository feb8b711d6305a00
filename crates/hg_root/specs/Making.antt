-- How making a pair of root files counts failed calls.
use Rattle.std.specs.Prelude.{◌≡◌, ◌+◌, Result}
use Rattle.hg_disk.specs.State.{counted}
use Rattle.hg_disk.specs.declared.disk.Disk as disk
use Rattle.hg_root.specs.Pairs.{first_after, second_after}
use Rattle.hg_root.specs.declared.pair.RootPair.{RootPair}

module _ {D : Type 0} (g : disk.Ghosts D) where
  -- After an `Err` one more call of the two disks has failed, after an `Ok` none.
  abbrev pub CountsMaking : (root0 root1 : D) → Result (RootPair D) (D × D) → Type 0
  CountsMaking root0 root1 result =
      g.failures (first_after result) + g.failures (second_after result) ≡ counted result (g.failures root0 + g.failures root1)
