-- A disk whose images stay what they were.
use Rattle.hg_disk.specs.State.{IsImage}
use Rattle.hg_disk.specs.Moments.{LeavesOnly}
use Rattle.hg_disk.specs.declared.disk.Disk as disk
use Rattle.hg_disk.proofs.Moments.{at_end, joined, started, weaker}

module _ {D : Type 0} (g : disk.Ghosts D) where
  abbrev pub Stays : D → D → Type 0
  Stays old new = LeavesOnly g old new (IsImage (g.state old))

  -- a disk that is not called
  pub same : (d : D) → Stays d d
  same d = started g d (IsImage (g.state d)) (λ image is. is)

  pub then : (old mid new : D) → Stays old mid → Stays mid new → Stays old new
  then old mid new one two = joined g old mid new (IsImage (g.state old)) one (weaker g mid new (IsImage (g.state mid)) (IsImage (g.state old)) two (at_end g old mid (IsImage (g.state old)) one))
