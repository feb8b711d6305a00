-- The detector of a store that is recovered.
use Rattle.std.specs.Prelude.{◌≡◌, [], All}
use Rattle.hg_detect.specs.Engine.{AtPresent}
use Rattle.hg_detect.specs.Shown as detect
use Rattle.hg_disk.specs.declared.disk.Disk as disk
use Rattle.hg_pool.specs.Kept.{Extends, IsFaithful}
use Rattle.hg_pool.specs.Maps as pools
use Rattle.hg_pool.specs.Shown as pool
use Rattle.hg_root.specs.Grammar.{SetFits}
use Rattle.hg_contents.specs.States.{IsLawfulState}
use Rattle.hg_checkpoint.specs.declared.limits.Limits.{Limits}

-- The detector can go on, and its content may go into a root.
pub record IsReady {D : Type 0} (g : disk.Ghosts D) (d : detect.ShownDetector (pool.ShownPool D)) : Type 0 where
  pub faithful : AtPresent (IsFaithful g) d
  pub state : IsLawfulState (detect.content (pools.live g) d)
  pub spelled : All SetFits d.sets.sets

-- The detector keeps at most so many pages in memory, and has room for so many slots and sets.
pub record HasSize {D : Type 0} (limits : Limits) (d : detect.ShownDetector (pool.ShownPool D)) : Type 0 where
  pub frames : d.words.most_frames ≡ limits.frames
  pub slots : d.words.slots ≡ limits.slots
  pub sets : d.sets.limit ≡ limits.sets

-- No page of the pool waits for a checkpoint, and each slot of the newest root is one of the frozen map.
pub record IsAtRest {D : Type 0} (p : pool.ShownPool D) : Type 0 where
  pub none_waits : p.waiting ≡ []
  pub frozen : Extends p.root p.frozen
