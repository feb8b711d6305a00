-- How often a disk is called.
use Rattle.std.specs.Prelude.{◌≤◌, ◌+◌, ℕ, length}
use Rattle.hg_disk.specs.declared.disk.Disk as disk

module _ {D : Type 0} (g : disk.Ghosts D) where
  -- From `old` to `new` the disk was called n times at most: each call moves its clock on by one, whatever it answers.
  abbrev pub CallsAtMost : ℕ → D → D → Type 0
  CallsAtMost n old new = length (g.past new) ≤ length (g.past old) + n
