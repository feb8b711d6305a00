-- What a disk over a file shows.
use Rattle.std.specs.Prelude.{ℕ, Bool, List}
use Rattle.hg_disk.specs.State.{DiskState}
use Rattle.hg_disk.specs.History.{failures_in, reads_were_true, replay, states_before}
use Rattle.hg_disk.specs.declared.positioned.PositionedFile as file
use Rattle.hg_disk.specs.declared.positioned.PositionedDisk.{PositionedDisk}

module _ {F : Type 0} (g : file.Ghosts F) where
  -- its state, from the bytes that stood in the file when it was opened
  abbrev pub state_of : PositionedDisk F g → DiskState
  state_of d = replay (g.opened d.file) d.history.events

  abbrev pub past_of : PositionedDisk F g → List DiskState
  past_of d = states_before (g.opened d.file) d.history.events

  abbrev pub failures_of : PositionedDisk F g → ℕ
  failures_of d = failures_in d.history.events

  -- whether each read that answered Ok gave the bytes of its moment
  abbrev pub reads_were_true_of : PositionedDisk F g → Bool
  reads_were_true_of d = reads_were_true (g.opened d.file) d.history.events
