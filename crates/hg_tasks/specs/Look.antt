-- What a `LookDisk` shows.
use Rattle.std.specs.Prelude.{ℕ, Bool, List}
use Rattle.hg_disk.specs.State.{DiskState}
use Rattle.hg_disk.specs.History.{failures_in, reads_were_true, replay, states_before}
use Rattle.hg_disk.specs.System.{bytes_at_opening}
use Rattle.hg_tasks.specs.Looking.{calls_in}
use Rattle.hg_tasks.specs.declared.look.LookDisk.{LookDisk}

-- its state, from the bytes that stood in the file when it was opened
abbrev pub look_state : LookDisk → DiskState
look_state d = replay (bytes_at_opening d.opened_len d.opened) (calls_in d.events)

abbrev pub look_past : LookDisk → List DiskState
look_past d = states_before (bytes_at_opening d.opened_len d.opened) (calls_in d.events)

abbrev pub look_failures : LookDisk → ℕ
look_failures d = failures_in (calls_in d.events)

-- whether each read that answered Ok gave the bytes of its moment
abbrev pub look_reads_were_true : LookDisk → Bool
look_reads_were_true d = reads_were_true (bytes_at_opening d.opened_len d.opened) (calls_in d.events)
