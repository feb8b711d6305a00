-- The states that a disk goes through under its calls.
use Rattle.std.specs.Prelude.{◌≡◌, ◌==◌, ℕ, ◌+◌, min, ◌&&◌, if◌then◌else◌, Bool, true, false, List, [], ◌∷◌, length, take, drop, Option, is_none}
use Rattle.std.specs.Str.{bytes_eq}
use Rattle.hg_disk.specs.State.{DiskState, settled, after_write, after_cut, after_sync}
use Rattle.hg_disk.specs.State.Change.{Written, CutTo}
use Rattle.hg_disk.specs.Event.{Event}
use Rattle.hg_disk.specs.declared.call.Call.{Call}
use Rattle.hg_disk.specs.declared.call.Call.TheVariants.{Read, Write, Cut, Sync}
use Rattle.hg_disk.specs.declared.call.Answer.{Answer}
use Rattle.hg_disk.specs.declared.call.Answer.TheVariants.{Done, Failed, Refused}

-- A write that failed counts as a write of its range, a cut that failed as a cut; neither changes what a read gives.
abbrev pub after_failed_write : ℕ → ℕ → DiskState → DiskState
after_failed_write at len s = record { contents = s.contents; synced = s.synced; since = Written (min at (length s.contents)) (at + len) ∷ s.since }

abbrev pub after_failed_cut : ℕ → DiskState → DiskState
after_failed_cut to s = record { contents = s.contents; synced = s.synced; since = CutTo to ∷ s.since }

-- the state after a call; one that was refused counts as one that failed
abbrev pub after_call : Call → Answer → List ℕ → DiskState → DiskState
after_call (Read at) answer bytes s = s
after_call (Write at len) Done bytes s = after_write at bytes s
after_call (Write at len) Failed bytes s = after_failed_write at len s
after_call (Write at len) Refused bytes s = after_failed_write at len s
after_call (Cut to) Done bytes s = after_cut to s
after_call (Cut to) Failed bytes s = after_failed_cut to s
after_call (Cut to) Refused bytes s = after_failed_cut to s
after_call Sync Done bytes s = after_sync s
after_call Sync Failed bytes s = s
after_call Sync Refused bytes s = s

-- the state after the calls, the newest first, of a disk that was made with the bytes `start`
abbrev pub replay : List ℕ → List Event → DiskState
replay start [] = settled start
replay start (e ∷ earlier) = after_call e.told.call e.told.answer e.bytes (replay start earlier)

-- the states before each of the calls, the newest first
abbrev pub states_before : List ℕ → List Event → List DiskState
states_before start [] = []
states_before start (e ∷ earlier) = replay start earlier ∷ states_before start earlier

-- whether a call with this answer counts as failed
abbrev pub is_failure : Answer → Bool
is_failure Done = false
is_failure Failed = true
is_failure Refused = true

-- how many of the calls failed
abbrev pub failures_in : List Event → ℕ
failures_in [] = 0
failures_in (e ∷ earlier) = if is_failure e.told.answer then failures_in earlier + 1 else failures_in earlier

-- there is an error exactly if a call has failed
abbrev pub KeepsError : {E : Type 0} → Option E → List Event → Type 0
KeepsError error events = is_none error ≡ (failures_in events == 0)

-- whether a read that answered Ok gave the bytes of the state
abbrev pub is_true_of : Call → Answer → List ℕ → DiskState → Bool
is_true_of (Read at) Done bytes s = bytes_eq bytes (take (length bytes) (drop at s.contents))
is_true_of (Read at) Failed bytes s = true
is_true_of (Read at) Refused bytes s = true
is_true_of (Write at len) answer bytes s = true
is_true_of (Cut to) answer bytes s = true
is_true_of Sync answer bytes s = true

-- Whether each read of a disk that was made with the bytes `start`, if it answered Ok, gave the bytes of the state of its moment.
abbrev pub reads_were_true : List ℕ → List Event → Bool
reads_were_true start [] = true
reads_were_true start (e ∷ earlier) = is_true_of e.told.call e.told.answer e.bytes (replay start earlier) && reads_were_true start earlier
