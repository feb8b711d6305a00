-- What a `MemDisk` shows.
use Rattle.std.specs.Prelude.{◌⊎◌, ◌++◌, ◌∷◌, [], Result, OnOk, OnErr, IsErr, IsOk, true, ◌≡◌, ◌+◌, ◌-◌, ◌≤◌, ◌^◌, ℕ, Bool, false, max, List, length}
use Rattle.std.specs.Vec.{vec_capacity}
use Rattle.hg_disk.specs.Event.{Event}
use Rattle.hg_disk.specs.State.{DiskState}
use Rattle.hg_disk.specs.History.{replay, states_before, failures_in}
use Rattle.hg_disk.specs.Tape.{kept, calls_in}
use Rattle.hg_disk.specs.declared.call.Answered.{Answered}
use Rattle.hg_disk.specs.Room.{TapeHasRoom}
use Rattle.hg_disk.specs.declared.call.Call.{Call}
use Rattle.hg_disk.specs.declared.call.Answer.TheVariants.{Done, Failed}
use Rattle.hg_disk.specs.declared.memory.MemDisk.{MemDisk}

-- the bytes that it was made with
abbrev pub start_of : MemDisk → List ℕ
start_of m = m.start.items

-- its calls, the newest first
abbrev pub history_of : MemDisk → List Event
history_of m = m.tape.history.events

-- whether the next call fails
abbrev pub fails_next : MemDisk → Bool
fails_next m = m.fails_next

-- whether there was no memory to keep a call
abbrev pub is_full : MemDisk → Bool
is_full m = m.tape.is_full

-- the calls that it keeps as data, the oldest first: all before the disk was full
abbrev pub calls_of : MemDisk → List Answered
calls_of m = calls_in (kept m.tape.history.events)

-- its state
abbrev pub state_of : MemDisk → DiskState
state_of m = replay m.start.items m.tape.history.events

-- its states before each call, the newest first
abbrev pub past_of : MemDisk → List DiskState
past_of m = states_before m.start.items m.tape.history.events

-- how many of its calls failed
abbrev pub failures_of : MemDisk → ℕ
failures_of m = failures_in m.tape.history.events

-- It has room for this many calls, with this many bytes in sum: they take no memory.
pub record HasRoom (m : MemDisk) (calls bytes : ℕ) : Type 0 where
  pub sound : m.fails_next ≡ false
  pub tape : TapeHasRoom m.tape calls bytes
  pub bytes_fit : length m.bytes.items + bytes ≤ vec_capacity m.bytes

-- the bytes of the room that a write uses: those that it writes, or those by which the file grows, if these are more
abbrev pub room_taken : List ℕ → ℕ → List ℕ → ℕ
room_taken file at bytes = max (length bytes) (at + length bytes - length file)

-- Within the room, a call that writes nothing succeeds and uses one call of it,
abbrev pub StaysInRoom : {T E : Type 0} → (old new : MemDisk) → Result T E → Type 0
StaysInRoom old new result = (n b : ℕ) → HasRoom old (n + 1) b → IsOk result × HasRoom new n b

-- and a write within the greatest length succeeds and uses one call and its bytes.
abbrev pub WritesInRoom : {T E : Type 0} → (at : ℕ) → (bytes : List ℕ) → (old new : MemDisk) → Result T E → Type 0
WritesInRoom at bytes old new result =
    (n b : ℕ) → HasRoom old (n + 1) (room_taken (state_of old).contents at bytes + b) → at + length bytes ≤ 2 ^ 62
    → IsOk result × HasRoom new n b

-- A call is kept as data. If there is no memory to keep it, it fails and the disk is full. A full disk refuses each call.
pub record KeepsCall {T E : Type 0} (old new : MemDisk) (call : Call) (result : Result T E) : Type 0 where
  pub done : OnOk result (calls_of new ≡ calls_of old ++ record { call = call; answer = Done } ∷ [])
  pub failed : OnErr result ((calls_of new ≡ calls_of old ++ record { call = call; answer = Failed } ∷ []) ⊎ ((calls_of new ≡ calls_of old) × (is_full new ≡ true)))
  pub failed_within_room : TapeHasRoom old.tape 1 0 → OnErr result (calls_of new ≡ calls_of old ++ record { call = call; answer = Failed } ∷ [])
  pub refused_when_full : is_full old ≡ true → IsErr result × (is_full new ≡ true)
