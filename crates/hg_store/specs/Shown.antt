-- What contracts see of a store.
use Rattle.std.specs.Prelude.{◌≡◌, ◌+◌, ◌-◌, ℕ, min, List, [], ◌∷◌, Bool, false, true, ◌&&◌, not, nat_lt, nat_le, Option, Result, Ok, Err, cond, length, if◌then◌else◌}
use Rattle.hg_model.specs.declared.event.Named.{Named}
use Rattle.hg_model.specs.declared.verdict.Refusal.{Refusal}
use Rattle.hg_model.specs.declared.verdict.Refusal.TheVariants as refusal
use Rattle.hg_model.specs.Contents.{Content}
use Rattle.hg_detect.specs.Shown as detect
use Rattle.hg_disk.specs.declared.disk.Disk as disk
use Rattle.hg_pool.specs.Maps as pools
use Rattle.hg_pool.specs.Shown as pool
use Rattle.hg_checkpoint.specs.declared.phase.Phase.{Phase}
use Rattle.hg_checkpoint.specs.declared.phase.Phase.TheVariants as phase
use Rattle.hg_store.specs.declared.devices.Devices.{Devices}
use Rattle.hg_store.specs.declared.steps.StorePhase.{StorePhase}
use Rattle.hg_store.specs.declared.steps.StorePhase.TheVariants as store

-- The state of the next checkpoint: its phase, the number of the newest root, the number of the next root, and the head of
-- the next root.
pub record Progress : Type 0 where
  pub phase : Phase
  pub number : ℕ
  pub next : ℕ
  pub head : Option (List ℕ)

-- What the two journals keep: how many events came before the first kept one, and before the first one of the current file;
-- the number of the last event; whether the other file is spare; and whether that is the second one.
pub record Turns : Type 0 where
  pub base : ℕ
  pub current_base : ℕ
  pub last : ℕ
  pub has_spare : Bool
  pub is_turned : Bool

-- The detector has all accepted events, and its map of words is a pool over the file of slots. `pending` are the accepted
-- events that are not committed. `committed` is the detector with the committed events only, and `durable` is their count.
-- `frozen` is the detector at the last freeze. `turns` is what the journals keep, and `counted` how many events the newest open
-- root counts. `is_broken`: a write, a cut or a sync of a device failed. `in_doubt`: it failed in a commit.
pub record ShownStore (D : Type 0) : Type 0 where
  pub devices : Devices D
  pub detector : detect.ShownDetector (pool.ShownPool D)
  pub committed : detect.ShownDetector (pool.ShownPool D)
  pub frozen : detect.ShownDetector (pool.ShownPool D)
  pub pending : List Named
  pub durable : ℕ
  pub turns : Turns
  pub counted : ℕ
  pub progress : Progress
  pub is_broken : Bool
  pub in_doubt : Bool

-- The content with all accepted events.
abbrev pub live : {D : Type 0} → disk.Ghosts D → ShownStore D → Content
live g s = detect.content (pools.live g) s.detector

-- The durable content: that with the committed events.
abbrev pub saved : {D : Type 0} → disk.Ghosts D → ShownStore D → Content
saved g s = detect.content (pools.live g) s.committed

-- The content at the last freeze.
abbrev pub captured : {D : Type 0} → disk.Ghosts D → ShownStore D → Content
captured g s = detect.content (pools.live g) s.frozen

-- the pool, which has the words and the frozen words
abbrev pub words : {D : Type 0} → ShownStore D → pool.ShownPool D
words s = s.detector.words

-- The greatest number of its pages in memory and its number of slots stay.
abbrev pub KeepsLimits : {D : Type 0} → (old new : ShownStore D) → Type 0
KeepsLimits old new = pool.HasSameLimits (words old) (words new)

-- the phase if no checkpoint is in progress
abbrev pub resting : List Named → StorePhase
resting [] = store.Idle
resting (n ∷ pending) = store.Pending

abbrev pub phase_by : Phase → List Named → StorePhase
phase_by phase.Idle pending = resting pending
phase_by phase.Flushing pending = store.Flushing
phase_by phase.Sealed pending = store.Sealed
phase_by phase.Prepared pending = store.Prepared
phase_by phase.Written pending = store.Written

abbrev pub phase_of : {D : Type 0} → ShownStore D → StorePhase
phase_of s = phase_by s.progress.phase s.pending

-- The next checkpoint of the store is in this phase.
abbrev pub IsIn : {D : Type 0} → Phase → ShownStore D → Type 0
IsIn phase s = s.progress.phase ≡ phase

-- The pages of a checkpoint are written, and none waits.
abbrev pub IsFlushed : {D : Type 0} → ShownStore D → Type 0
IsFlushed s = (s.progress.phase ≡ phase.Flushing) × ((words s).waiting ≡ [])

-- The next checkpoint has the number after that of the newest one; the newest one stays.
abbrev pub HasNextNumber : {D : Type 0} → (old new : ShownStore D) → Type 0
HasNextNumber old new = (new.progress.number ≡ old.progress.number) × (new.progress.next ≡ old.progress.number + 1)

-- Only the two journals have changed, as devices.
abbrev pub IsSameButJournal : {D : Type 0} → (old new : ShownStore D) → Type 0
IsSameButJournal old new = new ≡ record old { devices = record old.devices { journal0 = new.devices.journal0; journal1 = new.devices.journal1 } }

-- the journal that events are appended to, and the other one
abbrev pub current : {D : Type 0} → ShownStore D → D
current s = if s.turns.is_turned then s.devices.journal0 else s.devices.journal1

abbrev pub other : {D : Type 0} → ShownStore D → D
other s = if s.turns.is_turned then s.devices.journal1 else s.devices.journal0

-- A turn is due: there is a spare file, and the current one has an event.
abbrev pub is_turn_due : {D : Type 0} → ShownStore D → Bool
is_turn_due s = s.turns.has_spare && nat_lt s.turns.current_base s.turns.last

-- after a turn: the spare file is the current one, and begins behind the last event
abbrev pub after_turn : Turns → Turns
after_turn t = record { base = t.base; current_base = t.last; last = t.last; has_spare = false; is_turned = not t.is_turned }

-- Both files are open, and the newest open root counts the events up to the first one of the current file.
abbrev pub is_retirable : {D : Type 0} → ShownStore D → Bool
is_retirable s = not s.turns.has_spare && nat_le s.turns.current_base s.counted

-- after the older file is closed: the first kept event is the first one of the current file
abbrev pub after_retirement : Turns → Turns
after_retirement t = record { base = t.current_base; current_base = t.current_base; last = t.last; has_spare = true; is_turned = t.is_turned }

-- a broken store answers Broken, any other one this value
abbrev pub unless_broken : {D T : Type 0} → ShownStore D → T → Result T Refusal
unless_broken s value = cond s.is_broken (Err refusal.Broken) (Ok value)

-- the refusal of a call that, in a working store, can fail only for want of memory
abbrev pub broken_or_no_memory : {D : Type 0} → ShownStore D → Refusal
broken_or_no_memory s = cond s.is_broken refusal.Broken refusal.OutOfMemory

-- All accepted events are the durable ones and the pending ones.
abbrev pub HasCounted : {D : Type 0} → disk.Ghosts D → ShownStore D → Type 0
HasCounted g s = (live g s).events ≡ s.durable + length s.pending

-- so often each journal is called at most for the kept events from number `from` on, at most `most`: once for each up to the
-- last one that is found
abbrev pub most_reads : {D : Type 0} → (from most : ℕ) → ShownStore D → ℕ
most_reads from most s = ((from - 1) - s.turns.base) + min most ((s.turns.last - s.turns.base) - ((from - 1) - s.turns.base))
