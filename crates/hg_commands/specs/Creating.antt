-- How making a store ends by a fault, and what is kept of it.
use Rattle.std.specs.Prelude.{◌≡◌, ◌⊎◌, ℕ, ◌+◌, ◌<◌, List, [], ◌∷◌, codes}
use Rattle.hg_model.specs.declared.verdict.Refusal.{Refusal}
use Rattle.hg_model.specs.declared.verdict.Refusal.TheVariants.{DeviceFault, OutOfMemory}
use Rattle.hg_disk.specs.declared.disk.Disk as disk
use Rattle.hg_disk.specs.State.{settled}
use Rattle.hg_model.specs.Change.{empty_content}
use Rattle.hg_images.specs.Images.{HasContent, Image}
use Rattle.hg_images.specs.Stores.{IsLeft}
use Rattle.hg_store.specs.declared.devices.Devices.{Devices}
use Rattle.hg_store.specs.Images.{EachImage, read_of, states_of}
use Rattle.hg_store.specs.Recovering.{IsEmpty, empty_image}
use Rattle.hg_streams.specs.Shown.{Outgoing}
use Rattle.hg_streams.specs.Calls.{failed_writes}
use Rattle.hg_streams.specs.Told.{told_refusal}
use Rattle.hg_streams.specs.Faults.{IsTold}
use Rattle.hg_streams.specs.Written.{Took, TookFront}
use Rattle.hg_commands.specs.declared.moment.Outcome.{Outcome}
use Rattle.hg_streams.specs.declared.output.Outputs.{Outputs}
use Rattle.hg_commands.specs.Instants.{Instant, instant}
use Rattle.hg_streams.specs.Printed.{WereGiven}
use Rattle.hg_commands.specs.Storing.{EndsFlushed, failed_calls}

-- a text that does not say `created`: none, or `not empty`
abbrev pub IsOfNone : List ℕ → Type 0
IsOfNone text = (text ≡ []) ⊎ (text ≡ codes "not empty\n")

module _ {D : Type 0} (g : disk.Ghosts D) where
  -- The device has no byte, durably, unless a call of it failed since.
  abbrev pub IsEmptied : D → D → Type 0
  IsEmptied old new = g.failures new ≡ g.failures old → g.state new ≡ settled []

  -- Each device has no byte, durably, unless a call of it failed since.
  pub record IsCleared (old new : Devices D) : Type 0 where
    pub journal0 : IsEmptied old.journal0 new.journal0
    pub journal1 : IsEmptied old.journal1 new.journal1
    pub slots : IsEmptied old.slots new.slots
    pub root0 : IsEmptied old.root0 new.root0
    pub root1 : IsEmptied old.root1 new.root1

  -- Whatever a crash leaves of the devices is a store with no event.
  abbrev pub LeavesAnEmptyStore : Devices D → Type 0
  LeavesAnEmptyStore devices = (image : Image) → IsLeft (states_of g devices) image → HasContent image empty_content

  -- What is left of the devices: those that had bytes are as they were, and those that had none have none again.
  abbrev pub IsLeftBy : Devices D → Devices D → Devices D → Type 0
  IsLeftBy old failed new = ((¬ IsEmpty g old) × (new ≡ old)) ⊎ (IsEmpty g old × IsCleared failed new)

  -- Devices without a byte have an empty store now, and that was told and flushed.
  abbrev pub TellsCreated : {V : Type 0} → Devices D → Devices D → Outgoing V → Outgoing V → Type 0
  TellsCreated old new before after = IsEmpty g old × (read_of g new ≡ empty_image) × Took before.calls after.calls (codes "created\n") × EndsFlushed after.calls

  -- The devices have bytes and were not changed, and that was told and flushed.
  abbrev pub TellsNotEmpty : {V : Type 0} → Devices D → Devices D → Outgoing V → Outgoing V → Type 0
  TellsNotEmpty old new before after = (¬ IsEmpty g old) × (new ≡ old) × Took before.calls after.calls (codes "not empty\n") × EndsFlushed after.calls

  -- Why making a store ended by a fault: one call of a device or of the output failed, or memory was refused and none failed;
  -- `mid` are the devices as they were then.
  pub record HasCreateCause {V : Type 0} (old new : Devices D) (before after : Outgoing V) (r : Refusal) : Type 0 where
    pub is : (r ≡ DeviceFault) ⊎ (r ≡ OutOfMemory)
    pub mid : Devices D
    pub failed : failed_calls g mid after.calls ≡ told_refusal r + failed_calls g old before.calls
    pub left : IsLeftBy old mid new

  -- A front of the due line was written: `created` for devices without a byte, `not empty` for others.
  abbrev pub WroteAnswer : {V : Type 0} → Devices D → Outgoing V → Outgoing V → Type 0
  WroteAnswer old before after =
      (IsEmpty g old × TookFront before.calls after.calls (codes "created\n")) ⊎ ((¬ IsEmpty g old) × TookFront before.calls after.calls (codes "not empty\n"))

  -- From one moment of a making that began at `start` to a later one. Either `created` was not written by the later moment; or a write had
  -- failed by the earlier one, and nothing was written since; or each image of the devices meanwhile has the content of a store of no events.
  abbrev pub IsMadeBetween : Instant D → Instant D → Instant D → Type 0
  IsMadeBetween start old new =
      WereGiven IsOfNone start.calls new.calls
      ⊎ (((failed_writes start.calls < failed_writes old.calls) × (new.calls ≡ old.calls))
      ⊎ EachImage g old.devices new.devices (λ image. HasContent image empty_content))

  -- At each moment of a making, whatever ends it, `created` is true: `IsMadeBetween` holds of each two neighbours of these moments, of which
  -- the newest comes first.
  abbrev pub CreatedIsKept : Instant D → List (Instant D) → Instant D → Type 0
  CreatedIsKept start [] now = IsMadeBetween start start now
  CreatedIsKept start (mid ∷ earlier) now = IsMadeBetween start mid now × CreatedIsKept start earlier mid

  -- `created` is true at each moment, by the devices and the output at the start of the making, its moments, and the devices and the
  -- output at its end.
  abbrev pub CreatedIsTrue : {V : Type 0} → Devices D → Outgoing V → List (Instant D) → Devices D → Outgoing V → Type 0
  CreatedIsTrue old before moments new after = CreatedIsKept (instant old before.calls) moments (instant new after.calls)

-- For the command, which prints to one output and tells its faults on another.
module _ {D W V : Type 0} (g : disk.Ghosts D) where
  -- Devices without a byte have an empty store now, and that was told.
  abbrev pub WasCreated : Devices D → Devices D → Outputs W V → Outputs W V → Type 0
  WasCreated old new before after = TellsCreated g old new before.output after.output

  -- The devices have bytes and were not changed, and that was told.
  abbrev pub HadBytes : Devices D → Devices D → Outputs W V → Outputs W V → Type 0
  HadBytes old new before after = TellsNotEmpty g old new before.output after.output

  -- A making ended by a fault. The fault had a cause; it was told, or telling it failed; and before it a front of the due line was written.
  abbrev pub CantCreate : Devices D → Devices D → Outputs W V → Outputs W V → Type 0
  CantCreate old new before after =
      (r : Refusal) × (HasCreateCause g old new before.output after.output r
      × (IsTold before.faults.calls after.faults.calls r × WroteAnswer g old before.output after.output))

  -- At each moment of a making that came to this outcome `created` is true.
  abbrev pub KeepsCreated : Devices D → Outputs W V → Outcome D W → Outputs W V → Type 0
  KeepsCreated old before outcome after = CreatedIsTrue g old before.output outcome.moments outcome.devices after.output
