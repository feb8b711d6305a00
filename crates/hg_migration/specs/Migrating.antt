-- A migration: what it makes, and what it leaves where it is refused.
use Rattle.std.specs.Prelude.{◌≡◌, ◌≢◌, ◌⊎◌, ◌+◌, ◌-◌, ℕ, IsTrue, List, [], length, Result, Ok, Err}
use Rattle.hg_disk.specs.Calls.{CallsAtMost}
use Rattle.hg_disk.specs.declared.disk.Disk as disk
use Rattle.hg_gate.specs.Batches.{header}
use Rattle.hg_gate.specs.Scan.{BeginsWith}
use Rattle.hg_images.specs.Images.{Image}
use Rattle.hg_images.specs.Stores.{IsLeft}
use Rattle.hg_store.specs.Images.{states_of}
use Rattle.hg_store.specs.declared.devices.Devices.{Devices}
use Rattle.hg_migration.specs.Copying.{pieces_in}
use Rattle.hg_migration.specs.Fault.{after_fault}
use Rattle.hg_migration.specs.Laws.{HasFormerContents}
use Rattle.hg_migration.specs.declared.fault.MigrationFault.{MigrationFault}
use Rattle.hg_migration.specs.declared.fault.MigrationFault.TheVariants.{Damaged, DeviceFault}
use Rattle.hg_migration.specs.declared.migrating.Migrated.{Migrated}
use Rattle.hg_migration.specs.declared.migrating.NotMigrated.{NotMigrated}
use Rattle.hg_migration.specs.declared.migrating.OldDevices.{OldDevices}

-- the faults of a call that reads the header of a journal
abbrev pub IsDamagedOrDevice : MigrationFault → Type 0
IsDamagedOrDevice fault = (fault ≡ Damaged) ⊎ (fault ≡ DeviceFault)

-- the result of a migration
abbrev pub Answer : Type 0 → Type 0
Answer D = Result (Migrated D) (NotMigrated D)

module _ {D : Type 0} where
  -- each device after it
  abbrev pub journal_in : Answer D → D
  journal_in (Ok made) = made.old_journal
  journal_in (Err refused) = refused.old.journal

  abbrev pub journal0_in : Answer D → D
  journal0_in (Ok made) = made.devices.journal0
  journal0_in (Err refused) = refused.journal0

  abbrev pub journal1_in : Answer D → D
  journal1_in (Ok made) = made.devices.journal1
  journal1_in (Err refused) = refused.journal1

  -- The slots and the roots are the same: none was called.
  abbrev pub HasSlotsAndRoots : OldDevices D → Answer D → Type 0
  HasSlotsAndRoots old (Ok made) = (made.devices.slots ≡ old.slots) × (made.devices.root0 ≡ old.root0) × (made.devices.root1 ≡ old.root1)
  HasSlotsAndRoots old (Err refused) = (refused.old.slots ≡ old.slots) × (refused.old.root0 ≡ old.root0) × (refused.old.root1 ≡ old.root1)

  -- how many device calls have failed after it; n had failed before it
  abbrev pub failures_in : Answer D → ℕ → ℕ
  failures_in (Ok made) n = n
  failures_in (Err refused) n = after_fault refused.fault n

  -- All devices are handed back as they were: none was called.
  abbrev pub HandsBack : OldDevices D → (journal0 journal1 : D) → NotMigrated D → Type 0
  HandsBack old journal0 journal1 refused = (refused.old ≡ old) × (refused.journal0 ≡ journal0) × (refused.journal1 ≡ journal1)

  -- The new files are as they were: neither was called.
  abbrev pub AreUncalled : (old0 new0 old1 new1 : D) → Type 0
  AreUncalled old0 new0 old1 new1 = (new0 ≡ old0) × (new1 ≡ old1)

module _ {D : Type 0} (g : disk.Ghosts D) where
  -- Neither new file has a byte.
  abbrev pub AreEmpty : (journal0 journal1 : D) → Type 0
  AreEmpty journal0 journal1 = ((g.state journal0).contents ≡ []) × ((g.state journal1).contents ≡ [])

  -- The journal begins with the former header by what a read gives.
  abbrev pub HasHeader : D → Type 0
  HasHeader journal = BeginsWith header (g.state journal).contents

  -- A read gives what it gave.
  abbrev pub ReadsSame : (old new : D) → Type 0
  ReadsSame old new = (g.state new).contents ≡ (g.state old).contents

  -- It does so unless a device call failed.
  abbrev pub ReadsSameOrFault : {T : Type 0} → (old new : D) → Result T MigrationFault → Type 0
  ReadsSameOrFault old new (Ok value) = ReadsSame old new
  ReadsSameOrFault old new (Err fault) = fault ≢ DeviceFault → ReadsSame old new

  abbrev pub KeepsOldBytes : OldDevices D → Answer D → Type 0
  KeepsOldBytes old (Ok made) = ReadsSame old.journal made.old_journal
  KeepsOldBytes old (Err refused) = refused.fault ≢ DeviceFault → ReadsSame old.journal refused.old.journal

  -- Over honest devices the new files are called only where the old journal has its header.
  abbrev pub WritesBehindHeader : (journal : D) → (old0 new0 old1 new1 : D) → Type 0
  WritesBehindHeader journal old0 new0 old1 new1 = IsTrue g.is_honest → AreUncalled old0 new0 old1 new1 ⊎ HasHeader journal

  -- Each image of the five devices has exactly the contents that the former store has with this journal, and with the slots and
  -- the roots of the image.
  abbrev pub HaveFormerContents : (journal : List ℕ) → Devices D → Type 0
  HaveFormerContents journal devices = (image : Image) → IsLeft (states_of g devices) image → HasFormerContents journal image

  -- how many calls of the journal and of the new files have failed
  abbrev pub failures_of : (journal journal0 journal1 : D) → ℕ
  failures_of journal journal0 journal1 = g.failures journal + g.failures journal0 + g.failures journal1

  -- At most so many calls: with k pieces of 64 KiB, k + 2 of the old journal, k + 6 of the first new file, and two of the
  -- second.
  pub record FewCalls (old journal0 journal1 : D) (journal new0 new1 : D) : Type 0 where
    pub old_journal : CallsAtMost g (pieces_in (length (g.state old).contents - 8) + 2) old journal
    pub first : CallsAtMost g (pieces_in (length (g.state old).contents - 8) + 6) journal0 new0
    pub second : CallsAtMost g 2 journal1 new1
