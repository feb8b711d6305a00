-- A store of the former form that is given two journals.
use Rattle.std.specs.Prelude.{◌≡◌, ◌≢◌, ◌⊎◌, ℕ, IsTrue, List, [], ◌∷◌, ◌++◌, Result, Ok, Err, codes}
use Rattle.hg_model.specs.declared.verdict.Refusal.{Refusal}
use Rattle.hg_model.specs.declared.verdict.Refusal.TheVariants as refusal
use Rattle.hg_disk.specs.Moments.{AddsNoImage}
use Rattle.hg_disk.specs.declared.disk.Disk as disk
use Rattle.hg_migration.specs.Building.{AreBuilt}
use Rattle.hg_migration.specs.Emptying.{AreNotOpen, EitherIsOpen, OnlyReads}
use Rattle.hg_migration.specs.Fault.{after_fault}
use Rattle.hg_migration.specs.Migrating.{HasHeader, HasSlotsAndRoots, HaveFormerContents, ReadsSame, failures_of}
use Rattle.hg_migration.specs.declared.fault.MigrationFault.{MigrationFault}
use Rattle.hg_migration.specs.declared.fault.MigrationFault.TheVariants.{NotEmpty, Damaged, DeviceFault, OutOfMemory}
use Rattle.hg_migration.specs.declared.migrating.Migrated.{Migrated}
use Rattle.hg_migration.specs.declared.migrating.OldDevices.{OldDevices}
use Rattle.hg_streams.specs.Faults.{IsTold, WriteFailed}
use Rattle.hg_streams.specs.Written.{Took}
use Rattle.hg_streams.specs.declared.output.Outputs.{Outputs}
use Rattle.hg_tasks.specs.declared.migrating.FormerStore.{FormerStore}

-- how a fault is told
abbrev pub refusal_of_migration : MigrationFault → Refusal
refusal_of_migration NotEmpty = refusal.Damaged
refusal_of_migration Damaged = refusal.Damaged
refusal_of_migration DeviceFault = refusal.DeviceFault
refusal_of_migration OutOfMemory = refusal.OutOfMemory

-- The slots and the roots are the same: none was called.
abbrev pub HaveSlotsAndRoots : {D : Type 0} → (old left : OldDevices D) → Type 0
HaveSlotsAndRoots old left = (left.slots ≡ old.slots) × (left.root0 ≡ old.root0) × (left.root1 ≡ old.root1)

module _ {D : Type 0} (g : disk.Ghosts D) where
  -- how many calls of a former store and of its new files have failed
  abbrev pub failures_in : FormerStore D → ℕ
  failures_in former = failures_of g former.old.journal former.journal0 former.journal1

  -- The new journals are made of the old one and are durable, the slots and the roots are the same, and each image of the five devices has
  -- exactly the contents that the former store has. Neither new file was open, and the old journal has its header. It stays: a read gives what
  -- it gave, and no moment adds an image. No call failed.
  pub record WasMigrated (former : FormerStore D) (made : Migrated D) : Type 0 where
    pub built : AreBuilt g (g.state former.old.journal).contents made.devices.journal0 made.devices.journal1
    pub others : HasSlotsAndRoots former.old (Ok made)
    pub contents : IsTrue g.is_honest → HaveFormerContents g (g.state former.old.journal).contents made.devices
    pub not_open : IsTrue g.is_honest → AreNotOpen g former.journal0 former.journal1
    pub has_header : IsTrue g.is_honest → HasHeader g former.old.journal
    pub stays : AddsNoImage g former.old.journal made.old_journal
    pub reads : ReadsSame g former.old.journal made.old_journal
    pub failed : failures_of g made.old_journal made.devices.journal0 made.devices.journal1 ≡ failures_in former

  -- Why a store was not migrated, and what is left. `NotEmpty`: of honest devices a new file is open; nothing was changed, and the new files were
  -- only read. `Damaged`: of honest devices neither is, and the old journal does not have its header. `DeviceFault` exactly if a call failed.
  -- Want of memory may be told at any time. The former store stays in each case.
  pub record IsNotMigrated (former left : FormerStore D) (fault : MigrationFault) : Type 0 where
    pub is_open : IsTrue g.is_honest → fault ≡ NotEmpty → EitherIsOpen g former.journal0 former.journal1
    pub unchanged : fault ≡ NotEmpty → (left.old ≡ former.old) × OnlyReads g former.journal0 left.journal0 former.journal1 left.journal1
    pub not_open : IsTrue g.is_honest → fault ≡ Damaged → AreNotOpen g former.journal0 former.journal1
    pub no_header : IsTrue g.is_honest → fault ≡ Damaged → ¬ HasHeader g former.old.journal
    pub failed : failures_in left ≡ after_fault fault (failures_in former)
    pub stays : AddsNoImage g former.old.journal left.old.journal
    pub reads : fault ≢ DeviceFault → ReadsSame g former.old.journal left.old.journal
    pub others : HaveSlotsAndRoots former.old left.old

-- A text was printed and flushed, with this status; or that failed, and a fault was told, with status 3.
abbrev pub Answers : {W V : Type 0} → List ℕ → ℕ → Outputs W V → Outputs W V → ℕ → Type 0
Answers text wanted before after status =
    ((status ≡ wanted) × Took before.output.calls after.output.calls text × (after.faults ≡ before.faults))
    ⊎ ((status ≡ 3) × WriteFailed before.output.calls after.output.calls × IsTold before.faults.calls after.faults.calls refusal.DeviceFault)

-- The fault was told, with status 3, and nothing was printed.
abbrev pub TellsFault : {W V : Type 0} → MigrationFault → Outputs W V → Outputs W V → ℕ → Type 0
TellsFault fault before after status =
    (status ≡ 3) × IsTold before.faults.calls after.faults.calls (refusal_of_migration fault) × (after.output ≡ before.output)

-- It was printed that a new file is open; or another fault was told.
pub record SaysWhy {W V : Type 0} (fault : MigrationFault) (before after : Outputs W V) (status : ℕ) : Type 0 where
  pub not_empty : fault ≡ NotEmpty → Answers (codes "not empty" ++ 10 ∷ []) 2 before after status
  pub other : fault ≢ NotEmpty → TellsFault fault before after status

module _ {D W V : Type 0} (g : disk.Ghosts D) where
  -- It was made, and then `migrated` was printed; or it was not, and then it was told why.
  abbrev pub MigratesAndTells : FormerStore D → Result (Migrated D) (FormerStore D) → Outputs W V → Outputs W V → ℕ → Type 0
  MigratesAndTells former (Ok made) before after status = WasMigrated g former made × Answers (codes "migrated" ++ 10 ∷ []) 0 before after status
  MigratesAndTells former (Err left) before after status = (fault : MigrationFault) × IsNotMigrated g former left fault × SaysWhy fault before after status
