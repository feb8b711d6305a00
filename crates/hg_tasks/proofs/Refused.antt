-- Why a store was not migrated, and what is left.
use Rattle.std.proofs.Common.{◌≡◌, inl, inr, ◌+◌, ℕ, IsTrue, refl, ap, ◌∙◌, arith}
use Rattle.std.specs.Prelude.{◌≢◌}
use Rattle.hg_disk.specs.Moments.{AddsNoImage}
use Rattle.hg_disk.specs.State.{DiskState}
use Rattle.hg_disk.specs.declared.disk.Disk as disk
use Rattle.hg_disk.proofs.Staying.{same}
use Rattle.hg_migration.specs.Emptying.{AreNotOpen, AreSettledEmpty, EitherIsOpen, IsNotEmptyOrDevice, OnlyReads}
use Rattle.hg_migration.specs.Fault.{after_fault}
use Rattle.hg_migration.specs.Migrating.{AreEmpty, HasHeader, ReadsSame, failures_of}
use Rattle.hg_migration.specs.declared.fault.MigrationFault.{MigrationFault}
use Rattle.hg_migration.specs.declared.fault.MigrationFault.TheVariants.{Damaged, DeviceFault, NotEmpty, OutOfMemory}
use Rattle.hg_tasks.specs.Migrating.{HaveSlotsAndRoots, IsNotMigrated}
use Rattle.hg_tasks.specs.declared.migrating.FormerStore.{FormerStore}

-- a fault beside a device that was not called
fault_beside : (fault : MigrationFault) (a before after : ℕ) → after ≡ after_fault fault before → a + after ≡ after_fault fault (a + before)
fault_beside NotEmpty a before after is = omega (arith, is)
fault_beside Damaged a before after is = omega (arith, is)
fault_beside DeviceFault a before after is = omega (arith, is)
fault_beside OutOfMemory a before after is = omega (arith, is)

all_failed : (fault : MigrationFault) (a b c d e : ℕ) → d + e ≡ after_fault fault (b + c) → a + d + e ≡ after_fault fault (a + b + c)
all_failed fault a b c d e is =
    let one : a + d + e ≡ a + (d + e) = omega arith in
    let other : a + (b + c) ≡ a + b + c = omega arith in
    one ∙ (fault_beside fault a (b + c) (d + e) is ∙ ap (after_fault fault) other)

-- emptying is not refused as damage
is_other : {A : Type 0} (fault : MigrationFault) → IsNotEmptyOrDevice fault → fault ≡ Damaged → A
is_other fault (inl one) told = absurd (cc (one, told))
is_other fault (inr one) told = absurd (cc (one, told))

module _ {D : Type 0} (g : disk.Ghosts D) where
  -- The new files could not be emptied.
  pub not_emptied : (former : FormerStore D) (journal0 journal1 : D) (fault : MigrationFault) → IsNotEmptyOrDevice fault → (IsTrue g.is_honest → fault ≡ NotEmpty → EitherIsOpen g former.journal0 former.journal1)
      → (fault ≡ NotEmpty → OnlyReads g former.journal0 journal0 former.journal1 journal1) → g.failures journal0 + g.failures journal1 ≡ after_fault fault (g.failures former.journal0 + g.failures former.journal1)
      → IsNotMigrated g former (record { old = former.old; journal0 = journal0; journal1 = journal1 }) fault
  not_emptied former journal0 journal1 fault is opened reads failed = record {
    is_open = opened;
    unchanged = λ told. (refl, reads told);
    not_open = λ honest told. is_other fault is told;
    no_header = λ honest told. is_other fault is told;
    failed = all_failed fault (g.failures former.old.journal) (g.failures former.journal0) (g.failures former.journal1) (g.failures journal0) (g.failures journal1) failed;
    stays = same g former.old.journal;
    reads = λ other. refl;
    others = (refl, refl, refl);
  }

  -- Empty files were empty.
  were_empty : (journal0 journal1 : D) → AreSettledEmpty g journal0 journal1 → AreEmpty g journal0 journal1
  were_empty journal0 journal1 are = (ap (λ (s : DiskState). s.contents) are.0, ap (λ (s : DiskState). s.contents) are.1)

  -- They were emptied, and then the migration was refused.
  pub not_made : (former : FormerStore D) (between0 between1 : D) (left : FormerStore D) (fault : MigrationFault) → AreSettledEmpty g between0 between1 → (IsTrue g.is_honest → AreNotOpen g former.journal0 former.journal1)
      → g.failures between0 + g.failures between1 ≡ g.failures former.journal0 + g.failures former.journal1 → (fault ≡ NotEmpty → ¬ AreEmpty g between0 between1) → (IsTrue g.is_honest → fault ≡ Damaged → ¬ HasHeader g former.old.journal)
      → AddsNoImage g former.old.journal left.old.journal → (fault ≢ DeviceFault → ReadsSame g former.old.journal left.old.journal) → HaveSlotsAndRoots former.old left.old
      → failures_of g left.old.journal left.journal0 left.journal1 ≡ after_fault fault (failures_of g former.old.journal between0 between1)
      → IsNotMigrated g former left fault
  not_made former between0 between1 left fault emptied not_open none not_empty damaged stays reads others failed = record {
    is_open = λ honest told. absurd (not_empty told (were_empty between0 between1 emptied));
    unchanged = λ told. absurd (not_empty told (were_empty between0 between1 emptied));
    not_open = λ honest told. not_open honest;
    no_header = damaged;
    failed = failed ∙ ap (after_fault fault) (let all : failures_of g former.old.journal between0 between1 ≡ failures_of g former.old.journal former.journal0 former.journal1 = omega (arith, none) in all);
    stays = stays;
    reads = reads;
    others = others;
  }
