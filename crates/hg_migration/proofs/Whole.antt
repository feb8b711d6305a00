-- A migration as a whole.
use Rattle.std.proofs.Common.{◌≡◌, ◌⊎◌, inl, inr, ◌+◌, ℕ, IsTrue, IfErr, IsErrOf, List, [], ◌++◌, drop, Result, Ok, Err, refl, sym, ◌∙◌, ap, subst, arith}
use Rattle.hg_disk.specs.declared.disk.Disk as disk
use Rattle.hg_disk.specs.State.{DiskState, IsImage}
use Rattle.hg_gate.specs.Batches.{IsClosed, base_front, closed_gate, header}
use Rattle.hg_gate.specs.Scan.{BeginsWith}
use Rattle.hg_store.specs.declared.devices.Devices.{Devices}
use Rattle.hg_migration.specs.Building.{AreBuilt}
use Rattle.hg_migration.specs.Fault.{after_fault, failures_after}
use Rattle.hg_migration.specs.Laws.{HasFormerContents}
use Rattle.hg_migration.specs.Migrating.{HaveFormerContents, IsDamagedOrDevice}
use Rattle.hg_migration.specs.declared.fault.MigrationFault.{MigrationFault}
use Rattle.hg_migration.specs.declared.fault.MigrationFault.TheVariants.{Damaged, DeviceFault, NotEmpty, OutOfMemory}
use Rattle.hg_migration.proofs.Kept.{contents_stay}

-- each image of the new devices has the former contents
pub former_contents : {D : Type 0} (g : disk.Ghosts D) (old : List ℕ) (devices : Devices D) → IsTrue g.is_honest → BeginsWith header old → AreBuilt g old devices.journal0 devices.journal1 → HaveFormerContents g old devices
former_contents g old devices honest begins built image left =
    let first : image.journal0 ≡ base_front 0 ++ built.copied = (subst (λ (s : DiskState). IsImage s image.journal0) built.first left.journal0).clean refl in
    let spare : IsClosed image.journal1 = record { gate = closed_gate; rest = []; spelling = (subst (λ (s : DiskState). IsImage s image.journal1) built.second left.journal1).clean refl; closed = omega arith } in
    subst (λ (l : List ℕ). HasFormerContents l image) (sym begins)
    (contents_stay (drop 8 old) image (first ∙ ap (λ (l : List ℕ). base_front 0 ++ l) (built.is_copy.same honest)) spare)

-- a fault beside devices that were not called
fault_beside : (fault : MigrationFault) (before after b c : ℕ) → after ≡ after_fault fault before → after + b + c ≡ after_fault fault (before + b + c)
fault_beside NotEmpty before after b c is = omega (arith, is)
fault_beside Damaged before after b c is = omega (arith, is)
fault_beside DeviceFault before after b c is = omega (arith, is)
fault_beside OutOfMemory before after b c is = omega (arith, is)

pub failed_beside : (T : Type 0) (fault : MigrationFault) (before after b c : ℕ) → after ≡ failures_after {T = T} (Err fault) before → after + b + c ≡ failures_after {T = T} (Err fault) (before + b + c)
failed_beside T fault before after b c is = fault_beside fault before after b c is

-- faults that a call has not
other_fault : {A : Type 0} (fault : MigrationFault) → IsDamagedOrDevice fault → (fault ≡ NotEmpty) ⊎ (fault ≡ OutOfMemory) → A
other_fault fault (inl a) (inl b) = absurd (cc (a, b))
other_fault fault (inl a) (inr b) = absurd (cc (a, b))
other_fault fault (inr a) (inl b) = absurd (cc (a, b))
other_fault fault (inr a) (inr b) = absurd (cc (a, b))

pub is_unread : {T : Type 0} (A : Type 0) (result : Result T MigrationFault) → IfErr result IsDamagedOrDevice → IfErr result (λ e. (e ≡ NotEmpty) ⊎ (e ≡ OutOfMemory) → A)
is_unread A (Ok value) is = is
is_unread A (Err fault) is = other_fault fault is

pub was_empty : {T A : Type 0} (result : Result T MigrationFault) → IfErr result IsDamagedOrDevice → IsErrOf result NotEmpty → A
was_empty (Ok value) is told = absurd (cc told)
was_empty (Err fault) is told = let same : fault ≡ NotEmpty = cc told in other_fault fault is (inl same)
