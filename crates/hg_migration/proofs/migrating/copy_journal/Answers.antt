use Rattle.std.proofs.Common.{inl, inr, refl, subst, List, ℕ}
use Rattle.hg_disk.proofs.Staying.{then}
use Rattle.hg_migration.specs.Building.{InTurn}
use Rattle.hg_migration.proofs.Whole.{failed_beside}
use Rattle.hg_migration.proofs.migrating.copy_journal.Goals as goal

pub returns-in-Err-clause-any_moment : goal.returns-in-Err-clause-any_moment
returns-in-Err-clause-any_moment g c = inl (refl, refl)

pub returns-in-Err-clause-begins : goal.returns-in-Err-clause-begins
returns-in-Err-clause-begins g c honest = inl (refl, refl)

pub returns-in-Err-clause-device : goal.returns-in-Err-clause-device
returns-in-Err-clause-device g c = failed_beside (Unit {0}) c.in-Err.fault _ _ _ _ c.in-Err.ensures.device

pub returns-in_err-build-in-Ok-clause-old_moments : goal.returns-in_err-build-in-Ok-clause-old_moments
returns-in_err-build-in-Ok-clause-old_moments g c = then g.D.Disk c.args.journal.now c.prepare.new.journal c.build.new.journal c.prepare.ensures.any_moment c.build.ensures.read.any_moment

pub returns-in_ok-build-in-Ok-clause-old_moments : goal.returns-in_ok-build-in-Ok-clause-old_moments
returns-in_ok-build-in-Ok-clause-old_moments g c = then g.D.Disk c.args.journal.now c.prepare.new.journal c.build.new.journal c.prepare.ensures.any_moment c.build.ensures.read.any_moment

pub returns-in_err-build-in-Ok-clause-any_moment : goal.returns-in_err-build-in-Ok-clause-any_moment
returns-in_err-build-in-Ok-clause-any_moment g c =
    subst (λ (old : List ℕ). InTurn g.D.Disk old c.args.journal0.now c.build.new.journal0 c.args.journal1.now c.build.new.journal1) c.in-Ok.ensures.bytes c.build.ensures.any_moment

pub returns-in_ok-build-in-Ok-clause-any_moment : goal.returns-in_ok-build-in-Ok-clause-any_moment
returns-in_ok-build-in-Ok-clause-any_moment g c =
    subst (λ (old : List ℕ). InTurn g.D.Disk old c.args.journal0.now c.build.new.journal0 c.args.journal1.now c.build.new.journal1) c.in-Ok.ensures.bytes c.build.ensures.any_moment

pub returns-in_err-build-in-Ok-clause-begins : goal.returns-in_err-build-in-Ok-clause-begins
returns-in_err-build-in-Ok-clause-begins g c honest = inr (c.in-Ok.ensures.begins (g.met.D.Disk.honest_reads honest c.prepare.new.journal))

pub returns-in_ok-build-in-Ok-clause-begins : goal.returns-in_ok-build-in-Ok-clause-begins
returns-in_ok-build-in-Ok-clause-begins g c honest = inr (c.in-Ok.ensures.begins (g.met.D.Disk.honest_reads honest c.prepare.new.journal))

pub returns-in_ok-build-in-Ok-clause-header : goal.returns-in_ok-build-in-Ok-clause-header
returns-in_ok-build-in-Ok-clause-header g c honest = c.in-Ok.ensures.begins (g.met.D.Disk.honest_reads honest c.prepare.new.journal)

pub returns-in-Err-clause-damaged : goal.returns-in-Err-clause-damaged
returns-in-Err-clause-damaged g c honest told = c.in-Err.ensures.damaged (g.met.D.Disk.honest_reads honest c.prepare.new.journal) told
