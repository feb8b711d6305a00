use Rattle.hg_gate.proofs.Gates.{on_ok}
use Rattle.hg_migration.proofs.Built.{gate_synced, was_synced, write_failed}
use Rattle.hg_migration.proofs.building.make_gate.Goals as goal

pub returns-in_err-write_at-clause-any_moment : goal.returns-in_err-write_at-clause-any_moment
returns-in_err-write_at-clause-any_moment g c = write_failed g.D.Disk c.args.file.now c.write_at.new.self c.write_at.ensures.clock c.in_err-write_at.ensures.err c.in_err-write_at.ensures.failures

pub returns-clause-any_moment : goal.returns-clause-any_moment
returns-clause-any_moment g c =
    was_synced g.D.Disk c.args.file.now c.write_at.new.self c.sync.new.self c.sync.result c.requires c.in_ok-write_at.ensures.ok c.write_at.ensures.clock c.in_ok-write_at.ensures.failures
    c.sync.ensures.ok c.sync.ensures.err c.sync.ensures.clock c.sync.ensures.failures

pub returns-clause-gated : goal.returns-clause-gated
returns-clause-gated g c = on_ok c.sync.result (λ synced. gate_synced g.D.Disk c.args.file.now c.write_at.new.self c.sync.new.self c.requires c.in_ok-write_at.ensures.ok synced) c.sync.ensures.ok
