use Rattle.std.proofs.Common.{inl, inr, ◌++◌, [], refl, arith}
use Rattle.hg_gate.specs.Batches.{closed_gate}
use Rattle.hg_gate.proofs.Gates.{on_ok}
use Rattle.hg_migration.specs.Building.{zero_front}
use Rattle.hg_migration.proofs.Built.{opened, opening}
use Rattle.hg_migration.proofs.building.build.Goals as goal

pub returns-in_err-make_gate-clause-any_moment : goal.returns-in_err-make_gate-clause-any_moment
returns-in_err-make_gate-clause-any_moment g c = inr (inl (c.make_gate.ensures.any_moment, refl))

pub returns-in_err-fill-clause-any_moment : goal.returns-in_err-fill-clause-any_moment
returns-in_err-fill-clause-any_moment g c =
    let gated = c.in_ok-make_gate.ensures.gated in
    inr (inr (c.make_gate.new.file, c.make_gate.ensures.any_moment, gated, inl (c.fill.ensures.any_moment closed_gate [] gated (omega arith), refl)))

pub returns-in_err-make_gate-2-clause-any_moment : goal.returns-in_err-make_gate-2-clause-any_moment
returns-in_err-make_gate-2-clause-any_moment g c =
    let gated = c.in_ok-make_gate.ensures.gated in
    let filled = c.in_ok-fill.ensures.filled gated in
    inr (inr (
      c.make_gate.new.file,
      c.make_gate.ensures.any_moment,
      gated,
      inr (c.fill.new.file, c.fill.ensures.any_moment closed_gate [] gated (omega arith), filled, (c.make_gate-2.ensures.any_moment, inl refl)),
    ))

pub returns-clause-any_moment : goal.returns-clause-any_moment
returns-clause-any_moment g c =
    let disk = g.D.Disk in
    let old = (disk.state c.args.journal.now).contents in
    let gated = c.in_ok-make_gate.ensures.gated in
    let filled = c.in_ok-fill.ensures.filled gated in
    let opens = opening disk old c.fill.new.file c.write_through.new.disk filled c.write_through.ensures.any_moment in
    inr (inr (
      c.make_gate.new.file,
      c.make_gate.ensures.any_moment,
      gated,
      inr (
        c.fill.new.file,
        c.fill.ensures.any_moment closed_gate [] gated (omega arith),
        filled,
        (c.make_gate-2.ensures.any_moment, inr (c.in_ok-make_gate-2.ensures.gated, opens)),
      ),
    ))

pub returns-clause-built : goal.returns-clause-built
returns-clause-built g c =
    let disk = g.D.Disk in
    let filled = c.in_ok-fill.ensures.filled c.in_ok-make_gate.ensures.gated in
    on_ok c.write_through.result (λ synced. record {
      copied = filled.0;
      is_copy = filled.1;
      first = opened (zero_front ++ filled.0) (disk.state c.fill.new.file) (disk.state c.write_through.new.disk) filled.2 synced;
      second = c.in_ok-make_gate-2.ensures.gated;
    }) c.write_through.ensures.durable
