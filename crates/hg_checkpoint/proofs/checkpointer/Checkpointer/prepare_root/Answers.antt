use Rattle.std.proofs.Common.{subst}
use Rattle.hg_root.specs.Checkpoints.{root_of}
use Rattle.hg_checkpoint.specs.declared.phase.Phase.{Phase}
use Rattle.hg_checkpoint.specs.Standing.{RootsStand}
use Rattle.hg_checkpoint.proofs.Answering.{counted_fault, counted_none, root_calls}
use Rattle.hg_checkpoint.proofs.Rooting.{moment, still_now}
use Rattle.hg_checkpoint.proofs.checkpointer.Checkpointer.prepare_root.Goals as goal

pub returns-in-Err-clause-any_moment : goal.returns-in-Err-clause-any_moment
returns-in-Err-clause-any_moment g c = λ now former stands. still_now g.D.Disk c.args.self.now.phase c.args.self.now.roots (root_of now) former c.args.self.now.body.value.items stands

pub returns-in-Ok-clause-any_moment : goal.returns-in-Ok-clause-any_moment
returns-in-Ok-clause-any_moment g c = λ now former stands.
    let old = c.args.self.now in
    let at = subst (λ (phase : Phase). RootsStand g.D.Disk phase old.roots (root_of now) former old.body.value.items) c.in_default.ensures.phase.1 stands in
    moment g.D.Disk old.roots c.prepare.new.self (root_of now) former c.prepare.ensures.older.turn (c.prepare.ensures.any_moment (root_of now) former at)

pub returns-in-Err-prepare-clause-any_moment : goal.returns-in-Err-prepare-clause-any_moment
returns-in-Err-prepare-clause-any_moment g c = λ now former stands.
    let old = c.args.self.now in
    let at = subst (λ (phase : Phase). RootsStand g.D.Disk phase old.roots (root_of now) former old.body.value.items) c.in_default.ensures.phase.1 stands in
    moment g.D.Disk old.roots c.prepare.new.self (root_of now) former c.prepare.ensures.older.turn (c.prepare.ensures.any_moment (root_of now) former at)

pub returns-in-Ok-clause-count : goal.returns-in-Ok-clause-count
returns-in-Ok-clause-count g c = counted_none g.D.Disk c.args.self.now.roots c.prepare.new.self c.prepare.ensures.older.turn c.prepare.ensures.older.newer c.in-Ok.ensures.older.device

pub returns-in-Err-prepare-clause-count : goal.returns-in-Err-prepare-clause-count
returns-in-Err-prepare-clause-count g c = counted_fault g.D.Disk c.args.self.now.roots c.prepare.new.self c.in-Err-prepare.fault c.from.result c.from.ensures c.prepare.ensures.older.turn c.prepare.ensures.older.newer c.in-Err-prepare.ensures.older.device

pub returns-in-Ok-clause-calls : goal.returns-in-Ok-clause-calls
returns-in-Ok-clause-calls g c = root_calls g.D.Disk c.args.self.now.roots c.prepare.new.self 2 c.prepare.ensures.older.turn c.prepare.ensures.older.newer c.prepare.ensures.older.calls

pub returns-in-Err-prepare-clause-calls : goal.returns-in-Err-prepare-clause-calls
returns-in-Err-prepare-clause-calls g c = root_calls g.D.Disk c.args.self.now.roots c.prepare.new.self 2 c.prepare.ensures.older.turn c.prepare.ensures.older.newer c.prepare.ensures.older.calls
