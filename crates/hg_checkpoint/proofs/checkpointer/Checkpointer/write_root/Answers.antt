use Rattle.std.proofs.Common.{subst}
use Rattle.hg_root.specs.Checkpoints.{root_of}
use Rattle.hg_checkpoint.specs.declared.phase.Phase.{Phase}
use Rattle.hg_checkpoint.specs.Standing.{RootsStand}
use Rattle.hg_checkpoint.proofs.Answering.{counted_fault, counted_none, root_calls}
use Rattle.hg_checkpoint.proofs.Rooting.{each_former, moment, still_now}
use Rattle.hg_checkpoint.proofs.checkpointer.Checkpointer.write_root.Goals as goal

pub returns-in-Err-clause-any_moment : goal.returns-in-Err-clause-any_moment
returns-in-Err-clause-any_moment g c = λ now former stands. still_now g.D.Disk c.args.self.now.phase c.args.self.now.roots (root_of now) former c.args.self.now.body.value.items stands

pub returns-in-Ok-write-clause-any_moment : goal.returns-in-Ok-write-clause-any_moment
returns-in-Ok-write-clause-any_moment g c = λ now former stands.
    let old = c.args.self.now in
    let at = subst (λ (phase : Phase). RootsStand g.D.Disk phase old.roots (root_of now) former old.body.value.items) c.in_default.ensures.phase.1 stands in
    moment g.D.Disk old.roots c.write.new.self (root_of now) former c.write.ensures.older.turn (each_former g.D.Disk old.roots c.write.new.self (root_of now) former (c.write.ensures.any_moment (root_of now) at.0 at.1))

pub returns-clause-any_moment : goal.returns-clause-any_moment
returns-clause-any_moment g c = λ now former stands.
    let old = c.args.self.now in
    let at = subst (λ (phase : Phase). RootsStand g.D.Disk phase old.roots (root_of now) former old.body.value.items) c.in_default.ensures.phase.1 stands in
    moment g.D.Disk old.roots c.write.new.self (root_of now) former c.write.ensures.older.turn (each_former g.D.Disk old.roots c.write.new.self (root_of now) former (c.write.ensures.any_moment (root_of now) at.0 at.1))

pub returns-in-Ok-write-clause-count : goal.returns-in-Ok-write-clause-count
returns-in-Ok-write-clause-count g c = counted_none g.D.Disk c.args.self.now.roots c.write.new.self c.write.ensures.older.turn c.write.ensures.older.newer c.in-Ok-write.ensures.older.device

pub returns-clause-count : goal.returns-clause-count
returns-clause-count g c = counted_fault g.D.Disk c.args.self.now.roots c.write.new.self c.in-Err-write.fault c.from.result c.from.ensures c.write.ensures.older.turn c.write.ensures.older.newer c.in-Err-write.ensures.older.device

pub returns-in_default-body_of-clause-any_moment : goal.returns-in_default-body_of-clause-any_moment
returns-in_default-body_of-clause-any_moment g c = λ now former stands. still_now g.D.Disk c.args.self.now.phase c.args.self.now.roots (root_of now) former c.args.self.now.body.value.items stands

pub returns-in-Ok-write-clause-calls : goal.returns-in-Ok-write-clause-calls
returns-in-Ok-write-clause-calls g c = root_calls g.D.Disk c.args.self.now.roots c.write.new.self 4 c.write.ensures.older.turn c.write.ensures.older.newer c.write.ensures.older.calls

pub returns-clause-calls : goal.returns-clause-calls
returns-clause-calls g c = root_calls g.D.Disk c.args.self.now.roots c.write.new.self 4 c.write.ensures.older.turn c.write.ensures.older.newer c.write.ensures.older.calls
