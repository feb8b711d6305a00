use Rattle.std.proofs.Common.{ℕ, Some, subst, sym}
use Rattle.hg_root.specs.Checkpoints.{HasSlotsOf, root_of}
use Rattle.hg_disk.specs.Calls.{CallsAtMost}
use Rattle.hg_root.specs.Pairs.{first_of, second_of}
use Rattle.hg_checkpoint.specs.declared.phase.Phase.{Phase}
use Rattle.hg_checkpoint.specs.Standing.{RootsStand}
use Rattle.hg_checkpoint.proofs.Rooting.{either_moment, still_either, turned_moment}
use Rattle.hg_checkpoint.proofs.Answering.{counted_fault, root_calls, same_fault}
use Rattle.hg_checkpoint.proofs.Sealing.{as_root, opened_names, opened_slots}
use Rattle.hg_checkpoint.proofs.checkpointer.Checkpointer.open_root.Goals as goal

pub returns-in-Err-clause-any_moment : goal.returns-in-Err-clause-any_moment
returns-in-Err-clause-any_moment g c = λ now former next stands is. still_either g.D.Disk c.args.self.now.phase c.args.self.now.roots (root_of now) former next.root c.args.self.now.body.value.items stands.roots

pub returns-in-Ok-clause-stands : goal.returns-in-Ok-clause-stands
returns-in-Ok-clause-stands g c = λ now former next stands is.
    let old = c.args.self.now in
    let at = subst (λ (phase : Phase). RootsStand g.D.Disk phase old.roots (root_of now) former old.body.value.items) c.in_default.ensures.phase.1 stands.roots in
    record {
      roots = c.take_turns.ensures.stands (root_of now) next.root (c.in-Ok.ensures.opened (root_of now) next.root old.body.value.items at (as_root old.body.value.items next.root (is.body c.in_default.ensures.phase.1)) is.below);
      slots = opened_slots g.D.Disk c.args.pool.now c.root_opened.new.self (HasSlotsOf (Some next) (root_of now)) c.root_opened.ensures is.slots;
      names = opened_names c.args.pool.now c.root_opened.new.self next.root c.root_opened.ensures is.names;
    }

pub returns-in-Ok-clause-any_moment : goal.returns-in-Ok-clause-any_moment
returns-in-Ok-clause-any_moment g c = λ now former next stands is.
    let old = c.args.self.now in
    let at = subst (λ (phase : Phase). RootsStand g.D.Disk phase old.roots (root_of now) former old.body.value.items) c.in_default.ensures.phase.1 stands.roots in
    let opened = either_moment g.D.Disk old.roots c.open_gate.new.self (root_of now) former next.root c.open_gate.ensures.older.turn (c.open_gate.ensures.any_moment (root_of now) next.root old.body.value.items at (as_root old.body.value.items next.root (is.body c.in_default.ensures.phase.1)) is.below) in
    turned_moment g.D.Disk old.roots c.open_gate.new.self c.take_turns.new.self _ c.take_turns.ensures.first c.take_turns.ensures.second opened

pub returns-in-Err-open_gate-clause-any_moment : goal.returns-in-Err-open_gate-clause-any_moment
returns-in-Err-open_gate-clause-any_moment g c = λ now former next stands is.
    let old = c.args.self.now in
    let at = subst (λ (phase : Phase). RootsStand g.D.Disk phase old.roots (root_of now) former old.body.value.items) c.in_default.ensures.phase.1 stands.roots in
    either_moment g.D.Disk old.roots c.open_gate.new.self (root_of now) former next.root c.open_gate.ensures.older.turn (c.open_gate.ensures.any_moment (root_of now) next.root old.body.value.items at (as_root old.body.value.items next.root (is.body c.in_default.ensures.phase.1)) is.below)

pub returns-in-Err-clause-device : goal.returns-in-Err-clause-device
returns-in-Err-clause-device g c = same_fault (Unit {0}) ℕ c.args.self.now.is_broken c.in-Err.fault c.in-Err.ensures.device

pub returns-in-Err-open_gate-clause-count : goal.returns-in-Err-open_gate-clause-count
returns-in-Err-open_gate-clause-count g c = counted_fault g.D.Disk c.args.self.now.roots c.open_gate.new.self c.in-Err-open_gate.fault c.from.result c.from.ensures c.open_gate.ensures.older.turn c.open_gate.ensures.older.newer c.in-Err-open_gate.ensures.older.device

pub returns-in-Ok-clause-calls : goal.returns-in-Ok-clause-calls
returns-in-Ok-clause-calls g c =
    let called = root_calls g.D.Disk c.args.self.now.roots c.open_gate.new.self 2 c.open_gate.ensures.older.turn c.open_gate.ensures.older.newer c.open_gate.ensures.older.calls in
    (subst (λ (d : g.row.D.Denot). CallsAtMost g.D.Disk 2 (first_of c.args.self.now.roots) d) (sym c.take_turns.ensures.first) called.0, subst (λ (d : g.row.D.Denot). CallsAtMost g.D.Disk 2 (second_of c.args.self.now.roots) d) (sym c.take_turns.ensures.second) called.1)

pub returns-in-Err-open_gate-clause-calls : goal.returns-in-Err-open_gate-clause-calls
returns-in-Err-open_gate-clause-calls g c = root_calls g.D.Disk c.args.self.now.roots c.open_gate.new.self 2 c.open_gate.ensures.older.turn c.open_gate.ensures.older.newer c.open_gate.ensures.older.calls
