use Rattle.std.proofs.Common.{◌∙◌, ℕ, List, sym, subst}
use Rattle.hg_pool.specs.Maps.{disk_of, frozen}
use Rattle.hg_pool.specs.Shown.{ShownPool}
use Rattle.hg_pool.specs.Tables.{IsNameable}
use Rattle.hg_root.specs.Checkpoints.{HasSlotsOf, root_of}
use Rattle.hg_disk.proofs.Moments.{at_end}
use Rattle.hg_checkpoint.specs.declared.phase.Phase.{Phase}
use Rattle.hg_checkpoint.specs.Standing.{RootsStand}
use Rattle.hg_checkpoint.specs.Tables.{NamesOf}
use Rattle.hg_checkpoint.proofs.Staying.{slots_stay}
use Rattle.hg_checkpoint.proofs.Sealing.{below_with, is_written, named_rows, next_slots}
use Rattle.hg_checkpoint.proofs.Tables.{new_elsewhere}
use Rattle.hg_checkpoint.proofs.checkpointer.Checkpointer.seal_pages.Goals as goal

pub returns-in-Ok-clause-stands : goal.returns-in-Ok-clause-stands
returns-in-Ok-clause-stands g c = λ now former stands.
    let old = c.args.self.now in
    let from = c.args.pool.now in
    let to = c.seal.new.self in
    let went = c.seal.ensures.writes.stays.went in
    record {
      roots = subst (λ (phase : Phase). RootsStand g.D.Disk phase old.roots (root_of now) former old.body.value.items) c.in_default.ensures.phase.1.0 stands.roots;
      slots = at_end g.D.Disk (disk_of from) (disk_of to) (HasSlotsOf now former) (slots_stay g.D.Disk g.met.D.Disk.has_its_bytes from to now former went stands.names stands.slots);
      names = subst (λ (table : List (ℕ × ℕ)). NamesOf table now) (sym went.root) stands.names;
    }

pub returns-in-Err-seal-clause-stands : goal.returns-in-Err-seal-clause-stands
returns-in-Err-seal-clause-stands g c = λ now former stands.
    let from = c.args.pool.now in
    let to = c.seal.new.self in
    let went = c.seal.ensures.writes.stays.went in
    record {
      roots = stands.roots;
      slots = at_end g.D.Disk (disk_of from) (disk_of to) (HasSlotsOf now former) (slots_stay g.D.Disk g.met.D.Disk.has_its_bytes from to now former went stands.names stands.slots);
      names = subst (λ (table : List (ℕ × ℕ)). NamesOf table now) (sym went.root) stands.names;
    }

pub returns-in-Ok-clause-any_moment : goal.returns-in-Ok-clause-any_moment
returns-in-Ok-clause-any_moment g c = λ now former stands. slots_stay g.D.Disk g.met.D.Disk.has_its_bytes c.args.pool.now c.seal.new.self now former c.seal.ensures.writes.stays.went stands.names stands.slots

pub returns-in-Err-seal-clause-any_moment : goal.returns-in-Err-seal-clause-any_moment
returns-in-Err-seal-clause-any_moment g c = λ now former stands. slots_stay g.D.Disk g.met.D.Disk.has_its_bytes c.args.pool.now c.seal.new.self now former c.seal.ensures.writes.stays.went stands.names stands.slots

pub returns-in-Ok-clause-next : goal.returns-in-Ok-clause-next
returns-in-Ok-clause-next g c = λ now former parts cells stands draft.
    let old = c.args.self.now in
    let from = c.args.pool.now in
    let to = c.seal.new.self in
    let went = c.seal.ensures.writes.stays.went in
    let nameable : IsNameable to.slots to.frozen = subst (λ (p : ShownPool g.row.D.Denot). IsNameable p.slots p.frozen) (sym c.seal.ensures.rest) c.ready_to_seal.ensures.nameable in
    let slots = at_end g.D.Disk (disk_of from) (disk_of to) (HasSlotsOf now former) (slots_stay g.D.Disk g.met.D.Disk.has_its_bytes from to now former went stands.names stands.slots) in
    let sealed = c.in-Ok.ensures.sealed draft.whole c.in_default.ensures.phase.1.1 in
    record {
      head = (draft.head.0, draft.head.1, is_written now parts draft.head.0 old.next to.slots to.frozen draft.head.2 nameable);
      sealed = c.in-Ok.ensures.marked c.in_default.ensures.phase.1.1;
      body = λ written. absurd (cc written);
      below = below_with (root_of now) parts to.frozen draft.head.2.below;
      number = draft.head.2.is_number;
      slots = next_slots g.D.Disk to now former parts cells sealed nameable.entries (λ w. went.frozen_is draft.whole w ∙ draft.words w) draft.known slots;
      names = named_rows parts to.frozen nameable.entries;
    }

pub returns-in-Ok-clause-elsewhere : goal.returns-in-Ok-clause-elsewhere
returns-in-Ok-clause-elsewhere g c = λ now parts cells draft.
    let to = c.seal.new.self in
    let sealed = c.in-Ok.ensures.sealed draft.whole c.in_default.ensures.phase.1.1 in
    new_elsewhere parts to.frozen cells (frozen g.D.Disk to) (g.D.Disk.state (disk_of to)).contents (sealed (g.D.Disk.state (disk_of to)).contents (g.met.D.Disk.has_its_bytes (disk_of to)))
    (λ w. c.seal.ensures.writes.stays.went.frozen_is draft.whole w ∙ draft.words w)
