use Rattle.std.proofs.Common.{◌∙◌, List, take, get_or, false, ap, sym, arith, add-one}
use Rattle.hg_model.specs.declared.held.HeldLock.{HeldLock}
use Rattle.hg_model.specs.Locks.{IsByRisingLock, has_lock, with_hold}
use Rattle.hg_rules.proofs.Restoring.{next_absent, next_behind}
use Rattle.hg_model.proofs.Rising.{from_increasing}
use Rattle.hg_root.proofs.threads.held_of.Goals as goal

abbrev none : HeldLock
none = record { lock = 0; write = false }

pub add-requires-clause-absent : goal.add-requires-clause-absent
add-requires-clause-absent c =
    let up : IsByRisingLock c.args.locks.now = c.do_rise.ensures.0 c.if-not-do_rise.false in
    ap (λ (hs : List HeldLock). has_lock hs (get_or c.args.locks.now c.loop-i.i none).lock) c.loop-i.invariant ∙ next_absent 0 c.loop-i.i c.args.locks.now none (from_increasing 0 _ (λ _. omega arith) up) c.loop-i-test.true

pub loop-i-preserved : goal.loop-i-preserved
loop-i-preserved c =
    let up : IsByRisingLock c.args.locks.now = c.do_rise.ensures.0 c.if-not-do_rise.false in
    c.add.ensures ∙ ap (with_hold (get_or c.args.locks.now c.loop-i.i none)) c.loop-i.invariant ∙ next_behind 0 c.loop-i.i c.args.locks.now none (from_increasing 0 _ (λ _. omega arith) up) c.loop-i-test.true ∙ ap (λ n. take n c.args.locks.now) (sym (add-one c.loop-i.i))
