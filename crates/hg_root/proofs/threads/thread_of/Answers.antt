use Rattle.std.proofs.Common.{◌≡◌, ◌∙◌, List, Some, subst, sym}
use Rattle.hg_model.specs.declared.held.HeldLock.{HeldLock}
use Rattle.hg_root.specs.Lawful.{AreHeld}
use Rattle.hg_root.specs.Reading.{thread_at}
use Rattle.hg_root.proofs.ThreadReading.{accepted, not_held}
use Rattle.hg_root.proofs.threads.thread_of.Goals as goal

pub returns-in-Some : goal.returns-in-Some
returns-in-Some c = λ segments table.
    let last = c.is_last.ensures.0 c.if-not-is_last.false in
    let held : AreHeld c.in_ok-locks.locks.items = subst AreHeld c.deref.ensures.value c.in-Some.ensures.1 in
    let same : c.in-Some.held ≡ c.in_ok-locks.locks.items = c.in-Some.ensures.0 ∙ c.deref.ensures.value in
    subst (λ (hs : List HeldLock). thread_at segments c.args.bytes.now ≡ Some (record { number = c.in_ok-number.number; alive = c.in_ok-alive.alive; held = hs }, c.in_ok-locks.rest.now)) (sym same)
    (accepted segments c.args.lasts.now table c.args.bytes.now c.in_ok-number.rest.now c.in_ok-alive.rest.now c.in_ok-last.rest.now c.in_ok-count.rest.now c.in_ok-locks.rest.now
    c.in_ok-number.number c.in_ok-last.last c.in_ok-count.count c.in_ok-alive.alive c.in_ok-locks.locks.items c.in_ok-number.ensures c.in_ok-alive.ensures c.in_ok-last.ensures c.in_ok-count.ensures c.in_ok-locks.ensures
    last.0 last.1 held)

pub returns : goal.returns
returns c = λ segments table.
    not_held segments c.args.lasts.now table c.args.bytes.now c.in_ok-number.rest.now c.in_ok-alive.rest.now c.in_ok-last.rest.now c.in_ok-count.rest.now c.in_ok-locks.rest.now
    c.in_ok-number.number c.in_ok-last.last c.in_ok-count.count c.in_ok-alive.alive c.in_ok-locks.locks.items c.in_ok-number.ensures c.in_ok-alive.ensures c.in_ok-last.ensures c.in_ok-count.ensures c.in_ok-locks.ensures
    (λ held. c.in-None.ensures (subst AreHeld (sym c.deref.ensures.value) held))
