use Rattle.std.proofs.Common.{subst, sym}
use Rattle.hg_model.specs.declared.event.Event.{Event}
use Rattle.hg_store.specs.Steps.{ContentOffered, OfferDone}
use Rattle.hg_desk.proofs.offering.offer_to.Goals as goal

pub returns-in-Read-clause-done : goal.returns-in-Read-clause-done
returns-in-Read-clause-done g c =
    let n = c.args.named.now in
    subst (λ (e : Event). OfferDone g.D.Disk c.args.store.now c.touch.new.self (record { source = n.source; number = n.number; event = e }) c.touch.result) (sym c.in-Read.is) c.touch.ensures.done

pub returns-in-Read-clause-content : goal.returns-in-Read-clause-content
returns-in-Read-clause-content g c honest =
    let n = c.args.named.now in
    subst (λ (e : Event). ContentOffered g.D.Disk c.args.store.now c.touch.new.self (record { source = n.source; number = n.number; event = e }) c.touch.result) (sym c.in-Read.is) (c.touch.ensures.content honest)

pub returns-in-Write-clause-done : goal.returns-in-Write-clause-done
returns-in-Write-clause-done g c =
    let n = c.args.named.now in
    subst (λ (e : Event). OfferDone g.D.Disk c.args.store.now c.touch-in-Write.new.self (record { source = n.source; number = n.number; event = e }) c.touch-in-Write.result) (sym c.in-Write.is) c.touch-in-Write.ensures.done

pub returns-in-Write-clause-content : goal.returns-in-Write-clause-content
returns-in-Write-clause-content g c honest =
    let n = c.args.named.now in
    subst (λ (e : Event). ContentOffered g.D.Disk c.args.store.now c.touch-in-Write.new.self (record { source = n.source; number = n.number; event = e }) c.touch-in-Write.result) (sym c.in-Write.is) (c.touch-in-Write.ensures.content honest)

pub returns-in-Lock-clause-done : goal.returns-in-Lock-clause-done
returns-in-Lock-clause-done g c =
    let n = c.args.named.now in
    subst (λ (e : Event). OfferDone g.D.Disk c.args.store.now c.hold.new.self (record { source = n.source; number = n.number; event = e }) c.hold.result) (sym c.in-Lock.is) c.hold.ensures.done

pub returns-in-Lock-clause-content : goal.returns-in-Lock-clause-content
returns-in-Lock-clause-content g c honest =
    let n = c.args.named.now in
    subst (λ (e : Event). ContentOffered g.D.Disk c.args.store.now c.hold.new.self (record { source = n.source; number = n.number; event = e }) c.hold.result) (sym c.in-Lock.is) (c.hold.ensures.content honest)

pub returns-in-RdLock-clause-done : goal.returns-in-RdLock-clause-done
returns-in-RdLock-clause-done g c =
    let n = c.args.named.now in
    subst (λ (e : Event). OfferDone g.D.Disk c.args.store.now c.hold-in-RdLock.new.self (record { source = n.source; number = n.number; event = e }) c.hold-in-RdLock.result) (sym c.in-RdLock.is) c.hold-in-RdLock.ensures.done

pub returns-in-RdLock-clause-content : goal.returns-in-RdLock-clause-content
returns-in-RdLock-clause-content g c honest =
    let n = c.args.named.now in
    subst (λ (e : Event). ContentOffered g.D.Disk c.args.store.now c.hold-in-RdLock.new.self (record { source = n.source; number = n.number; event = e }) c.hold-in-RdLock.result) (sym c.in-RdLock.is) (c.hold-in-RdLock.ensures.content honest)

pub returns-in-Unlock-clause-done : goal.returns-in-Unlock-clause-done
returns-in-Unlock-clause-done g c =
    let n = c.args.named.now in
    subst (λ (e : Event). OfferDone g.D.Disk c.args.store.now c.hold-in-Unlock.new.self (record { source = n.source; number = n.number; event = e }) c.hold-in-Unlock.result) (sym c.in-Unlock.is) c.hold-in-Unlock.ensures.done

pub returns-in-Unlock-clause-content : goal.returns-in-Unlock-clause-content
returns-in-Unlock-clause-content g c honest =
    let n = c.args.named.now in
    subst (λ (e : Event). ContentOffered g.D.Disk c.args.store.now c.hold-in-Unlock.new.self (record { source = n.source; number = n.number; event = e }) c.hold-in-Unlock.result) (sym c.in-Unlock.is) (c.hold-in-Unlock.ensures.content honest)
