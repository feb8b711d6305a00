use Rattle.std.proofs.Common.{◌≡◌, ◌≤◌, ◌∙◌, Bool, true, false, ℕ, sym, ap, subst, arith, if◌then◌else◌}
use Rattle.hg_disk.specs.Calls.{CallsAtMost}
use Rattle.hg_disk.specs.declared.disk.Disk as disk
use Rattle.hg_store.specs.declared.steps.Step.{Step}
use Rattle.hg_store.specs.Doing.{in_doubt_during}
use Rattle.hg_store.specs.Store.{Backs}
use Rattle.hg_store.proofs.Backing.{backs_of, images_stand}
use Rattle.hg_store.proofs.store.Store.step.Goals as goal

pub returns-in-TakeJob-clause-images : goal.returns-in-TakeJob-clause-images
returns-in-TakeJob-clause-images g c honest =
    let s = c.args.self.now in
    let k = c.self.invariant.stands honest in
    let backs : Backs g.D.Disk s = rw (← c.self.view_is) (backs_of g.D.Disk _ k.0 k.1) in
    images_stand g.D.Disk s (in_doubt_during c.args.step.now s.in_doubt) backs (λ was. ap (λ (step : Step). in_doubt_during step s.in_doubt) c.in-TakeJob.is ∙ was)

-- the calls of the one of two journals that is not the current one, in their order
pub in_order : {D : Type 0} (g : disk.Ghosts D) (turned : Bool) (a0 a1 b0 b1 : D) → CallsAtMost g 2 (if turned then a1 else a0) (if turned then b1 else b0) → (if turned then b0 else b1) ≡ (if turned then a0 else a1)
    → CallsAtMost g 5 a0 b0 × CallsAtMost g 5 a1 b1
in_order g true a0 a1 b0 b1 calls same = (subst (λ d. CallsAtMost g 5 a0 d) (sym same) (omega arith), omega (arith, calls))
in_order g false a0 a1 b0 b1 calls same = (omega (arith, calls), subst (λ d. CallsAtMost g 5 a1 d) (sym same) (omega arith))

pub returns-in-Retire-clause-calls : goal.returns-in-Retire-clause-calls
returns-in-Retire-clause-calls g c =
    let old = c.args.self.now in
    let new = c.retire.new.self in
    let done = c.retire.ensures.done in
    in_order g.D.Disk old.turns.is_turned old.devices.journal0 old.devices.journal1 new.devices.journal0 new.devices.journal1
    (subst (λ (b : Bool). CallsAtMost g.D.Disk 2 (if old.turns.is_turned then old.devices.journal1 else old.devices.journal0) (if b then new.devices.journal1 else new.devices.journal0)) done.turn c.retire.ensures.calls)
    (subst (λ (b : Bool). (if b then new.devices.journal0 else new.devices.journal1) ≡ (if old.turns.is_turned then old.devices.journal0 else old.devices.journal1)) done.turn done.current)
