use Rattle.std.proofs.Common.{Ok, subst}
use Rattle.hg_model.specs.Holding.{hold_event}
use Rattle.hg_check.specs.Running.{WasOffered}
use Rattle.hg_check.proofs.Steps.{content_after, steps_accepted, steps_refused, was_accepted}
use Rattle.hg_check.proofs.checker.apply_hold.Goals as goal

taken : (c : goal.In-Ok) → WasOffered c.args.detector.now c.offer_hold.new.detector (hold_event c.args.hold) (Ok c.in-Ok.field-0)
taken c = subst (λ r. WasOffered c.args.detector.now c.offer_hold.new.detector (hold_event c.args.hold) r) c.in-Ok.is c.offer_hold.ensures

pub returns-in-Ok-clause-steps : goal.returns-in-Ok-clause-steps
returns-in-Ok-clause-steps c =
    steps_accepted c.args.detector.now c.offer_hold.new.detector (hold_event c.args.hold) c.in-Ok.field-0 c.args.line (taken c)

pub returns-in-Err-clause-steps : goal.returns-in-Err-clause-steps
returns-in-Err-clause-steps c =
    steps_refused c.args.detector.now c.offer_hold.new.detector (hold_event c.args.hold) c.in-Err.why c.args.line c.stop.result
    (subst (λ r. WasOffered c.args.detector.now c.offer_hold.new.detector (hold_event c.args.hold) r) c.in-Err.is c.offer_hold.ensures) c.stop.ensures

pub returns-in-Ok-clause-accepted : goal.returns-in-Ok-clause-accepted
returns-in-Ok-clause-accepted c same = (
  (was_accepted c.args.detector.now c.offer_hold.new.detector (hold_event c.args.hold) c.in-Ok.field-0 (taken c)).0,
  content_after c.args.detector.now c.offer_hold.new.detector (hold_event c.args.hold) c.in-Ok.field-0 (taken c),
)
