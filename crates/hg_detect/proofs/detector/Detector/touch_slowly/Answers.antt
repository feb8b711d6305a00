use Rattle.std.proofs.Common.{Ok, subst}
use Rattle.hg_model.specs.Accessing.{access_named}
use Rattle.hg_detect.specs.Answering.{AnswersOffer}
use Rattle.hg_detect.proofs.Offering.{engine_accepted, engine_refused, no_lock_named, refused_on}
use Rattle.hg_detect.proofs.detector.Detector.touch_slowly.Goals as goal

pub returns-in_err-access_slowly : goal.returns-in_err-access_slowly
returns-in_err-access_slowly g c =
    engine_refused g.W.Words c.self.inside.engine c.access_slowly.new.self c.args.self.now (access_named c.args.source c.args.number c.args.write c.args.access) c.from_residual.result c.in_err-access_slowly.field-0.0 c.from_residual.ensures.1
    c.self.view_is (c.requires.admitted c.if-admitted.true) c.in_err-access_slowly.ensures.answers (no_lock_named c.args.write c.args.access) c.access_slowly.ensures.went c.in_err-access_slowly.ensures.failures

pub returns-then-admitted : goal.returns-then-admitted
returns-then-admitted g c =
    engine_accepted g.W.Words c.self.inside.engine c.access_slowly.new.self c.args.self.now (access_named c.args.source c.args.number c.args.write c.args.access)
    c.self.view_is c.self.invariant (c.requires.admitted c.if-admitted.true) c.in_ok-access_slowly.ensures.answers c.access_slowly.ensures.went c.in_ok-access_slowly.ensures.failures

pub returns-in_err-answer : goal.returns-in_err-answer
returns-in_err-answer g c =
    subst (λ event. AnswersOffer g.W.Words c.args.self.now (record { source = c.args.source; number = c.args.number; event = event }) c.from_residual-in_err-answer.result c.apply_by_verdict.new.self) c.event_of-event.ensures
    (refused_on g.W.Words c.args.self.now c.apply_by_verdict.new.self _ c.from_residual-in_err-answer.result c.in_err-answer.field-0.0 c.from_residual-in_err-answer.ensures.1 c.in_err-answer.ensures)

pub returns : goal.returns
returns g c =
    subst (λ event. AnswersOffer g.W.Words c.args.self.now (record { source = c.args.source; number = c.args.number; event = event }) (Ok c.in_ok-answer.answer) c.apply_by_verdict.new.self)
    c.event_of-event.ensures c.in_ok-answer.ensures
