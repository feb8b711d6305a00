use Rattle.std.proofs.Common.{Ok, subst}
use Rattle.hg_detect.specs.Answering.{AnswersOffer}
use Rattle.hg_detect.proofs.Offering.{refused_on}
use Rattle.hg_detect.proofs.detector.Detector.hold_by_verdict.Goals as goal

pub returns-in_err-answer : goal.returns-in_err-answer
returns-in_err-answer g c =
    subst (λ event. AnswersOffer g.W.Words c.args.self.now (record { source = c.args.source; number = c.args.number; event = event }) c.from_residual.result c.apply_by_verdict.new.self) c.event-event.ensures
    (refused_on g.W.Words c.args.self.now c.apply_by_verdict.new.self _ c.from_residual.result c.in_err-answer.field-0.0 c.from_residual.ensures.1 c.in_err-answer.ensures)

pub returns : goal.returns
returns g c =
    subst (λ event. AnswersOffer g.W.Words c.args.self.now (record { source = c.args.source; number = c.args.number; event = event }) (Ok c.in_ok-answer.answer) c.apply_by_verdict.new.self)
    c.event-event.ensures c.in_ok-answer.ensures
