use Rattle.std.proofs.Common.{ap, sym, ◌∙◌}
use Rattle.hg_detect.proofs.Offering.{err_of, no_lock_refused, offer_accepted, offer_again, offer_lacks_room, offer_refused}
use Rattle.hg_detect.proofs.detector.Detector.apply_by_verdict.Goals as goal

pub returns-in_err-accept-in-Accept : goal.returns-in_err-accept-in-Accept
returns-in_err-accept-in-Accept g c =
    offer_lacks_room g.W.Words c.args.self.now c.accept.new.self c.args.named c.from_residual.result c.in_err-accept-in-Accept.field-0.0 c.from_residual.ensures.1 (sym c.verdict.ensures ∙ c.in-Accept.is)
    c.in_err-accept-in-Accept.ensures.unchanged c.in_err-accept-in-Accept.ensures.sets c.in_err-accept-in-Accept.ensures.cause
    c.in_err-accept-in-Accept.ensures.undamaged
    (no_lock_refused c.args.named.event c.in_err-accept-in-Accept.field-0.0 c.in_err-accept-in-Accept.ensures.held) (λ h is. c.in_err-accept-in-Accept.ensures.grows h (ap err_of is))
    c.accept.ensures.lawful c.accept.ensures.faithful c.accept.ensures.went c.in_err-accept-in-Accept.ensures.failures

pub returns-in_ok-accept-in-Accept : goal.returns-in_ok-accept-in-Accept
returns-in_ok-accept-in-Accept g c =
    offer_accepted g.W.Words c.args.self.now c.accept.new.self c.args.named (sym c.verdict.ensures ∙ c.in-Accept.is)
    c.in_ok-accept-in-Accept.ensures.content c.in_ok-accept-in-Accept.ensures.sets
    c.accept.ensures.few c.accept.ensures.lawful c.accept.ensures.faithful c.accept.ensures.went c.in_ok-accept-in-Accept.ensures.failures

pub returns-in-Duplicate : goal.returns-in-Duplicate
returns-in-Duplicate g c = offer_again g.W.Words c.args.self.now c.args.named c.in-Duplicate.last (sym c.verdict.ensures ∙ c.in-Duplicate.is) c.requires.lawful (g.met.W.Words.went_nowhere c.args.self.now.words)

pub returns-in-Refuse : goal.returns-in-Refuse
returns-in-Refuse g c = offer_refused g.W.Words c.args.self.now c.args.named c.in-Refuse.refusal (sym c.verdict.ensures ∙ c.in-Refuse.is) c.requires.lawful (g.met.W.Words.went_nowhere c.args.self.now.words)
