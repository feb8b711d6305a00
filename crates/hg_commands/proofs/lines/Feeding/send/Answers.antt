use Rattle.std.proofs.Common.{◌+◌, ◌∙◌, ap}
use Rattle.hg_model.specs.declared.event.Named.{Named}
use Rattle.hg_store.specs.Runs.{made}
use Rattle.hg_store.specs.declared.steps.Step.TheVariants as step
use Rattle.hg_store.specs.declared.steps.StepResult.TheVariants as told
use Rattle.hg_commands.specs.Offering.{named_by}
use Rattle.hg_commands.proofs.Kept.{keeps_offer}
use Rattle.hg_commands.proofs.Making.{makes_offer, moment_is}
use Rattle.hg_commands.proofs.lines.Feeding.send.Goals as goal

pub returns-clause-kept : goal.returns-clause-kept
returns-clause-kept g c =
    let s = c.args.self.now.store in
    let m = c.offer_parts-answer.new.store in
    let n = named_by c.args.self.now.fed.source (c.args.self.now.fed.number + 1) c.args.parts in
    let r = c.offer_parts-answer.result in
    keeps_offer g.D.Disk c.args.self.now.store c.offer_parts-answer.new.store c.args.output.now.calls c.args.self.now.moments c.push.new.self c.behind.result (named_by c.args.self.now.fed.source (c.args.self.now.fed.number + 1) c.args.parts) c.offer_parts-answer.result
    c.offer_parts-answer.ensures.done c.offer_parts-answer.ensures.content c.offer_parts-answer.ensures.images c.stands.ensures.backs c.offer_parts-answer.ensures.limits c.push.ensures (step.Offer n) (told.Offered r)
    (moment_is c.of-began.result.value s m c.behind.result c.of-made.result (step.Offer n) (told.Offered r) c.args.output.now.calls c.behind.ensures
    (c.of-made.ensures ∙ ap (λ (x : Named). made c.of-began.result.value (step.Offer x) (told.Offered r)) c.named_of.ensures) c.of-began.ensures)
    (makes_offer g.D.Disk s m n r c.offer_parts-answer.ensures.done c.offer_parts-answer.ensures.content c.offer_parts-answer.ensures.device c.offer_parts-answer.ensures.images)
