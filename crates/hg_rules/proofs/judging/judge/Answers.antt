use Rattle.std.proofs.Common.{◌∙◌}
use Rattle.hg_model.specs.Verdicts as rules
use Rattle.hg_rules.proofs.judging.judge.Goals as goal

pub returns : goal.returns
returns c = λ content parts.
    c.judge_standing.ensures
    ∙ (λ i. rules.verdict (record { events = parts.events i; segments = parts.segments i; threads = parts.threads i; last = λ s. parts.last s i; sent = λ k. parts.messages.sent k i; received = λ k. parts.messages.received k i }) c.args.named.now)
