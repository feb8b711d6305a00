use Rattle.hg_model.proofs.Messages.{sent_in_trace, received_in_trace}
use Rattle.hg_model.proofs.laws.messages_stand_in_the_trace.Goals as goal

pub returns : goal.returns
returns c = λ past k. (sent_in_trace past k, received_in_trace past k)
