use Rattle.hg_model.proofs.Messages.{used_once}
use Rattle.hg_model.proofs.laws.messages_are_used_once.Goals as goal

pub returns : goal.returns
returns c = used_once
