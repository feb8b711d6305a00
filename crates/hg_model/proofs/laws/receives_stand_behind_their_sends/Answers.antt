use Rattle.hg_model.proofs.Messages.{receive_behind}
use Rattle.hg_model.proofs.laws.receives_stand_behind_their_sends.Goals as goal

pub returns : goal.returns
returns c = receive_behind
