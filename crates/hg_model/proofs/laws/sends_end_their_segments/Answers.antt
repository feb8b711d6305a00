use Rattle.hg_model.proofs.Messages.{sender_ended_it}
use Rattle.hg_model.proofs.laws.sends_end_their_segments.Goals as goal

pub returns : goal.returns
returns c = sender_ended_it
