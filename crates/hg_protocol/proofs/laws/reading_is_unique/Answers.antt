use Rattle.hg_protocol.proofs.FrameLemmas.{one_reading}
use Rattle.hg_protocol.proofs.laws.reading_is_unique.Goals as goal

pub returns : goal.returns
returns g c = one_reading g.M.Message (record { narrow = g.met.M.Message.narrow; within = g.met.M.Message.within; one_message = g.met.M.Message.one_message })
