use Rattle.hg_verbose.proofs.Telling.{two_texts}
use Rattle.hg_verbose.proofs.cause.put_hold.Goals as goal

pub returns : goal.returns
returns c = two_texts c.put_mode.result _ _ _ _ _ c.in_ok-put_numbers.ensures c.put_mode.ensures
