use Rattle.hg_contents.proofs.lawful.Heads.{small_numbers}
use Rattle.hg_contents.proofs.laws.threads_have_small_numbers.Goals as goal

pub returns : goal.returns
returns c = small_numbers
