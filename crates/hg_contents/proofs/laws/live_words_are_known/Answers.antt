use Rattle.hg_contents.proofs.lawful.Sharing.{live_known}
use Rattle.hg_contents.proofs.laws.live_words_are_known.Goals as goal

pub returns : goal.returns
returns c = live_known
