use Rattle.hg_contents.proofs.lawful.Tables.{spellings}
use Rattle.hg_contents.proofs.laws.contents_have_spellings.Goals as goal

pub returns : goal.returns
returns c = spellings
