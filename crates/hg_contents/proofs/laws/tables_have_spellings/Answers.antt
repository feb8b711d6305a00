use Rattle.hg_contents.proofs.lawful.Tables.{tables}
use Rattle.hg_contents.proofs.laws.tables_have_spellings.Goals as goal

pub returns : goal.returns
returns c = tables
