use Rattle.hg_contents.proofs.lawful.Sources.{read_again}
use Rattle.hg_contents.proofs.laws.roots_have_the_last_numbers.Goals as goal

pub returns : goal.returns
returns c = λ content source lawful. read_again content.last content.events source lawful.last
