use Rattle.hg_cells.proofs.Places.{placed}
use Rattle.hg_cells.proofs.paged.PagedWords.look_up.Goals as goal

pub returns : goal.returns
returns c = placed c.args.self.now.pages c.args.number c.get_index_of.result c.get_index_of.ensures.index c.get_index_of.ensures.found c.get_index_of.ensures.value
