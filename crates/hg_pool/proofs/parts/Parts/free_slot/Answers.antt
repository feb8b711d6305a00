use Rattle.hg_pool.specs.Sound.{shown_of}
use Rattle.hg_pool.proofs.Reaching.{least_of_all}
use Rattle.hg_pool.proofs.parts.Parts.free_slot.Goals as goal

pub returns : goal.returns
returns g c = least_of_all (shown_of c.args.self.now) c.args.self.now.search_from c.free_slot_from.result c.requires.reached c.free_slot_from.ensures
