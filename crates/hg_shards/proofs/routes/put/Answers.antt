use Rattle.std.proofs.Common.{sym, ◌∙◌}
use Rattle.hg_shards.proofs.Routing.{apart_in_set, keeps_rooms, puts_one}
use Rattle.hg_shards.proofs.routes.put.Goals as goal

pub returns-clause-puts : goal.returns-clause-puts
returns-clause-puts c = puts_one c.args.lists.now.items c.args.part c.index_mut.result.now c.index_mut.ensures.value c.push_reserved.new.self c.args.item c.requires.part c.push_reserved.ensures.items

pub returns-clause-rooms : goal.returns-clause-rooms
returns-clause-rooms c = keeps_rooms c.args.lists.now.items c.args.part c.index_mut.result.now c.index_mut.ensures.value c.push_reserved.new.self c.push_reserved.ensures.capacity

pub returns-clause-others : goal.returns-clause-others
returns-clause-others c = λ k differ room list at. room list (sym (apart_in_set c.args.lists.now.items k c.args.part c.push_reserved.new.self differ) ∙ at)
