use Rattle.std.proofs.Common.{◌≡◌, map, take}
use Rattle.hg_shards.specs.Merging.{head_of}
use Rattle.hg_shards.proofs.merge.Merge.new.Given as goal

abbrev pub invariant-loop-list : goal.invariant-loop-list
invariant-loop-list l = l.heads.items ≡ map (λ list. head_of list.items) (take l.list-index l.lists)
