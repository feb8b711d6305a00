use Rattle.std.proofs.Common.{◌≡◌, [], length, replicate}
use Rattle.hg_shards.specs.Routing.{items_of, rooms_of}
use Rattle.hg_shards.proofs.routes.Routes.new.Given as goal

abbrev pub invariant-loop : goal.invariant-loop
invariant-loop l = (length l.lists.items ≡ l.counter) × (items_of l.lists.items ≡ replicate l.counter []) × (rooms_of l.lists.items ≡ replicate l.counter l.own)
