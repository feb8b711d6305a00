use Rattle.std.proofs.Common.{◌≡◌, ℕ, ◌<◌, [], get_or, length}
use Rattle.hg_shards.specs.Routing.{items_of, rooms_of}
use Rattle.hg_shards.proofs.routes.Routes.clear.Given as goal

abbrev pub invariant-loop-k : goal.invariant-loop-k
invariant-loop-k l =
    (length l.self.lists.items ≡ length l.initial.self.lists.items)
    × ((j : ℕ) → j < l.k → get_or (items_of l.self.lists.items) j [] ≡ [])
    × (rooms_of l.self.lists.items ≡ rooms_of l.initial.self.lists.items)
