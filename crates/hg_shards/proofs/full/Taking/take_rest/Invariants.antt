use Rattle.std.proofs.Common.{◌≡◌, ℕ, length}
use Rattle.hg_shards.specs.Together.{IsTaking}
use Rattle.hg_shards.proofs.Together.{left_of}
use Rattle.hg_shards.proofs.full.Taking.take_rest.Given as goal

abbrev pub invariant-loop-next : goal.invariant-loop-next
invariant-loop-next l =
    (length l.self.taken.items ≡ length l.initial.self.taken.items)
    × ((limit : ℕ) → IsTaking limit l.parts l.initial.self.taken.items l.initial.self.table → IsTaking limit l.parts l.self.taken.items l.self.table)

abbrev pub decreases-loop-next : goal.decreases-loop-next
decreases-loop-next l = left_of l.parts l.self.taken.items
