use Rattle.std.proofs.Common.{◌≡◌, ◌-◌, ◌≤◌, ◌++◌, length, replicate, vec_capacity}
use Rattle.hg_shards.proofs.set_log.fill_up_to.Given as goal

abbrev pub invariant-loop : goal.invariant-loop
invariant-loop l =
    (l.events.items ≡ l.fn.events.items ++ replicate (l.counter - length l.fn.events.items) l.event)
    × (vec_capacity l.events ≡ vec_capacity l.fn.events)
    × (length l.fn.events.items ≤ l.counter)
    × (l.counter ≤ l.count)
