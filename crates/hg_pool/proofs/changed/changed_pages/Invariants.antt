use Rattle.std.proofs.Common.{◌≡◌, ◌-◌, drop, length, option_map, slice_get}
use Rattle.hg_pool.proofs.Collecting.{IsCollecting}
use Rattle.hg_pool.proofs.changed.changed_pages.Given as goal

abbrev pub invariant-loop-next : goal.invariant-loop-next
invariant-loop-next l = IsCollecting l.frames.entries (drop l.place l.frames.entries) l.table.entries l.place × (l.next ≡ option_map (λ e. e.0) (slice_get l.frames.entries l.place))

abbrev pub decreases-loop-next : goal.decreases-loop-next
decreases-loop-next l = length l.frames.entries - l.place
