use Rattle.std.proofs.Common.{ℕ, ◌<◌, ◌≤◌, length, get_or}
use Rattle.hg_model.specs.Segments.{present}
use Rattle.hg_graph.specs.Needed.{AreUses}
use Rattle.hg_graph.proofs.restoring.last_uses.Given as goal

-- the present segments of the threads so far are needed at the end
abbrev pub invariant-loop-t : goal.invariant-loop-t
invariant-loop-t l = AreUses l.segments (length l.segments) l.late.items × ((u : ℕ) → u < l.t → length l.segments ≤ get_or l.late.items (present l.segments u) 0)
