use Rattle.std.proofs.Common.{◌≡◌, ◌++◌, ◌∷◌, length, map, reverse}
use Rattle.hg_server.specs.Acknowledged.{share_of, talks_of}
use Rattle.hg_server.proofs.serving.part.Given as goal

abbrev pub invariant-loop-share : goal.invariant-loop-share
invariant-loop-share g l =
    (l.shares.items ++ reverse (map share_of l.rest.items) ≡ l.fn.first ∷ reverse (map share_of l.fn.worked.items))
    × (map talks_of l.rest.items ++ l.talks ≡ map talks_of l.fn.worked.items)

abbrev pub decreases-loop-share : goal.decreases-loop-share
decreases-loop-share g l = length l.rest.items
