-- Facts of a batch that have one proof at most, so that a type may carry them as ghost fields.
use Rattle.std.proofs.Props.{props}
use Rattle.std.specs.Prelude.{ℕ, List, [], ◌∷◌}
use Rattle.hg_model.specs.declared.event.Event.{Event}
use Rattle.hg_shards.specs.declared.routes.Routes.{Routes}
use Rattle.hg_shards.specs.Pushing.{IsRouted}
use Rattle.hg_parts.specs.declared.line.EventLine.{EventLine}
use Rattle.hg_parts.specs.declared.runs.Run.{Run}
use Rattle.hg_parts.specs.Batches.{AreNumbered}

pub routed_prop : (events : List Event) (routes : Routes) → IsProp (IsRouted events routes)
routed_prop events routes = hlevel props

pub numbered_prop : (runs : List Run) (greatest : ℕ) (lines : List EventLine) → IsProp (AreNumbered runs greatest lines)
numbered_prop runs greatest [] = hlevel
numbered_prop runs greatest (l ∷ earlier) = let rest : IsProp (AreNumbered runs greatest earlier) = numbered_prop runs greatest earlier in hlevel (rest, props)
