use Rattle.std.proofs.Common.{ap, ◌∙◌, List}
use Rattle.hg_model.specs.declared.segment.Segment.{Segment}
use Rattle.hg_model.specs.Paths.{reaches}
use Rattle.hg_graph.proofs.Opening.{reaches_upto}
use Rattle.hg_graph.proofs.Graph.finds_path.Goals as goal

pub returns-then-s-g-clause-value : goal.returns-then-s-g-clause-value
returns-then-s-g-clause-value c =
    reaches_upto c.self.inside.segments.items c.args.s c.args.g c.self.invariant.0.rising c.if-s-g.true ∙ ap (λ (segments : List Segment). reaches segments c.args.s c.args.g) c.self.view_is
