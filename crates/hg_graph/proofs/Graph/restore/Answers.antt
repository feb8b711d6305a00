use Rattle.std.proofs.Common.{◌≡◌, List, ap, arith, false, length, replicate, subst, ◌∙◌}
use Rattle.hg_model.specs.declared.segment.Segment.{Segment}
use Rattle.hg_model.specs.Segments.{present}
use Rattle.hg_graph.specs.Clocks.{AreClocks}
use Rattle.hg_graph.specs.Pending.{ArePending}
use Rattle.hg_graph.proofs.Lawful.{restored}
use Rattle.hg_graph.proofs.Graph.restore.Goals as goal

pub invariant_of-result : goal.invariant_of-result
invariant_of-result c =
    let count : c.len.result ≡ length c.args.segments.items = omega (arith, c.len.ensures) in (
      restored c.args.segments.items c.in_ok-present.present.items c.in_ok-visited.visited.items c.requires.some c.requires.few c.requires.lawful c.in_ok-present.ensures.rows
          (λ t lt. c.in_ok-present.ensures.each t lt ∙ ap (λ (s : List Segment). present s t) c.as_slice.ensures.value) (c.in_ok-visited.ensures.items_if_clones_equal (λ y h. h) ∙ ap (λ n. replicate n false) count),
      subst (λ (s : List Segment). AreClocks s c.in_ok-clocks.clocks.items) c.as_slice-2.ensures.value c.in_ok-clocks.ensures.clocks,
      subst (λ (s : List Segment). ArePending s c.present_clocks.new.pending) c.as_slice-2.ensures.value c.in_ok-clocks.ensures.pending,
    )
