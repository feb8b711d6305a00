use Rattle.std.proofs.Common.{ℕ, List, length, subst}
use Rattle.hg_graph.specs.Needed.{AreNeeded}
use Rattle.hg_graph.proofs.Lawful.{first_thread}
use Rattle.hg_graph.proofs.Needing.{apart_of, moved_clocks}
use Rattle.hg_graph.proofs.restoring.present_clocks.Goals as goal

pub by_thread-requires-clause-apart : goal.by_thread-requires-clause-apart
by_thread-requires-clause-apart c = apart_of c.args.segments.now c.args.present.now c.requires.each

pub returns-clause-clocks : goal.returns-clause-clocks
returns-clause-clocks c =
    moved_clocks c.args.segments.now c.args.present.now c.in_ok-late.late.items c.in_ok-clocks.clocks.items c.in_ok-by_thread.field-0.items c.requires.some (first_thread c.args.segments.now c.requires.lawful c.requires.some) c.requires.each
    c.in_ok-late.ensures (subst (λ (late : List ℕ). AreNeeded c.args.segments.now late (length c.args.segments.now) c.in_ok-clocks.clocks.items) c.as_slice.ensures.value c.in_ok-clocks.ensures.clocks) c.in_ok-by_thread.ensures
