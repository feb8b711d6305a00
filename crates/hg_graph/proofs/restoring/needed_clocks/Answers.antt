use Rattle.std.proofs.Common.{◌++◌, ◌∷◌, [], ◌∙◌, subst, sym, arith}
use Rattle.hg_graph.specs.Needed.{AreBehind}
use Rattle.hg_graph.proofs.Keeping.{kept_all, first_kept}
use Rattle.hg_graph.proofs.Lawful.{first_thread, lawful_rising}
use Rattle.hg_graph.proofs.Needing.{behind_at, needed_first}
use Rattle.hg_graph.proofs.restoring.needed_clocks.Goals as goal

pub loop-number-init : goal.loop-number-init
loop-number-init c = (
  needed_first c.args.segments.now c.args.late.now c.push.new.self.items c.requires.some (first_thread c.args.segments.now c.requires.lawful c.requires.some)
      (c.in_ok-push.ensures.items ∙ (λ i. c.in_ok-clocks.ensures.items i ++ c.in_ok-first.ensures i ∷ [])),
  first_kept c.args.segments.now c.args.pending.now c.requires.lawful c.requires.some c.requires.none,
)

pub note_message-requires-clause-clocks : goal.note_message-requires-clause-clocks
note_message-requires-clause-clocks c =
    let segments = c.args.segments.now in
    subst (AreBehind segments c.loop-number.number) (sym c.as_slice.ensures.value)
    (behind_at segments c.args.late.now c.loop-number.number c.loop-number.clocks.items (lawful_rising segments c.requires.lawful) c.requires.late c.loop-number.invariant.0 c.loop-number-test.true)

pub returns-clause-pending : goal.returns-clause-pending
returns-clause-pending c = kept_all c.args.segments.now c.loop-number.number c.loop-number.pending (omega (arith, c.loop-number-test.false)) c.loop-number.invariant.1
