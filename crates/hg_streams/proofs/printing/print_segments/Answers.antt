use Rattle.std.proofs.Common.{◌≡◌, ℕ, ◌+◌, ◌<◌, ◌++◌, ◌∷◌, List, length, drop, get_or, ap, ◌∙◌, sym, arith}
use Rattle.std.proofs.lemmas.List.{drop_more}
use Rattle.hg_model.specs.declared.segment.Segment.{Segment}
use Rattle.hg_wire.specs.Reports.{segment_line}
use Rattle.hg_streams.specs.Holding.{HoldsNext}
use Rattle.hg_streams.specs.Texts.{line_text, segments_text}
use Rattle.hg_streams.proofs.Printed.{always_err, front_due, holds_next}
use Rattle.hg_streams.proofs.printing.print_segments.Goals as goal

next_segment : (segments : List Segment) (index k : ℕ) (s : Segment) → index < length segments → s ≡ get_or segments index s
    → segments_text k (drop index segments) ≡ line_text (segment_line k s) ++ segments_text (k + 1) (drop (index + 1) segments)
next_segment segments index k s within is =
    ap (λ xs. segments_text k xs) (drop_more segments index s within ∙ ap (λ x. x ∷ drop (index + 1) segments) (sym is))

holds : (segments : List Segment) (index k : ℕ) (s : Segment) (old new : List ℕ) → index < length segments → s ≡ get_or segments index s → new ≡ old ++ line_text (segment_line k s)
    → HoldsNext old new (segments_text k (drop index segments)) (segments_text (k + 1) (drop (index + 1) segments))
holds segments index k s old new within is held =
    holds_next old new (segments_text k (drop index segments)) (line_text (segment_line k s)) (segments_text (k + 1) (drop (index + 1) segments)) held (next_segment segments index k s within is)

pub returns-in_err-hold_segment-clause-front : goal.returns-in_err-hold_segment-clause-front
returns-in_err-hold_segment-clause-front g c first rest goal p =
    always_err _ (front_due first c.loop-segment.output.calls c.loop-segment.held.items (segments_text c.loop-segment.number (drop c.loop-segment.segment-index c.args.segments.now) ++ rest) goal
    (c.loop-segment.invariant.0 first rest goal p))

pub returns-in_err-write_if_large-clause-front : goal.returns-in_err-write_if_large-clause-front
returns-in_err-write_if_large-clause-front g c first rest goal p =
    always_err _ (c.in_err-write_if_large.ensures.front first (segments_text (c.loop-segment.number + 1) (drop (c.loop-segment.segment-index + 1) c.args.segments.now) ++ rest) goal
    (holds c.args.segments.now c.loop-segment.segment-index c.loop-segment.number c.segment-item.result c.loop-segment.held.items c.hold_segment.new.held.items
    c.loop-segment-test.true c.segment-item.is c.in_ok-hold_segment.ensures.ok first c.loop-segment.output.calls rest goal
    (c.loop-segment.invariant.0 first rest goal p)))

pub loop-segment-preserved : goal.loop-segment-preserved
loop-segment-preserved g c = (
  λ first rest goal p. c.in_ok-write_if_large.ensures.printed first (segments_text (c.loop-segment.number + 1) (drop (c.loop-segment.segment-index + 1) c.args.segments.now) ++ rest) goal
      (holds c.args.segments.now c.loop-segment.segment-index c.loop-segment.number c.segment-item.result c.loop-segment.held.items c.hold_segment.new.held.items
      c.loop-segment-test.true c.segment-item.is c.in_ok-hold_segment.ensures.ok first c.loop-segment.output.calls rest goal
      (c.loop-segment.invariant.0 first rest goal p)),
  (omega (arith, c.in_ok-write_if_large.ensures.fault, c.loop-segment.invariant.1), omega (arith, c.loop-segment.invariant.1)),
)
