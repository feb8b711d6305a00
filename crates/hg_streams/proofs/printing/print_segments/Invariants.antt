use Rattle.std.proofs.Common.{◌≡◌, ℕ, ◌++◌, List, drop}
use Rattle.hg_streams.specs.declared.call.WriteCall.{WriteCall}
use Rattle.hg_streams.specs.Calls.{failed_writes}
use Rattle.hg_streams.specs.Holding.{IsDue}
use Rattle.hg_streams.specs.Texts.{segments_text}
use Rattle.hg_streams.proofs.printing.print_segments.Given as goal

abbrev pub invariant-loop-segment : goal.invariant-loop-segment
invariant-loop-segment g l =
    ((first : List WriteCall) (rest goal : List ℕ)
    → IsDue first l.initial.output.calls l.initial.held.items (segments_text 0 l.segments ++ rest) goal
    → IsDue first l.output.calls l.held.items (segments_text l.number (drop l.segment-index l.segments) ++ rest) goal)
    × ((failed_writes l.output.calls ≡ failed_writes l.initial.output.calls) × (l.number ≡ l.segment-index))
