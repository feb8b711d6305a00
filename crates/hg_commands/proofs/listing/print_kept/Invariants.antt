use Rattle.std.proofs.Common.{◌≡◌, ℕ, ◌+◌, ◌++◌, List, drop}
use Rattle.hg_streams.specs.declared.call.WriteCall.{WriteCall}
use Rattle.hg_streams.specs.Calls.{failed_writes}
use Rattle.hg_streams.specs.Holding.{IsDue}
use Rattle.hg_streams.specs.Texts.{reports_text}
use Rattle.hg_commands.proofs.listing.print_kept.Given as goal

abbrev pub invariant-loop-report : goal.invariant-loop-report
invariant-loop-report g l =
    record {
      due : (first : List WriteCall) (rest goal : List ℕ)
          → IsDue first l.initial.output.calls l.initial.held.items (reports_text 1 l.reports ++ rest) goal
          → IsDue first l.output.calls l.held.items (reports_text (l.before + 1) (drop l.report-index l.reports) ++ rest) goal;
      intact : failed_writes l.output.calls ≡ failed_writes l.initial.output.calls;
      count : l.before ≡ l.report-index;
    }
