use Rattle.std.proofs.Common.{◌≡◌, ◌-◌, List}
use Rattle.hg_model.specs.Contents.{Content}
use Rattle.hg_streams.specs.declared.call.WriteCall.{WriteCall}
use Rattle.hg_streams.specs.Calls.{failed_writes}
use Rattle.hg_shards.specs.Judging.{HasReports}
use Rattle.hg_parts.specs.Taking.{HasPrinted}
use Rattle.hg_parts.proofs.checking.PartsChecking.print.Given as goal

abbrev pub invariant-loop-self : goal.invariant-loop-self
invariant-loop-self g l =
    (l.self ≡ record l.initial.self { cursor = l.self.cursor; printed = l.self.printed; held = l.self.held })
    × ((c : Content) → HasReports c l.initial.self.judge → (first : List WriteCall) → HasPrinted first l.initial.self l.initial.output.calls c → HasPrinted first l.self l.output.calls c)
    × (failed_writes l.output.calls ≡ failed_writes l.initial.output.calls)

abbrev pub decreases-loop-self : goal.decreases-loop-self
decreases-loop-self g l = 65536 - l.self.printed
