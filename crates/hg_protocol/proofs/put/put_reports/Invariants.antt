use Rattle.std.proofs.Common.{◌≡◌, ◌+◌, ◌++◌, ℕ, List, [], drop}
use Rattle.hg_protocol.specs.Spelling.{report_frames}
use Rattle.hg_protocol.proofs.put.put_reports.Given as goal

abbrev pub invariant-loop-report : goal.invariant-loop-report
invariant-loop-report l = record {
  counted : l.k ≡ l.report-index;
  line : l.line.items ≡ [];
  front : (front : List ℕ) × (l.out.items ≡ l.fn.out.items ++ front) × (front ++ report_frames (l.report-index + 1) (drop l.report-index l.reports) ≡ report_frames 1 l.reports);
}
