use Rattle.std.proofs.Common.{◌∙◌, ◌++◌, sym, ap, map}
use Rattle.std.specs.Fmt.{decimal}
use Rattle.std.specs.List.{join_with_byte}
use Rattle.std.proofs.lemmas.Result.{on_ok_weaker}
use Rattle.hg_wire.specs.Reports.{report_front}
use Rattle.hg_wire.proofs.PieceLemmas.{appended_on, never_ok}
use Rattle.hg_wire.proofs.report.put_report_line.Goals as goal

pub returns-else-is_err-clause-ok : goal.returns-else-is_err-clause-ok
returns-else-is_err-clause-ok c =
    on_ok_weaker c.put_threads-threads.result
    (λ e. appended_on c.args.out.now.items (report_front c.args.k c.args.report.now) _ _ _ c.in_ok-put_report_front.ensures.ok e
    ∙ ap (λ threads. c.args.out.now.items ++ (report_front c.args.k c.args.report.now ++ join_with_byte 44 (map decimal threads))) c.as_slice.ensures)
    c.put_threads-threads.ensures.ok

pub returns-then-is_err-clause-ok : goal.returns-then-is_err-clause-ok
returns-then-is_err-clause-ok c = never_ok _ c.put_threads-threads.result (sym c.is_err.ensures.value ∙ c.if-is_err.true)
