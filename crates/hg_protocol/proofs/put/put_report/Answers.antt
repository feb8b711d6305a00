use Rattle.std.proofs.Common.{rules, ◌<◌, ◌^◌, arith}
use Rattle.hg_protocol.proofs.LineLemmas.{report_line_len}
use Rattle.hg_protocol.proofs.put.put_report.Goals as goal

pub put_line-put-requires : goal.put_line-put-requires
put_line-put-requires c =
    let event : c.args.report.now.event < 2 ^ 64 = search rules in
    let thread : c.args.report.now.thread < 2 ^ 64 = search rules in
    let few = report_line_len c.args.k c.args.report.now (omega (arith, c.ranges.k.fits)) event thread c.requires.few in
    search rules
