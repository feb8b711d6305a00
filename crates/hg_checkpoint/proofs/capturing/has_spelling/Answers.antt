use Rattle.std.proofs.Common.{◌<◌, ◌^◌, length, All, rules, arith}
use Rattle.hg_root.specs.Grammar.{ReportFits, SegmentFits}
use Rattle.hg_checkpoint.proofs.capturing.has_spelling.Goals as goal

pub returns : goal.returns
returns g c =
    let d = c.args.detector.now in
    let segment_count : length d.segments < 2 ^ 32 = omega (arith, c.segments.ensures.few) in
    let report_count : length d.kept < 2 ^ 32 = omega (arith, c.kept-kept.ensures.few) in
    let thread_count : length c.args.threads.now < 2 ^ 16 = omega (arith, c.if-threads-ge-COUNTS.false) in
    let source_count : length c.args.sources.now < 2 ^ 16 = omega (arith, c.if-sources-ge-COUNTS.false) in
    let segments : All SegmentFits d.segments = search rules in
    let reports : All ReportFits d.kept = search rules in (
      λ told. record {
        segments_fit = segments;
        segment_count = segment_count;
        threads_fit = search rules;
        thread_count = thread_count;
        sets_fit = search rules;
        set_count = search rules;
        reports_fit = reports;
        report_count = report_count;
        sources_fit = search rules;
        source_count = source_count;
      },
      λ are. let sets = are.sets_fit in search rules,
    )
