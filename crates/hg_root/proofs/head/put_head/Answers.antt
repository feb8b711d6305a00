use Rattle.std.proofs.Common.{◌≡◌, ◌∙◌, ◌++◌, List, ap, rules}
use Rattle.std.specs.Int.{w64, to_be_bytes}
use Rattle.hg_model.specs.declared.segment.Segment.{Segment}
use Rattle.hg_root.specs.declared.form.Form.TheVariants.{Written}
use Rattle.hg_root.specs.Grammar.{ReportFits, SegmentFits, SetFits, SourceFits, ThreadFits, header, many_text, report_text, segment_text, set_text, some_text, source_text, thread_text}
use Rattle.std.proofs.lemmas.List.Elements.{All-from_recursion}
use Rattle.hg_root.proofs.HeadChain.{chain}
use Rattle.hg_root.proofs.Pairs.{on_ok}
use Rattle.hg_root.proofs.head.put_head.Goals as goal

pub put_many-requires-clause-count : goal.put_many-requires-clause-count
put_many-requires-clause-count c = rw c.segments.ensures.value c.requires.fits.segment_count

pub put_many-requires-clause-fits : goal.put_many-requires-clause-fits
put_many-requires-clause-fits c = rw c.segments.ensures.value (All-from_recursion SegmentFits c.args.parts.now.graph.now c.requires.fits.segments)

pub put_threads-requires-clause-count : goal.put_threads-requires-clause-count
put_threads-requires-clause-count c = c.requires.fits.thread_count

pub put_threads-requires-clause-numbers : goal.put_threads-requires-clause-numbers
put_threads-requires-clause-numbers c = c.requires.threads

pub put_threads-requires-clause-fits : goal.put_threads-requires-clause-fits
put_threads-requires-clause-fits c = All-from_recursion ThreadFits c.args.parts.now.threads.now c.requires.fits.threads

pub put_sets-requires : goal.put_sets-requires
put_sets-requires c = All-from_recursion SetFits c.args.parts.now.sets.now.sets c.requires.fits.sets

pub put_many-requires-2-clause-count : goal.put_many-requires-2-clause-count
put_many-requires-2-clause-count c = c.requires.fits.report_count

pub put_many-requires-2-clause-fits : goal.put_many-requires-2-clause-fits
put_many-requires-2-clause-fits c = All-from_recursion ReportFits c.args.parts.now.reports.now c.requires.fits.reports

pub put_some-requires-clause-count : goal.put_some-requires-clause-count
put_some-requires-clause-count c = c.requires.fits.source_count

pub put_some-requires-clause-fits : goal.put_some-requires-clause-fits
put_some-requires-clause-fits c = All-from_recursion SourceFits c.args.parts.now.sources.now c.requires.fits.sources

pub returns : goal.returns
returns c = on_ok c.put_some.result (λ last.
    let e1 : c.extend_from_slice.new.self.items ≡ c.args.out.now.items ++ header Written = search rules in
    let e2 : c.extend_from_slice-2.new.self.items ≡ c.extend_from_slice.new.self.items ++ to_be_bytes w64 c.args.parts.now.number = search rules in
    let e3 : c.extend_from_slice-3.new.self.items ≡ c.extend_from_slice-2.new.self.items ++ to_be_bytes w64 c.args.parts.now.events = search rules in
    let e4 : c.put_many.new.out.items ≡ c.extend_from_slice-3.new.self.items ++ many_text (segment_text Written) c.args.parts.now.graph.now = c.in_ok-put_many.ensures ∙ ap (λ (s : List Segment). c.extend_from_slice-3.new.self.items ++ many_text (segment_text Written) s) c.segments.ensures.value in
    chain c.args.out.now.items c.extend_from_slice.new.self.items c.extend_from_slice-2.new.self.items c.extend_from_slice-3.new.self.items c.put_many.new.out.items c.put_threads.new.out.items c.put_sets.new.out.items
    c.extend_from_slice-4.new.self.items c.put_many-2.new.out.items c.put_some.new.out.items (header Written) (to_be_bytes w64 c.args.parts.now.number) (to_be_bytes w64 c.args.parts.now.events) (many_text (segment_text Written) c.args.parts.now.graph.now)
    (some_text (thread_text c.args.parts.now.graph.now) c.args.parts.now.threads.now) (many_text set_text c.args.parts.now.sets.now.sets) (to_be_bytes w64 c.args.parts.now.total) (many_text report_text c.args.parts.now.reports.now) (some_text source_text c.args.parts.now.sources.now)
    e1 e2 e3 e4 c.in_ok-put_threads.ensures c.in_ok-put_sets.ensures (search rules) c.in_ok-put_many-2.ensures last) c.put_some.ensures
