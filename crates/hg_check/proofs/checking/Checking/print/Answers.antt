use Rattle.std.proofs.Common.{◌≡◌, length, refl, sym, ◌∙◌}
use Rattle.std.proofs.lemmas.List.{length-map}
use Rattle.hg_detect.specs.declared.detector.Detector.{Detector}
use Rattle.hg_cells.specs.declared.paged.PagedWords.{PagedWords}
use Rattle.hg_detect.specs.Memory.{content_of}
use Rattle.hg_detect.specs.Shown.{report_of}
use Rattle.hg_check.proofs.Sinking.{takes_nothing, takes_printed}
use Rattle.hg_check.proofs.checking.Checking.print.Goals as goal

reports_kept : (d : Detector PagedWords) → length d.kept ≡ length (content_of d).reports
reports_kept d = sym (length-map d.kept (report_of d.sets.sets))

pub returns-in-Reports : goal.returns-in-Reports
returns-in-Reports g c =
    let count = c.kept-self.ensures.count ∙ reports_kept c.args.self.now.detector in
    let printed = takes_printed c.args.self.now (record c.args.self.now { printed = c.kept-self.result; held = c.print_reports.new.held }) c.args.output.now.calls c.print_reports.new.output.calls c.print_reports.result c.in-Reports.is refl refl count
    c.print_reports.ensures.printed c.print_reports.ensures.front c.print_reports.ensures.cause c.print_reports.ensures.fault in
    record {
      ok = printed.0;
      err = printed.1;
      detector = refl;
      count = count;
    }

pub returns-in-Segments : goal.returns-in-Segments
returns-in-Segments g c =
    let count = c.kept-self.ensures.count ∙ reports_kept c.args.self.now.detector in
    record {
      ok = takes_nothing c.args.self.now _ c.args.output.now.calls c.in-Segments.is refl refl count refl;
      err = tt;
      detector = refl;
      count = count;
    }
