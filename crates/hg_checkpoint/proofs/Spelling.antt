-- Parts that have a spelling, and heads that do.
use Rattle.std.proofs.Common.{◌<◌, ◌^◌, ◌≤◌, ◌≡◌, ℕ, List, All, sym, subst}
use Rattle.std.specs.Prelude.{slice_index}
use Rattle.std.proofs.lemmas.List.Elements.{All-from_recursion, recursion_from_All}
use Rattle.hg_model.specs.declared.thread.ThreadState.{ThreadState}
use Rattle.hg_cells.specs.declared.cell.Cell.{Cell}
use Rattle.hg_detect.specs.Shown.{ShownDetector, content}
use Rattle.hg_root.specs.declared.parts.SourceCount.{SourceCount}
use Rattle.hg_contents.specs.Heads.{ADetectorHasALawfulHead, FitsARoot, ThreadsHaveSmallNumbers, source_counts}
use Rattle.hg_root.specs.Grammar.{HeadFits, ReportFits, SegmentFits, SetFits, SourceFits, ThreadFits}
use Rattle.hg_root.specs.Parts.{Parts}
use Rattle.hg_checkpoint.specs.Capturing.{AreSpelled, IsNumbered, parts_with}

pub head_fits : (p : Parts) → p.number < 2 ^ 64 → p.events < 2 ^ 64 → p.total < 2 ^ 64 → AreSpelled p.segments p.threads p.sets p.reports p.sources → HeadFits p
head_fits p number events total are = record {
  number = number;
  events = events;
  segment_count = are.segment_count;
  segments = recursion_from_All SegmentFits p.segments are.segments_fit;
  thread_count = are.thread_count;
  threads = recursion_from_All ThreadFits p.threads (λ k d lt. (are.threads_fit k d lt).0);
  set_count = are.set_count;
  sets = recursion_from_All SetFits p.sets are.sets_fit;
  total = total;
  report_count = are.report_count;
  reports = recursion_from_All ReportFits p.reports are.reports_fit;
  source_count = are.source_count;
  sources = recursion_from_All SourceFits p.sources are.sources_fit;
}

pub numbers_small : (threads : List ThreadState) → All IsNumbered threads → All (λ t. t.number < 1024) threads
numbers_small threads are k d lt = (are k d lt).1

pub are_spelled : (p : Parts) → HeadFits p → All (λ t. t.number < 1024) p.threads → AreSpelled p.segments p.threads p.sets p.reports p.sources
are_spelled p fits small = record {
  segments_fit = All-from_recursion SegmentFits p.segments fits.segments;
  segment_count = fits.segment_count;
  threads_fit = λ k d lt. (All-from_recursion ThreadFits p.threads fits.threads k d lt, small k d lt);
  thread_count = fits.thread_count;
  sets_fit = All-from_recursion SetFits p.sets fits.sets;
  set_count = fits.set_count;
  reports_fit = All-from_recursion ReportFits p.reports fits.reports;
  report_count = fits.report_count;
  sources_fit = All-from_recursion SourceFits p.sources fits.sources;
  source_count = fits.source_count;
}

-- what fits a root has a spelling
pub spells : {W : Type 0} (cell_of : W → ℕ → Cell) (d : ShownDetector W) (number : ℕ) (sources : List SourceCount) → ADetectorHasALawfulHead cell_of → ThreadsHaveSmallNumbers
    → sources ≡ source_counts (slice_index d.parts.last) → 1 ≤ number → number ≤ 2 ^ 58 → FitsARoot cell_of d → AreSpelled d.segments d.parts.threads d.sets.sets d.kept sources
spells cell_of d number sources heads numbers same least most fits =
    subst (λ (s : List SourceCount). AreSpelled d.segments d.parts.threads d.sets.sets d.kept s) (sym same)
    (are_spelled (parts_with number d) (heads d number fits least most).fits (numbers (content cell_of d) fits.lawful))
