-- A lawful content, as a detector shows it, is the head of a root.
use Rattle.std.proofs.Common.{◌≡◌, ℕ, ◌+◌, ◌≤◌, ◌<◌, ◌^◌, min, List, [], ◌∷◌, length, map, slice_get, Some, All, refl, sym, ap, ◌∙◌, subst, arith}
use Rattle.std.specs.List.{AllByRecursion}
use Rattle.std.proofs.lemmas.List.{length-map}
use Rattle.std.proofs.lemmas.List.Elements.{All-from_recursion, recursion_from_All}
use Rattle.std.proofs.lemmas.Option.{slice_get-map}
use Rattle.std.specs.Option.{option_map}
use Rattle.hg_model.specs.declared.report.Report.{Report}
use Rattle.hg_model.specs.declared.thread.ThreadState.{ThreadState}
use Rattle.hg_model.specs.Contents.{Content}
use Rattle.hg_cells.specs.declared.cell.Cell.{Cell}
use Rattle.hg_cells.specs.declared.report.KeptReport.{KeptReport}
use Rattle.hg_sets.specs.Interning.{AreSets, Table}
use Rattle.hg_detect.specs.Shown.{content, report_of}
use Rattle.hg_root.specs.Grammar.{HeadFits, LockFits, MarkFits, ReportFits, SetFits}
use Rattle.hg_root.specs.Heads.{head_parts}
use Rattle.hg_root.specs.Lawful.{IsLawfulHead, IsReport}
use Rattle.hg_root.specs.Lawful as root
use Rattle.hg_contents.specs.Lawful.{IsLawfulContent, IsReportOf}
use Rattle.hg_contents.specs.Heads.{ADetectorHasALawfulHead, source_counts}
use Rattle.hg_contents.proofs.lawful.Fits.{report_fits, segments_fit, threads_few, threads_fit}
use Rattle.hg_contents.proofs.lawful.Fitting.{numbered}
use Rattle.hg_contents.proofs.lawful.Living.{each_unmapped}
use Rattle.hg_contents.proofs.lawful.Lists.{each_weaker, each_with}
use Rattle.hg_contents.proofs.lawful.Sources.{counts_few, counts_fit, have_sent}

unmapped : (P : Report → Type 0) (f : KeptReport → Report) (kept : List KeptReport) → AllByRecursion P (map f kept) → AllByRecursion (λ r. P (f r)) kept
unmapped P f [] all = tt
unmapped P f (r ∷ kept) all = (all.0, unmapped P f kept all.1)

-- a lawful content with its table of sets, and its reports as they are kept
pub record IsShown (c : Content) (sets : Table) (kept : List KeptReport) : Type 0 where
  pub lawful : IsLawfulContent c
  pub table : AreSets sets
  pub members : All SetFits sets.sets
  pub messages : All (λ s. MarkFits s.mark) c.segments
  pub locks : All (λ t. All LockFits t.held) c.threads
  pub reports : c.reports ≡ map (report_of sets.sets) kept
  pub named : All (λ r. r.threads < length sets.sets) kept

module _ (c : Content) (sets : Table) (kept : List KeptReport) (shown : IsShown c sets kept) where
  -- each report, of which the set has a number too
  each_report : AllByRecursion (λ r. IsReportOf c.events (report_of sets.sets r) × (r.threads < length sets.sets)) kept
  each_report =
      each_with (λ r. IsReportOf c.events (report_of sets.sets r)) (λ r. r.threads < length sets.sets) (λ r. IsReportOf c.events (report_of sets.sets r) × (r.threads < length sets.sets)) (λ r a b. (a, b)) kept
      (unmapped (IsReportOf c.events) (report_of sets.sets) kept (subst (AllByRecursion (IsReportOf c.events)) shown.reports (recursion_from_All (IsReportOf c.events) c.reports shown.lawful.reports)))
      (recursion_from_All (λ (r : KeptReport). r.threads < length sets.sets) kept shown.named)

  is_report : (r : KeptReport) → IsReportOf c.events (report_of sets.sets r) × (r.threads < length sets.sets) → IsReport c.events sets.sets r
  is_report r is = record { event = is.0.event; word = is.0.word.0; set = is.1; member = is.0.member; threads = is.0.threads }

  sets_few : length sets.sets ≤ 262144
  sets_few = let limit = shown.table.limit in let within = shown.table.within in omega (arith, limit, within)

  few_kept : length kept ≡ length c.reports
  few_kept = sym (ap length shown.reports ∙ length-map kept (report_of sets.sets))

  kept_is : length kept ≡ min c.total 65536
  kept_is = few_kept ∙ shown.lawful.kept

  in_order : root.AreInOrder kept
  in_order k a b one next = shown.lawful.order k (report_of sets.sets a) (report_of sets.sets b) (at k a one) (at (k + 1) b next)
    where
      at : (k : ℕ) (r : KeptReport) → slice_get kept k ≡ Some r → slice_get c.reports k ≡ Some (report_of sets.sets r)
      at k r is = ap (λ rs. slice_get rs k) shown.reports ∙ slice_get-map (report_of sets.sets) kept k ∙ ap (option_map (report_of sets.sets)) is

  head_fits : (number : ℕ) → number ≤ 2 ^ 58 → HeadFits (head_parts number c.events c.segments c.threads sets c.total kept (source_counts c.last))
  head_fits number most =
      let lawful = shown.lawful in
      let few = lawful.events in
      let count = lawful.segment_count.1 in
      let total = lawful.total in
      record {
        number = omega (arith, most);
        events = omega (arith, few);
        segment_count = omega (arith, count);
        segments = segments_fit c.segments count lawful.segments shown.messages;
        thread_count = omega (arith, threads_few c.threads c.segments lawful.named);
        threads = threads_fit c.threads c.segments lawful.named lawful.held shown.locks;
        set_count = omega (arith, sets_few);
        sets = recursion_from_All SetFits sets.sets shown.members;
        total = omega (arith, total, few);
        report_count = omega (arith, kept_is);
        reports = each_weaker (λ r. IsReportOf c.events (report_of sets.sets r) × (r.threads < length sets.sets)) ReportFits (λ r is. report_fits c.events sets.sets r few sets_few is.0.word.1 (is_report r is)) kept each_report;
        source_count = omega (arith, counts_few c.last);
        sources = counts_fit c.last c.events lawful.last few;
      }

  pub head : (number : ℕ) → 1 ≤ number → number ≤ 2 ^ 58 → IsLawfulHead (head_parts number c.events c.segments c.threads sets c.total kept (source_counts c.last))
  head number least most =
      let lawful = shown.lawful in
      record {
        fits = head_fits number most;
        number = (least, most);
        events = lawful.events;
        segment_count = lawful.segment_count;
        segments = lawful.segments;
        threads = lawful.threads;
        named = lawful.named;
        held = lawful.held;
        sets = record { limit = omega arith; within = sets_few; some = shown.table.some; first_empty = shown.table.first_empty; rising = shown.table.rising; distinct = shown.table.distinct };
        total = lawful.total;
        kept = kept_is;
        reports = All-from_recursion (IsReport c.events sets.sets) kept (each_weaker (λ r. IsReportOf c.events (report_of sets.sets r) × (r.threads < length sets.sets)) (IsReport c.events sets.sets) is_report kept each_report);
        order = in_order;
        sources = have_sent c.last c.events lawful.last;
      }

pub detector_head : {W : Type 0} (cell_of : W → ℕ → Cell) → ADetectorHasALawfulHead cell_of
detector_head cell_of d number fits least most =
    head (content cell_of d) d.sets d.kept (record { lawful = fits.lawful; table = fits.table; members = fits.members; messages = fits.messages; locks = fits.locks; reports = refl; named = fits.named }) number least most

pub small_numbers : (c : Content) → IsLawfulContent c → All (λ t. t.number < 1024) c.threads
small_numbers c lawful = All-from_recursion (λ (t : ThreadState). t.number < 1024) c.threads (each_unmapped (λ n. n < 1024) c.threads (numbered c.threads c.segments lawful.named).small)
