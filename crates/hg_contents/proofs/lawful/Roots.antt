-- The content of a lawful root and its pages is a lawful state.
use Rattle.std.proofs.Common.{◌≡◌, ℕ, zero, suc, ◌+◌, ◌/◌, ◌%◌, ◌≤◌, ◌<◌, Bool, true, false, cond, ◌||◌, nat_eq, List, [], ◌∷◌, length, map, take, get_or, slice_get, All, Option, Some, None, refl, sym, ap, ◌∙◌, ⊎_elim, subst, arith}
use Rattle.std.specs.List.{AllByRecursion}
use Rattle.std.specs.List.Sorted.{IsStrictlyIncreasing}
use Rattle.std.specs.Option.{option_map}
use Rattle.std.proofs.lemmas.Bool.{and_parts, cases_eq, ltb-true, ne_eqb}
use Rattle.std.proofs.lemmas.List.{length-map}
use Rattle.std.proofs.lemmas.List.Elements.{All-from_recursion, recursion_from_All}
use Rattle.std.proofs.lemmas.Option.{slice_get-get_or, slice_get-map}
use Rattle.hg_model.specs.declared.report.Report.{Report}
use Rattle.hg_model.specs.declared.segment.Segment.{Segment}
use Rattle.hg_model.specs.declared.thread.ThreadState.{ThreadState}
use Rattle.hg_model.specs.Sharing.{threads_in}
use Rattle.hg_model.specs.ThreadSets.{HasThreadSets, IsThreadSet, RisesFrom}
use Rattle.hg_model.proofs.Rising.{From, from_increasing}
use Rattle.hg_cells.specs.declared.cell.Cell.{Cell}
use Rattle.hg_cells.specs.declared.cell.Cell.TheVariants.{New, Exclusive, SharedRead, SharedModified}
use Rattle.hg_cells.specs.declared.report.KeptReport.{KeptReport}
use Rattle.hg_cells.specs.Cells.{meaning}
use Rattle.hg_graph.specs.Restoring.{AreSegments, has_thread, stands_behind}
use Rattle.hg_sets.specs.Interning.{set_at}
use Rattle.hg_detect.specs.Making.{sets_in}
use Rattle.hg_detect.specs.Shown.{report_of}
use Rattle.hg_pages.specs.Slots.{AreKnown, IsKnown}
use Rattle.hg_root.specs.declared.parts.PageSlot.{PageSlot}
use Rattle.hg_root.specs.Checkpoints.{Checkpoint, HasPages}
use Rattle.hg_root.specs.Grammar.{LockFits, MarkFits, ReportFits, SegmentFits, SetFits, ThreadFits}
use Rattle.hg_root.specs.Lawful.{IsLawful, IsReport}
use Rattle.hg_root.specs.Lawful as root
use Rattle.hg_contents.specs.Images.{cell_of, content_of, has_slot}
use Rattle.hg_contents.specs.Lawful.{AreInOrder, IsBefore, IsLawfulContent, IsReportOf}
use Rattle.hg_contents.specs.Spellings.{HasSpellings}
use Rattle.hg_contents.specs.States.{IsLawfulState}
use Rattle.hg_contents.proofs.lawful.Lists.{each_mapped, each_weaker, each_with}
use Rattle.hg_contents.proofs.lawful.Reading.{have_sent}
use Rattle.hg_contents.proofs.lawful.Sharing.{known_word}

-- ---- thread sets

rises : (n : ℕ) (ts : List ℕ) → From n ts → AllByRecursion (λ t. t ≤ 1023) ts → RisesFrom n ts
rises n [] from small = tt
rises n (t ∷ ts) from small =
    let up : suc t ≡ t + 1 = omega arith in
    (from.0, small.0, rises (t + 1) ts (subst (λ (m : ℕ). From m ts) up from.1) small.1)

thread_set : (ts : List ℕ) → IsStrictlyIncreasing ts → All (λ t. t ≤ 1023) ts → IsThreadSet ts
thread_set ts rising small = rises 0 ts (from_increasing 0 ts (λ some. omega arith) rising) (recursion_from_All (λ (t : ℕ). t ≤ 1023) ts small)

set_fits : (sets : List (List ℕ)) → AllByRecursion SetFits sets → (id : ℕ) → SetFits (set_at sets id)
set_fits [] all id = (omega arith, tt)
set_fits (set ∷ sets) all zero = all.0
set_fits (set ∷ sets) all (suc id) = set_fits sets all.1 id

module _ (segments : ℕ) (sets : List (List ℕ)) (rising : All IsStrictlyIncreasing sets) where
  named_set : (id : ℕ) → id < length sets → All (λ t. t ≤ 1023) (set_at sets id) → IsThreadSet (set_at sets id)
  named_set id lt small = thread_set (set_at sets id) (rising id [] lt) small

  word_threads : (cell : Cell) → IsKnown segments sets cell → IsThreadSet (threads_in (meaning sets cell))
  word_threads New known = tt
  word_threads (Exclusive s) known = tt
  word_threads (SharedRead threads locks) known = named_set threads known.0.known known.0.threads
  word_threads (SharedModified threads locks) known = named_set threads known.0.known known.0.threads

word_sets : (sets : List (List ℕ)) → AllByRecursion SetFits sets → (cell : Cell) → AllByRecursion SetFits (sets_in (meaning sets cell))
word_sets sets all New = tt
word_sets sets all (Exclusive s) = tt
word_sets sets all (SharedRead threads locks) = (set_fits sets all threads, (set_fits sets all locks, tt))
word_sets sets all (SharedModified threads locks) = (set_fits sets all threads, (set_fits sets all locks, tt))

-- ---- pages

-- what holds of each page of the table holds of one that has a slot
of_page : (P : ℕ → Type 0) (pages : List PageSlot) (page : ℕ) → AllByRecursion (λ p. P p.page) pages → has_slot pages page ≡ true → P page
of_page P [] page all has = absurd cc
of_page P (p ∷ pages) page all has = ⊎_elim (λ same. subst P same all.0) (λ other. of_page P pages page all.1 (ap (λ (b : Bool). b || has_slot pages page) (sym (ne_eqb p.page page other)) ∙ has)) (cases_eq p.page page)

cell_at : (P : Cell → Type 0) → P New → (cells : List Cell) (k : ℕ) → AllByRecursion P cells → P (get_or cells k New)
cell_at P new [] k all = new
cell_at P new (x ∷ cells) zero all = all.0
cell_at P new (x ∷ cells) (suc k) all = cell_at P new cells k all.1

either_cell : (P : Cell → Type 0) → P New → (b : Bool) (cell : Cell) → (b ≡ true → P cell) → P (cond b cell New)
either_cell P new true cell holds = holds refl
either_cell P new false cell holds = new

-- ---- segments and reports

thread_small : (n t : ℕ) → has_thread n t ≡ true → t ≤ 1023
thread_small n t has = pick (eqb0 n) (ltb-true t (cond (eqb0 n) 1 1024) has)
  where
    eqb0 : ℕ → Bool
    eqb0 n = nat_eq n 0

    pick : (b : Bool) → t < cond b 1 1024 → t ≤ 1023
    pick true lt = omega (arith, lt)
    pick false lt = omega (arith, lt)

threads_small : (segments : List Segment) → AreSegments segments → AllByRecursion (λ s. s.thread ≤ 1023) segments
threads_small segments are = recursion_from_All (λ (s : Segment). s.thread ≤ 1023) segments (λ k d lt. small k (get_or segments k d) (are k (get_or segments k d) (slice_get-get_or segments k d lt)))
  where
    small : (k : ℕ) (s : Segment) → stands_behind (take k segments) s ≡ true → s.thread ≤ 1023
    small k s stands = thread_small (length (take k segments)) s.thread (and_parts (has_thread (length (take k segments)) s.thread) _ stands).0

module _ (sets : List (List ℕ)) where
  some_report : (r : KeptReport) (a : Report) → Some (report_of sets r) ≡ Some a → report_of sets r ≡ a
  some_report r a is = cc

  in_order : (kept : List KeptReport) → root.AreInOrder kept → AreInOrder (map (report_of sets) kept)
  in_order kept order k a b at next =
      from (slice_get kept k) (slice_get kept (k + 1)) refl refl (sym (slice_get-map (report_of sets) kept k) ∙ at) (sym (slice_get-map (report_of sets) kept (k + 1)) ∙ next)
    where
      from : (x y : Option KeptReport) → slice_get kept k ≡ x → slice_get kept (k + 1) ≡ y → option_map (report_of sets) x ≡ Some a → option_map (report_of sets) y ≡ Some b → IsBefore a b
      from None y one other is then = absurd cc
      from (Some r) None one other is then = absurd cc
      from (Some r) (Some s) one other is then =
          subst (λ (x : Report). IsBefore x b) (some_report r a is) (subst (λ (y : Report). IsBefore (report_of sets r) y) (some_report s b then) (order k r s one other))

  report_is : (events : ℕ) (r : KeptReport) → IsReport events sets r → ReportFits r → IsReportOf events (report_of sets r)
  report_is events r is fits = record { event = is.event; word = (is.word, fits.1.0); member = is.member; threads = is.threads }

-- ---- the state

module _ (c : Checkpoint) (slots : List ℕ) (is : IsLawful c.root) (pages : HasPages slots c) where
  abbrev sets : List (List ℕ)
  sets = c.root.sets

  reports_are : AllByRecursion (IsReport c.root.events sets) c.root.reports
  reports_are = recursion_from_All (IsReport c.root.events sets) c.root.reports is.head.reports

  content_is_lawful : IsLawfulContent (content_of c)
  content_is_lawful = record {
    events = is.head.events;
    segment_count = is.head.segment_count;
    segments = is.head.segments;
    threads = is.head.threads;
    named = is.head.named;
    held = is.head.held;
    total = is.head.total;
    kept = length-map c.root.reports (report_of sets) ∙ is.head.kept;
    reports = All-from_recursion (IsReportOf c.root.events) (map (report_of sets) c.root.reports)
        (each_mapped (IsReportOf c.root.events) (report_of sets) c.root.reports
        (each_with (IsReport c.root.events sets) ReportFits (λ r. IsReportOf c.root.events (report_of sets r)) (report_is sets c.root.events) c.root.reports reports_are is.head.fits.reports));
    order = in_order sets c.root.reports is.head.order;
    last = have_sent c.root.sources c.root.events is.head.sources;
  }

  content_is_spelled : HasSpellings (content_of c)
  content_is_spelled = record {
    messages = All-from_recursion (λ (s : Segment). MarkFits s.mark) c.root.segments (each_weaker SegmentFits (λ s. MarkFits s.mark) (λ s fits. fits.1.1) c.root.segments is.head.fits.segments);
    locks = All-from_recursion (λ (t : ThreadState). All LockFits t.held) c.root.threads (each_weaker ThreadFits (λ t. All LockFits t.held) (λ t fits. All-from_recursion LockFits t.held fits.1.1) c.root.threads is.head.fits.threads);
    words = λ w. All-from_recursion SetFits _ (word_sets sets is.head.fits.sets (cell_of c w));
  }

  -- the cells of a page that has a slot
  known_pages : AllByRecursion (λ p. AreKnown (length c.root.segments) sets (c.cells_of p.page)) c.root.pages
  known_pages = recursion_from_All (λ (p : PageSlot). AreKnown (length c.root.segments) sets (c.cells_of p.page)) c.root.pages (λ k d lt. (pages k d lt).known)

  known_cell : (w : ℕ) → IsKnown (length c.root.segments) sets (cell_of c w)
  known_cell w =
      either_cell (IsKnown (length c.root.segments) sets) tt (has_slot c.root.pages (w / 256)) (get_or (c.cells_of (w / 256)) (w % 256) New)
      (λ has. cell_at (IsKnown (length c.root.segments) sets) tt (c.cells_of (w / 256)) (w % 256) (of_page (λ page. AreKnown (length c.root.segments) sets (c.cells_of page)) c.root.pages (w / 256) known_pages has))

  content_has_sets : HasThreadSets (content_of c)
  content_has_sets = record {
    segments = threads_small c.root.segments is.head.segments;
    words = λ w. word_threads (length c.root.segments) sets is.head.sets.rising (cell_of c w) (known_cell w);
    reports = each_mapped (λ r. IsThreadSet r.threads) (report_of sets) c.root.reports
        (each_weaker (IsReport c.root.events sets) (λ r. IsThreadSet (set_at sets r.threads)) (λ r report. named_set (length c.root.segments) sets is.head.sets.rising r.threads report.set report.threads) c.root.reports reports_are);
  }

  pub root_state : IsLawfulState (content_of c)
  root_state = record { lawful = content_is_lawful; spelled = content_is_spelled; sets = content_has_sets; words = λ w. known_word (length c.root.segments) sets (cell_of c w) (known_cell w) }
