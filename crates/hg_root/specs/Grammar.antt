-- The bytes of a root's body, in the form that is written and in the former one. All numbers are written high byte first.
use Rattle.std.specs.Prelude.{ℕ, ◌<◌, ◌^◌, List, [], ◌∷◌, ◌++◌, length, if◌then◌else◌}
use Rattle.std.specs.List.{AllByRecursion, flat_map}
use Rattle.std.specs.Int.{w16, w32, w64, to_be_bytes}
use Rattle.hg_model.specs.Segments.{present}
use Rattle.hg_model.specs.declared.held.HeldLock.{HeldLock}
use Rattle.hg_model.specs.declared.segment.Mark.{Mark}
use Rattle.hg_model.specs.declared.segment.Mark.TheVariants.{Plain, Sent, Got}
use Rattle.hg_model.specs.declared.segment.Segment.{Segment}
use Rattle.hg_model.specs.declared.thread.ThreadState.{ThreadState}
use Rattle.hg_cells.specs.declared.report.KeptReport.{KeptReport}
use Rattle.hg_root.specs.declared.form.Form.{Form}
use Rattle.hg_root.specs.declared.form.Form.TheVariants.{Former, Written}
use Rattle.hg_root.specs.declared.parts.PageSlot.{PageSlot}
use Rattle.hg_root.specs.declared.parts.SourceCount.{SourceCount}
use Rattle.hg_root.specs.Parts.{Parts}

-- "HGROOT2" and a line feed; in the former form "HGROOT1" and a line feed
abbrev pub header : Form → List ℕ
header Written = 72 ∷ 71 ∷ 82 ∷ 79 ∷ 79 ∷ 84 ∷ 50 ∷ 10 ∷ []
header Former = 72 ∷ 71 ∷ 82 ∷ 79 ∷ 79 ∷ 84 ∷ 49 ∷ 10 ∷ []

-- their number in four bytes, and then each
abbrev pub many_text : {X : Type 0} → (X → List ℕ) → List X → List ℕ
many_text text items = to_be_bytes w32 (length items) ++ flat_map text items

-- their number in two bytes, and then each
abbrev pub some_text : {X : Type 0} → (X → List ℕ) → List X → List ℕ
some_text text items = to_be_bytes w16 (length items) ++ flat_map text items

-- their number in one byte, and then each
abbrev pub few_text : {X : Type 0} → (X → List ℕ) → List X → List ℕ
few_text text items = length items ∷ flat_map text items

-- 0, or 1 and the message that was sent, or 2 and the message that was received; nothing in the former form
abbrev pub mark_text : Form → Mark → List ℕ
mark_text Written Plain = 0 ∷ []
mark_text Written (Sent k) = 1 ∷ to_be_bytes w32 k
mark_text Written (Got k) = 2 ∷ to_be_bytes w32 k
mark_text Former mark = []

-- the thread, the segments right before this one, and the mark
abbrev pub segment_text : Form → Segment → List ℕ
segment_text form s = to_be_bytes w16 s.thread ++ (few_text (to_be_bytes w32) s.before ++ mark_text form s.mark)

-- the lock, and 1 if it is held for writing, 2 if for reading
abbrev pub lock_text : HeldLock → List ℕ
lock_text h = to_be_bytes w16 h.lock ++ (if h.write then 1 else 2) ∷ []

-- the thread, whether it lives, its last segment, and the locks that it holds
abbrev pub thread_text : List Segment → ThreadState → List ℕ
thread_text segments t = to_be_bytes w16 t.number ++ (if t.alive then 1 else 0) ∷ (to_be_bytes w32 (present segments t.number) ++ few_text lock_text t.held)

-- the members
abbrev pub set_text : List ℕ → List ℕ
set_text members = some_text (to_be_bytes w16) members

-- the event, the word, the thread, 7 for a write and 6 for a read, and the number of the thread set
abbrev pub report_text : KeptReport → List ℕ
report_text r = to_be_bytes w64 r.event ++ (to_be_bytes w64 r.word ++ (to_be_bytes w16 r.thread ++ (if r.write then 7 else 6) ∷ to_be_bytes w32 r.threads))

abbrev pub source_text : SourceCount → List ℕ
source_text s = to_be_bytes w16 s.source ++ to_be_bytes w64 s.last

abbrev pub page_text : PageSlot → List ℕ
page_text p = to_be_bytes w64 p.page ++ to_be_bytes w32 p.slot

-- the page table
abbrev pub pages_text : List PageSlot → List ℕ
pages_text pages = many_text page_text pages

-- the body up to the page table, part after part
abbrev pub head_in : Form → Parts → List ℕ
head_in form p =
    header form ++ (to_be_bytes w64 p.number ++ (to_be_bytes w64 p.events
    ++ (many_text (segment_text form) p.segments
    ++ (some_text (thread_text p.segments) p.threads
    ++ (many_text set_text p.sets
    ++ (to_be_bytes w64 p.total ++ (many_text report_text p.reports
    ++ some_text source_text p.sources)))))))

-- the body
abbrev pub text_in : Form → Parts → List ℕ
text_in form p = head_in form p ++ pages_text p.pages

-- The head that is written, and the body.
abbrev pub head_text : Parts → List ℕ
head_text p = head_in Written p

abbrev pub root_text : Parts → List ℕ
root_text p = text_in Written p

-- The body in the former form, which spells no mark.
abbrev pub former_text : Parts → List ℕ
former_text p = text_in Former p

-- ---- which parts have a spelling: each number and each count fits its field

abbrev pub MarkFits : Mark → Type 0
MarkFits Plain = Unit {0}
MarkFits (Sent k) = k < 2 ^ 32
MarkFits (Got k) = k < 2 ^ 32

abbrev pub SegmentFits : Segment → Type 0
SegmentFits s = (s.thread < 2 ^ 16) × (((length s.before < 2 ^ 8) × AllByRecursion (λ k. k < 2 ^ 32) s.before) × MarkFits s.mark)

abbrev pub LockFits : HeldLock → Type 0
LockFits h = h.lock < 2 ^ 16

abbrev pub ThreadFits : ThreadState → Type 0
ThreadFits t = (t.number < 2 ^ 16) × ((length t.held < 2 ^ 8) × AllByRecursion LockFits t.held)

abbrev pub SetFits : List ℕ → Type 0
SetFits members = (length members < 2 ^ 16) × AllByRecursion (λ m. m < 2 ^ 16) members

abbrev pub ReportFits : KeptReport → Type 0
ReportFits r = (r.event < 2 ^ 64) × ((r.word < 2 ^ 64) × ((r.thread < 2 ^ 16) × (r.threads < 2 ^ 32)))

abbrev pub SourceFits : SourceCount → Type 0
SourceFits s = (s.source < 2 ^ 16) × (s.last < 2 ^ 64)

abbrev pub PageFits : PageSlot → Type 0
PageFits p = (p.page < 2 ^ 64) × (p.slot < 2 ^ 32)

-- Each part has a spelling.
pub record HeadFits (p : Parts) : Type 0 where
  pub number : p.number < 2 ^ 64
  pub events : p.events < 2 ^ 64
  pub segment_count : length p.segments < 2 ^ 32
  pub segments : AllByRecursion SegmentFits p.segments
  pub thread_count : length p.threads < 2 ^ 16
  pub threads : AllByRecursion ThreadFits p.threads
  pub set_count : length p.sets < 2 ^ 32
  pub sets : AllByRecursion SetFits p.sets
  pub total : p.total < 2 ^ 64
  pub report_count : length p.reports < 2 ^ 32
  pub reports : AllByRecursion ReportFits p.reports
  pub source_count : length p.sources < 2 ^ 16
  pub sources : AllByRecursion SourceFits p.sources

pub record PagesFit (pages : List PageSlot) : Type 0 where
  pub count : length pages < 2 ^ 32
  pub each : AllByRecursion PageFits pages
