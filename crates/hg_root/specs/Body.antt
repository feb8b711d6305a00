-- Reading a whole body. (No promise to a reader rests on this file.)
use Rattle.std.specs.Prelude.{ℕ, List, ◌==◌, ◌||◌, if◌then◌else◌}
use Rattle.std.specs.Int.{w16, w32, w64}
use Rattle.hg_model.specs.declared.segment.Segment.{Segment}
use Rattle.hg_model.specs.declared.thread.ThreadState.{ThreadState}
use Rattle.hg_cells.specs.declared.report.KeptReport.{KeptReport}
use Rattle.hg_root.specs.declared.body.Back.{Back}
use Rattle.hg_root.specs.declared.form.Form.{Form}
use Rattle.hg_root.specs.declared.form.Form.TheVariants.{Former, Written}
use Rattle.hg_root.specs.declared.parts.PageSlot.{PageSlot}
use Rattle.hg_root.specs.declared.parts.SourceCount.{SourceCount}
use Rattle.hg_root.specs.Reading.{Reader, both, chained, listed, made, members_at, number_at, page_at, report_at, segment_at, source_at, such_that, thread_at}

-- the header as a number: "HGROOT2" and a line feed, or "HGROOT1" and a line feed
abbrev pub header_number : Form → ℕ
header_number Written = 5208221994664079882
header_number Former = 5208221994664079626

-- the form, which the header tells
abbrev pub form_at : Reader Form
form_at = made (λ n. if n == header_number Written then Written else Former) (such_that (λ n. (n == header_number Written) || (n == header_number Former)) (number_at w64))

-- the number of the checkpoint, the count of events, and the segments
abbrev pub FrontParts : Type 0
FrontParts = ℕ × (ℕ × List Segment)

abbrev pub front_in : Form → Reader FrontParts
front_in form = both (number_at w64) (both (number_at w64) (listed (number_at w32) (segment_at form)))

-- in either form
abbrev pub front_at : Reader FrontParts
front_at = made (λ p. p.1) (chained form_at front_in)

-- the threads
abbrev pub middle_at : List Segment → Reader (List ThreadState)
middle_at segments = listed (number_at w16) (thread_at segments)

-- the part behind the threads
abbrev pub BackParts : Type 0
BackParts = List (List ℕ) × (ℕ × (List KeptReport × (List SourceCount × List PageSlot)))

abbrev pub back_at : Reader BackParts
back_at = both (listed (number_at w32) members_at) (both (number_at w64) (both (listed (number_at w32) report_at) (both (listed (number_at w16) source_at) (listed (number_at w32) page_at))))

-- the parts that were read, as plain lists
abbrev pub seen : Back → BackParts
seen b = (b.sets.items, (b.total, (b.reports.items, (b.sources.items, b.pages.items))))
