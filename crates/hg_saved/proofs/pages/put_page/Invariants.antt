use Rattle.std.proofs.Common.{◌≡◌, true, is_some}
use Rattle.hg_cells.specs.Paged.{page_of}
use Rattle.hg_saved.proofs.Putting.{PutsFront}
use Rattle.hg_saved.proofs.pages.put_page.Given as goal

abbrev pub invariant-loop-place : goal.invariant-loop-place
invariant-loop-place l = (is_some (page_of l.words l.page) ≡ true) × PutsFront l.page l.cells l.place l.fn.words l.words
