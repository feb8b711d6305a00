-- The content of a root.
use Rattle.std.specs.Prelude.{ℕ, List}
use Rattle.hg_model.specs.declared.segment.Segment.{Segment}
use Rattle.hg_model.specs.declared.thread.ThreadState.{ThreadState}
use Rattle.hg_cells.specs.declared.report.KeptReport.{KeptReport}
use Rattle.hg_root.specs.declared.parts.PageSlot.{PageSlot}
use Rattle.hg_root.specs.declared.parts.SourceCount.{SourceCount}

-- The number of the checkpoint, the parts of the content but the words (reports with the number of their thread set, sets by
-- number, the last number of each source that sent something), and the slot of each page that has one.
pub record Parts : Type 0 where
  pub number : ℕ
  pub events : ℕ
  pub segments : List Segment
  pub threads : List ThreadState
  pub sets : List (List ℕ)
  pub total : ℕ
  pub reports : List KeptReport
  pub sources : List SourceCount
  pub pages : List PageSlot
