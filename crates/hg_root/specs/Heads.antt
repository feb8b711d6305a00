-- The parts that a head is made of.
use Rattle.std.specs.Prelude.{ℕ, List, []}
use Rattle.hg_model.specs.declared.segment.Segment.{Segment}
use Rattle.hg_model.specs.declared.thread.ThreadState.{ThreadState}
use Rattle.hg_cells.specs.declared.report.KeptReport.{KeptReport}
use Rattle.hg_sets.specs.Interning.{Table}
use Rattle.hg_root.specs.declared.head_parts.HeadParts.{HeadParts}
use Rattle.hg_root.specs.declared.parts.SourceCount.{SourceCount}
use Rattle.hg_root.specs.Parts.{Parts}

-- a content's parts, with no page yet
abbrev pub head_parts : ℕ → ℕ → List Segment → List ThreadState → Table → ℕ → List KeptReport → List SourceCount → Parts
head_parts number events segments threads sets total reports sources =
    record { number = number; events = events; segments = segments; threads = threads; sets = sets.sets; total = total; reports = reports; sources = sources; pages = [] }

-- the parts that the code hands over
abbrev pub parts_in : HeadParts → Parts
parts_in p = head_parts p.number p.events p.graph.now p.threads.now p.sets.now p.total p.reports.now p.sources.now
