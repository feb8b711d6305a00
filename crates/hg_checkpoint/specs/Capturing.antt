-- The head of a root that is made from a detector.
use Rattle.std.specs.Prelude.{◌<◌, ◌^◌, All, length, ℕ, List, [], ◌∷◌, nat_lt, slice_index, Result, IsErrOf, if◌then◌else◌}
use Rattle.hg_model.specs.declared.limits.TheConstants.{THREAD_NUMBERS}
use Rattle.hg_model.specs.declared.thread.ThreadState.{ThreadState}
use Rattle.hg_model.specs.declared.segment.Segment.{Segment}
use Rattle.hg_cells.specs.declared.report.KeptReport.{KeptReport}
use Rattle.hg_detect.specs.Shown.{ShownDetector}
use Rattle.hg_root.specs.declared.parts.SourceCount.{SourceCount}
use Rattle.hg_root.specs.Grammar.{ReportFits, SegmentFits, SetFits, SourceFits, ThreadFits}
use Rattle.hg_root.specs.Heads.{head_parts}
use Rattle.hg_root.specs.Parts.{Parts}
use Rattle.hg_contents.specs.Heads.{source_counts}
use Rattle.hg_checkpoint.specs.declared.fault.HeadFault.{HeadFault}
use Rattle.hg_checkpoint.specs.declared.fault.HeadFault.TheVariants.{Damaged}

-- the parts of a root with this number and these sources, and with all parts of the detector but its words
abbrev pub head_with : {W : Type 0} → ℕ → ShownDetector W → List SourceCount → Parts
head_with number d sources = head_parts number d.parts.events d.segments d.parts.threads d.sets d.total d.kept sources

-- the parts of a root with this number, with the sources that sent something and all parts of the detector but its words
abbrev pub parts_with : {W : Type 0} → ℕ → ShownDetector W → Parts
parts_with number d = head_parts number d.parts.events d.segments d.parts.threads d.sets d.total d.kept (source_counts (slice_index d.parts.last))

-- a source with its last number, if it sent something
abbrev pub if_sent : ℕ → ℕ → List SourceCount
if_sent source last = if nat_lt 0 last then record { source = source; last = last } ∷ [] else []

-- the thread has a spelling, and a number of a thread
abbrev pub IsNumbered : ThreadState → Type 0
IsNumbered t = ThreadFits t × (t.number < THREAD_NUMBERS)

-- Each of these parts of a head has a spelling.
pub record AreSpelled (segments : List Segment) (threads : List ThreadState) (sets : List (List ℕ)) (reports : List KeptReport) (sources : List SourceCount) : Type 0 where
  pub segments_fit : All SegmentFits segments
  pub segment_count : length segments < 2 ^ 32
  pub threads_fit : All IsNumbered threads
  pub thread_count : length threads < 2 ^ 16
  pub sets_fit : All SetFits sets
  pub set_count : length sets < 2 ^ 32
  pub reports_fit : All ReportFits reports
  pub report_count : length reports < 2 ^ 32
  pub sources_fit : All SourceFits sources
  pub source_count : length sources < 2 ^ 16

-- The parts of a head that the detector shows, with these threads and sources, have a spelling.
abbrev pub IsSpelled : {W : Type 0} → ShownDetector W → List ThreadState → List SourceCount → Type 0
IsSpelled d threads sources = AreSpelled d.segments threads d.sets.sets d.kept sources

-- P holds after a Damaged.
abbrev pub IfDamaged : {T : Type 0} → Result T HeadFault → Type 0 → Type 0
IfDamaged result P = IsErrOf result Damaged → P
