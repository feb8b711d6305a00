-- The checks of the parts that were read. (No promise to a reader rests on this file, except on HaveLast.)
use Rattle.std.specs.Global.{Vec}
use Rattle.std.specs.Prelude.{◌≡◌, ℕ, ◌≤◌, ◌*◌, ◌==◌, List, [], ◌∷◌, length, map, min, slice_index, All, if◌then◌else◌}
use Rattle.hg_root.specs.declared.root.TheConstants.{MOST_CHECKPOINTS}
use Rattle.hg_model.specs.declared.limits.TheConstants.{MOST_ACCESS_WORDS, MOST_EVENTS, MOST_REPORTS}
use Rattle.hg_model.specs.Restoring.{AreThreads}
use Rattle.hg_model.specs.declared.segment.Segment.{Segment}
use Rattle.hg_model.specs.declared.thread.ThreadState.{ThreadState}
use Rattle.hg_sets.specs.Interning.{AreSets}
use Rattle.hg_sets.specs.declared.table.TheConstants.{MOST_SETS}
use Rattle.hg_root.specs.declared.body.Back.{Back}
use Rattle.hg_root.specs.declared.parts.SourceCount.{SourceCount}
use Rattle.hg_root.specs.Body.{BackParts, seen}
use Rattle.hg_root.specs.Lawful.{AreInOrder, HaveSent, HaveSlots, IsReport, named_threads}
use Rattle.hg_root.specs.Parts.{Parts}

-- the last number of a source, 0 if it sent nothing
abbrev pub last_number : List SourceCount → ℕ → ℕ
last_number [] source = 0
last_number (s ∷ sources) source = if s.source == source then s.last else last_number sources source

-- The list has the last number of each source at its number.
abbrev pub HaveLast : List SourceCount → List ℕ → Type 0
HaveLast sources last = (source : ℕ) → slice_index last source ≡ last_number sources source

pub record AreCounts (number events total kept : ℕ) : Type 0 where
  pub is_number : (1 ≤ number) × (number ≤ MOST_CHECKPOINTS)
  pub few_events : events ≤ MOST_EVENTS
  pub few_reports : total ≤ MOST_ACCESS_WORDS * events
  pub all_kept : kept ≡ min total MOST_REPORTS

-- the parts of a body that was read
abbrev pub made_parts : ℕ → ℕ → List Segment → List ThreadState → BackParts → Parts
made_parts number events segments threads b =
    record { number = number; events = events; segments = segments; threads = threads; sets = b.0; total = b.1.0; reports = b.1.1.0; sources = b.1.1.1.0; pages = b.1.1.1.1 }

-- the parts of a body: the part before the threads, the threads, and the part behind them
abbrev pub parts_read : ℕ × (ℕ × Vec Segment) → List ThreadState → Back → Parts
parts_read front threads back = made_parts front.0 front.1.0 front.1.1.items threads (seen back)

-- the rules that are not seen while the body is read
pub record IsChecked (p : Parts) : Type 0 where
  pub counts : AreCounts p.number p.events p.total (length p.reports)
  pub threads : AreThreads p.threads
  pub named : map (λ t. t.number) p.threads ≡ named_threads p.segments
  pub sets : AreSets (record { limit = MOST_SETS; sets = p.sets })
  pub reports : All (IsReport p.events p.sets) p.reports
  pub order : AreInOrder p.reports
  pub sources : HaveSent p.events p.sources
  pub pages : HaveSlots p.pages
