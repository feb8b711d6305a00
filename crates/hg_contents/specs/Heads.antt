-- Which contents go into the head of a root.
use Rattle.std.specs.Prelude.{◌≡◌, ◌<◌, ◌≤◌, ℕ, List, length, map, filter, nat_lt, slice_index, All}
use Rattle.hg_root.specs.declared.root.TheConstants.{MOST_CHECKPOINTS}
use Rattle.hg_model.specs.declared.limits.TheConstants.{THREAD_NUMBERS}
use Rattle.hg_model.specs.Contents.{Content}
use Rattle.hg_cells.specs.declared.cell.Cell.{Cell}
use Rattle.hg_sets.specs.Interning.{AreSets}
use Rattle.hg_detect.specs.Shown.{ShownDetector, content}
use Rattle.hg_root.specs.declared.parts.SourceCount.{SourceCount}
use Rattle.hg_root.specs.Checking.{last_number}
use Rattle.hg_root.specs.Grammar.{LockFits, MarkFits, SetFits}
use Rattle.hg_root.specs.Heads.{head_parts}
use Rattle.hg_root.specs.Lawful.{IsLawfulHead}
use Rattle.hg_contents.specs.Lawful.{IsLawfulContent, sources}

-- the sources that sent something, by rising number, with their last numbers
abbrev pub source_counts : (ℕ → ℕ) → List SourceCount
source_counts last = map (λ s. record { source = s; last = last s }) (filter (λ s. nat_lt 0 (last s)) sources)

-- The content is lawful, the reports name sets of the table, messages have four bytes, and locks and members have two.
pub record FitsARoot {W : Type 0} (cell_of : W → ℕ → Cell) (d : ShownDetector W) : Type 0 where
  pub lawful : IsLawfulContent (content cell_of d)
  pub table : AreSets d.sets
  pub members : All SetFits d.sets.sets
  pub messages : All (λ s. MarkFits s.mark) d.segments
  pub locks : All (λ t. All LockFits t.held) d.parts.threads
  pub named : All (λ r. r.threads < length d.sets.sets) d.kept

-- The parts of such a detector are a lawful head, with any number of a checkpoint.
abbrev pub ADetectorHasALawfulHead : {W : Type 0} → (W → ℕ → Cell) → Type 0
ADetectorHasALawfulHead {W} cell_of =
    (d : ShownDetector W) (number : ℕ) → FitsARoot cell_of d → 1 ≤ number → number ≤ MOST_CHECKPOINTS
    → IsLawfulHead (head_parts number d.parts.events d.segments d.parts.threads d.sets d.total d.kept (source_counts (slice_index d.parts.last)))

-- The root of a lawful content has the last number of each source.
abbrev pub RootsHaveTheLastNumbers : Type 0
RootsHaveTheLastNumbers = (c : Content) (source : ℕ) → IsLawfulContent c → last_number (source_counts c.last) source ≡ c.last source

-- The threads of a lawful content have the numbers that an encoder of heads asks for.
abbrev pub ThreadsHaveSmallNumbers : Type 0
ThreadsHaveSmallNumbers = (c : Content) → IsLawfulContent c → All (λ t. t.number < THREAD_NUMBERS) c.threads
