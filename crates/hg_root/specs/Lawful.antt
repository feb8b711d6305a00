-- The rules of a root's body.
use Rattle.std.specs.Prelude.{◌≡◌, ◌≢◌, ◌⊎◌, ◌<◌, ◌≤◌, ◌+◌, ◌*◌, ◌%◌, ℕ, List, length, map, filter, min, sum, slice_get, Some, Contains, All, AllPairs}
use Rattle.std.specs.List.{range_with_len}
use Rattle.std.specs.List.Sorted.{IsStrictlyIncreasing}
use Rattle.hg_root.specs.declared.root.TheConstants.{MOST_CHECKPOINTS}
use Rattle.hg_model.specs.declared.limits.TheConstants.{GREATEST_SOURCE, GREATEST_THREAD, MOST_ACCESS_WORDS, MOST_EVENTS, MOST_HELD, MOST_REPORTS, MOST_SEGMENTS, THREAD_NUMBERS}
use Rattle.hg_model.specs.Locks.{IsByRisingLock}
use Rattle.hg_model.specs.Restoring.{AreThreads}
use Rattle.hg_model.specs.declared.held.HeldLock.{HeldLock}
use Rattle.hg_model.specs.declared.segment.Mark.TheVariants.{Plain}
use Rattle.hg_model.specs.declared.segment.Segment.{Segment}
use Rattle.hg_cells.specs.declared.report.KeptReport.{KeptReport}
use Rattle.hg_graph.specs.Graph.{names}
use Rattle.hg_graph.specs.Restoring.{AreSegments}
use Rattle.hg_sets.specs.Interning.{AreSets, set_at}
use Rattle.hg_sets.specs.declared.table.TheConstants.{MOST_SETS}
use Rattle.hg_pages.specs.declared.decoded.TheConstants.{MOST_PAGES}
use Rattle.hg_pages.specs.declared.slot_file.TheConstants.{MOST_SLOTS}
use Rattle.hg_root.specs.declared.parts.PageSlot.{PageSlot}
use Rattle.hg_root.specs.declared.parts.SourceCount.{SourceCount}
use Rattle.hg_root.specs.Grammar.{HeadFits, PagesFit, former_text, root_text}
use Rattle.hg_root.specs.Parts.{Parts}

-- the numbers below n of the threads that a segment names, rising
abbrev pub named_below : List Segment → ℕ → List ℕ
named_below segments n = filter (names segments) (range_with_len 0 n)

-- the numbers of the threads that a segment names, rising
unfoldable pub named_threads : List Segment → List ℕ
named_threads segments = named_below segments THREAD_NUMBERS

-- the locks rise, and there are no more than a thread may hold
abbrev pub AreHeld : List HeldLock → Type 0
AreHeld held = IsByRisingLock held × (length held ≤ MOST_HELD)

pub record IsReport (events : ℕ) (sets : List (List ℕ)) (r : KeptReport) : Type 0 where
  pub event : (1 ≤ r.event) × (r.event ≤ events)
  pub word : r.word % 4 ≡ 0
  pub set : r.threads < length sets
  pub member : Contains (set_at sets r.threads) r.thread
  pub threads : All (λ t. t ≤ GREATEST_THREAD) (set_at sets r.threads)

-- the one stands before the other
abbrev pub IsBefore : KeptReport → KeptReport → Type 0
IsBefore a b = (a.event < b.event) ⊎ ((a.event ≡ b.event) × (a.word < b.word))

-- each stands before the next
abbrev pub AreInOrder : List KeptReport → Type 0
AreInOrder reports = (k : ℕ) (a b : KeptReport) → slice_get reports k ≡ Some a → slice_get reports (k + 1) ≡ Some b → IsBefore a b

-- the sources rise, each sent something, and together they sent all events
pub record HaveSent (events : ℕ) (sources : List SourceCount) : Type 0 where
  pub rising : IsStrictlyIncreasing (map (λ s. s.source) sources)
  pub each : All (λ s. (s.source ≤ GREATEST_SOURCE) × (1 ≤ s.last)) sources
  pub sum : sum (map (λ s. s.last) sources) ≡ events

-- the pages rise, and no two have the same slot
pub record HaveSlots (pages : List PageSlot) : Type 0 where
  pub rising : IsStrictlyIncreasing (map (λ p. p.page) pages)
  pub each : All (λ p. (p.page < MOST_PAGES) × (p.slot < MOST_SLOTS)) pages
  pub distinct : AllPairs ◌≢◌ (map (λ p. p.slot) pages)

-- the rules of the parts before the page table
pub record IsLawfulHead (p : Parts) : Type 0 where
  pub fits : HeadFits p
  pub number : (1 ≤ p.number) × (p.number ≤ MOST_CHECKPOINTS)
  pub events : p.events ≤ MOST_EVENTS
  pub segment_count : (1 ≤ length p.segments) × (length p.segments ≤ MOST_SEGMENTS)
  pub segments : AreSegments p.segments
  pub threads : AreThreads p.threads
  pub named : map (λ t. t.number) p.threads ≡ named_threads p.segments
  pub held : All (λ t. AreHeld t.held) p.threads
  pub sets : AreSets (record { limit = MOST_SETS; sets = p.sets })
  pub total : p.total ≤ MOST_ACCESS_WORDS * p.events
  pub kept : length p.reports ≡ min p.total MOST_REPORTS
  pub reports : All (IsReport p.events p.sets) p.reports
  pub order : AreInOrder p.reports
  pub sources : HaveSent p.events p.sources

-- The parts obey the rules.
pub record IsLawful (p : Parts) : Type 0 where
  pub head : IsLawfulHead p
  pub pages_fit : PagesFit p.pages
  pub pages : HaveSlots p.pages

-- The body spells these parts: as it is written, or, if all marks are plain, in the former form.
abbrev pub IsSpelled : List ℕ → Parts → Type 0
IsSpelled body p = (body ≡ root_text p) ⊎ ((body ≡ former_text p) × All (λ s. s.mark ≡ Plain) p.segments)

-- The body spells these parts, which obey the rules.
pub record IsRoot (body : List ℕ) (p : Parts) : Type 0 where
  pub spelled : IsSpelled body p
  pub lawful : IsLawful p

-- The body is the one that is written for these parts, which obey the rules.
pub record IsWritten (body : List ℕ) (p : Parts) : Type 0 where
  pub text : body ≡ root_text p
  pub lawful : IsLawful p
