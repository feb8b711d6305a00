-- The rules for the content of an accepted trace: those of a root's parts, said of the content.
use Rattle.std.specs.Prelude.{◌≡◌, ◌⊎◌, ◌<◌, ◌≤◌, ◌+◌, ◌*◌, ◌%◌, ◌^◌, ℕ, List, length, map, min, slice_get, Some, sum_by, Contains, All}
use Rattle.std.specs.List.{range_with_len}
use Rattle.hg_model.specs.declared.limits.TheConstants.{GREATEST_SOURCE, GREATEST_THREAD, MOST_ACCESS_WORDS, MOST_EVENTS, MOST_REPORTS, MOST_SEGMENTS, SOURCE_NUMBERS}
use Rattle.hg_model.specs.declared.event.Named.{Named}
use Rattle.hg_model.specs.declared.report.Report.{Report}
use Rattle.hg_model.specs.Contents.{Content}
use Rattle.hg_model.specs.Change.{empty_content, followed}
use Rattle.hg_model.specs.Restoring.{AreThreads}
use Rattle.hg_graph.specs.Restoring.{AreSegments}
use Rattle.hg_root.specs.Lawful.{AreHeld, named_threads}

-- a report of an access to a word, by one of the threads that share the word
pub record IsReportOf (events : ℕ) (r : Report) : Type 0 where
  pub event : (1 ≤ r.event) × (r.event ≤ events)
  pub word : (r.word % 4 ≡ 0) × (r.word < 2 ^ 64)
  pub member : Contains r.threads r.thread
  pub threads : All (λ t. t ≤ GREATEST_THREAD) r.threads

-- the one stands before the other
abbrev pub IsBefore : Report → Report → Type 0
IsBefore a b = (a.event < b.event) ⊎ ((a.event ≡ b.event) × (a.word < b.word))

-- each stands before the next
abbrev pub AreInOrder : List Report → Type 0
AreInOrder reports = (k : ℕ) (a b : Report) → slice_get reports k ≡ Some a → slice_get reports (k + 1) ≡ Some b → IsBefore a b

-- the sources 0 to 1,023
unfoldable pub sources : List ℕ
sources = range_with_len 0 SOURCE_NUMBERS

-- The last numbers of the sources add up to the events, and no other source has one.
pub record HaveSent (events : ℕ) (last : ℕ → ℕ) : Type 0 where
  pub sum : sum_by last sources ≡ events
  pub others : (source : ℕ) → GREATEST_SOURCE < source → last source ≡ 0

pub record IsLawfulContent (c : Content) : Type 0 where
  pub events : c.events ≤ MOST_EVENTS
  pub segment_count : (1 ≤ length c.segments) × (length c.segments ≤ MOST_SEGMENTS)
  pub segments : AreSegments c.segments
  pub threads : AreThreads c.threads
  pub named : map (λ t. t.number) c.threads ≡ named_threads c.segments
  pub held : All (λ t. AreHeld t.held) c.threads
  pub total : c.total ≤ MOST_ACCESS_WORDS * c.events
  pub kept : length c.reports ≡ min c.total MOST_REPORTS
  pub reports : All (IsReportOf c.events) c.reports
  pub order : AreInOrder c.reports
  pub last : HaveSent c.events c.last

-- Each content that accepted events lead to is lawful.
abbrev pub ContentsAreLawful : Type 0
ContentsAreLawful = (events : List Named) (c : Content) → followed empty_content events ≡ Some c → IsLawfulContent c
