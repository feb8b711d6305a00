-- The states and the reports of words, as the slow program computes them.
use Rattle.std.specs.Prelude.{ℕ, Bool, List, map, filter}
use Rattle.std.specs.List.{list_any}
use Rattle.hg_model.specs.declared.event.Event.{Event}
use Rattle.hg_model.specs.declared.report.Report.{Report}
use Rattle.hg_model.specs.declared.word.HistoryItem.{HistoryItem}
use Rattle.hg_model.specs.declared.word.WordState.{WordState}
use Rattle.hg_model.specs.History.{history}
use Rattle.hg_model.specs.Reporting.{is_reported, report}
use Rattle.hg_model.specs.Segments.{segments_of}
use Rattle.hg_model.specs.Sets.{set_of}
use Rattle.hg_model.specs.Sharing.{lockset, shared, state}

-- the state of a shared word: `users` give the threads, and `items`, from the sharing point on, the locks and the writes
abbrev pub shared_state : List HistoryItem → List HistoryItem → WordState
shared_state users items = shared (list_any (λ i. i.write) items) (set_of (map (λ i. i.thread) users)) (lockset items)

-- the reports of these words at the last event, an access by thread t
abbrev pub reports_among : List Event → ℕ → Bool → List ℕ → List Report
reports_among trace t write words = map (report trace t write) (filter (is_reported trace) words)

-- the state of the word w after a trace
abbrev pub state_after : List Event → ℕ → WordState
state_after trace w = state (segments_of trace) (history w trace)
