-- Definition: part of what `explain` promises. The life of a word by its histories, over the trace so far.
use Rattle.std.specs.Prelude.{◌≡◌, ℕ, zero, suc, ◌+◌, ◌≤◌, true, false, ◌||◌, List, [], ◌∷◌, ◌++◌, length, take, drop, codes, if◌then◌else◌, Result, Ok, Err}
use Rattle.std.specs.Fmt.{decimal}
use Rattle.hg_model.specs.declared.event.Event.{Event}
use Rattle.hg_model.specs.declared.event.Event.TheVariants.{Read, Write, Alloc, Free}
use Rattle.hg_model.specs.declared.event.Named.{Named}
use Rattle.hg_model.specs.declared.limits.TheConstants.{MOST_REPORTS}
use Rattle.hg_model.specs.declared.report.Report.{Report}
use Rattle.hg_model.specs.declared.word.HistoryItem.{HistoryItem}
use Rattle.hg_model.specs.declared.word.WordState.{WordState}
use Rattle.hg_model.specs.Contents.{Content, events_of, summary}
use Rattle.hg_model.specs.Change.{empty_content}
use Rattle.hg_model.specs.History.{history, item}
use Rattle.hg_model.specs.Reporting.{all_reports, is_reported}
use Rattle.hg_model.specs.Segments.{present, segments_of}
use Rattle.hg_model.specs.Sharing.{state}
use Rattle.hg_wire.specs.declared.line.LineFault.{LineFault}
use Rattle.hg_wire.specs.declared.reader.Reading.{Reading}
use Rattle.hg_wire.specs.Readings.{readings}
use Rattle.hg_wire.specs.Reports.{access_name, predecessors_text}
use Rattle.hg_sets.specs.Interning.{Table}
use Rattle.hg_reading.specs.declared.ending.Ending.{Ending}
use Rattle.hg_reading.specs.declared.ending.Ending.TheVariants.{Ended}
use Rattle.hg_check.specs.Checking.{ChecksTo, LeadsTo, next_named}
use Rattle.hg_streams.specs.Texts.{line_text}
use Rattle.hg_check.specs.declared.explain.form.Form.{Form}
use Rattle.hg_check.specs.Life.{accesses, actor_of, changes_text, concerns, differs, life, look_of, more_text, place_in, race_text, state_text}

-- the state of the word by its history
abbrev pub state_in : ℕ → List Event → WordState
state_in w trace = state (segments_of trace) (history w trace)

-- the kept reports of a trace
abbrev pub kept_in : List Event → List Report
kept_in trace = take MOST_REPORTS (all_reports trace)

-- a thread and its segment
abbrev pub segment_text : ℕ → ℕ → List ℕ
segment_text t g = codes " thread " ++ decimal t ++ codes " segment " ++ decimal g

-- an access, by its item in the word's history
abbrev pub item_text : HistoryItem → List ℕ
item_text i = access_name i.write ++ segment_text i.thread i.segment ++ (codes " locks " ++ predecessors_text i.locks)

-- who acts, right after the past
abbrev pub acts_in : List Event → Event → List ℕ
acts_in past (Read a) = item_text (item past a.t false)
acts_in past (Write a) = item_text (item past a.t true)
acts_in past (Alloc b) = codes " alloc" ++ segment_text b.t (present (segments_of past) b.t)
acts_in past (Free b) = codes " free" ++ segment_text b.t (present (segments_of past) b.t)
acts_in past _ = []

-- the number of the word's report among those that the event added to the kept ones
abbrev pub race_in : ℕ → List Event → Event → List ℕ
race_in w past e = race_text (length (kept_in past) + 1) w (drop (length (kept_in past)) (kept_in (e ∷ past)))

-- the line of an event right after the past: its item, the word's state after it, how that state changed, and the number of the word's
-- report
abbrev pub line_in : ℕ → Form → List Event → ℕ → Event → List ℕ
line_in w form past line e =
    (codes "event " ++ decimal (suc (length past)) ++ place_in form line)
    ++ (acts_in past e ++ (state_text (state_in w (e ∷ past))
    ++ (changes_text (segments_of past) (look_of (state_in w past)) (state_in w (e ∷ past)) (present (segments_of past) (actor_of e))
    ++ race_in w past e)))

-- what the event adds to the text, and how many accesses were not shown since its last line
abbrev pub told_in : ℕ → Form → List Event → ℕ → ℕ → Event → List ℕ × ℕ
told_in w form past k line e =
    if concerns w e then
    if form.all || differs (look_of (state_in w past)) (look_of (state_in w (e ∷ past))) then (more_text k ++ line_text (line_in w form past line e), 0) else ([], k + accesses e)
    else ([], k)

abbrev pub story_line : ℕ → Form → List Named → ℕ → ℕ → Result Event LineFault → (List Named → ℕ → List ℕ) → List ℕ
story_line w form past k line (Err fault) later = later past k
story_line w form past k line (Ok e) later =
    (told_in w form (events_of past) k line e).0 ++ later (next_named (summary past) e ∷ past) (told_in w form (events_of past) k line e).1

-- The story of the word w over the next n lines of a trace, right after the past; k accesses were not shown so far.
abbrev pub story : ℕ → Form → List Named → ℕ → ℕ → List Reading → List ℕ
story w form past k n [] = more_text k
story w form past k zero (r ∷ later) = more_text k
story w form past k (suc n) (r ∷ later) = story_line w form past k r.line r.event (λ trace j. story w form trace j n later)

-- The life that `explain` prints of a text is the story of the word over the trace of its accepted lines.
abbrev pub LifeIsTheStory : Type 0
LifeIsTheStory = (w : ℕ) (form : Form) (bytes : List ℕ) (c : Content) (end : Ending) → ChecksTo bytes c end
    → life w form empty_content 0 c.events (readings bytes) ≡ story w form [] 0 c.events (readings bytes)

-- The life over these lines and whatever follows them, from one content on, is a front and the life from another content on over what
-- follows. The front is the life over these lines but for the count at its end; there is none where each access has a line.
pub record GoesOn (w : ℕ) (form : Form) (c : Content) (k : ℕ) (lines : List Reading) (d : Content) : Type 0 where
  pub front : List ℕ
  pub hidden : ℕ
  pub told : life w form c k (length lines) lines ≡ front ++ more_text hidden
  pub on : (n : ℕ) (later : List Reading) → life w form c k (length lines + n) (lines ++ later) ≡ front ++ life w form d hidden n later
  pub all : form.all ≡ true → k ≡ 0 → hidden ≡ 0

-- Where lines are accepted and lead from one content to another, the life goes on from that one.
abbrev pub LifeGoesOn : Type 0
LifeGoesOn = (w : ℕ) (form : Form) (table : Table) (c d : Content) (lines : List Reading) → LeadsTo lines table c d Ended → GoesOn w form c 0 lines d

-- How many accesses were not shown before only adds to the first count of a life: it is that much greater, and the same text is behind it.
abbrev pub HiddenAreCounted : Type 0
HiddenAreCounted = (w : ℕ) (form : Form) (c : Content) (n : ℕ) (lines : List Reading)
    → (first : ℕ) × ((rest : List ℕ) × ((k : ℕ) → life w form c k n lines ≡ more_text (k + first) ++ rest))

-- A race stands on the line of an event where the word is reported at it, while all reports are kept, and on no other line.
pub record RacesAreTheReports : Type 0 where
  pub told : (w : ℕ) (past : List Event) (e : Event) → is_reported (e ∷ past) w ≡ true → length (all_reports (e ∷ past)) ≤ MOST_REPORTS → (k : ℕ) × (race_in w past e ≡ codes " ; race " ++ decimal k)
  pub others : (w : ℕ) (past : List Event) (e : Event) → is_reported (e ∷ past) w ≡ false → race_in w past e ≡ []
