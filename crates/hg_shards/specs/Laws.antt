-- The laws of a trace and its parts, which empty public functions promise.
use Rattle.std.specs.Prelude.{◌≡◌, ℕ, ◌+◌, ◌<◌, ◌≤◌, Bool, true, List, [], ◌∷◌, ◌++◌, length, Some, None}
use Rattle.hg_model.specs.declared.event.Event.{Event}
use Rattle.hg_model.specs.declared.report.Report.{Report}
use Rattle.hg_model.specs.Locks.{held}
use Rattle.hg_model.specs.Segments.{segments_of}
use Rattle.hg_model.specs.History.{history}
use Rattle.hg_model.specs.Sharing.{state}
use Rattle.hg_model.specs.Reporting.{is_reported, reports_at_last, all_reports}
use Rattle.hg_model.specs.declared.event.Named.{Named}
use Rattle.hg_model.specs.Contents.{Content, events_of, threads_of, summary}
use Rattle.hg_model.specs.Verdicts.{Standing, verdict, standing_of, IsAccepted}
use Rattle.hg_model.specs.declared.verdict.Verdict.TheVariants.{Accept}
use Rattle.hg_model.specs.Change.{after, new_reports}
use Rattle.hg_sets.specs.Interning.{Table, first_table}
use Rattle.hg_sets.specs.declared.fault.SetFault.TheVariants.{Full}
use Rattle.hg_detect.specs.Making.{sets_asked}
use Rattle.hg_shards.specs.Asking.{AnswersBySets, AsksForTrace, HasSets, HaveTogether, anywhere, asked, asked_after, asked_at_last, sets_by_part, size_with}
use Rattle.hg_shards.specs.Merging.{Rises}
use Rattle.hg_shards.specs.Parts.{AreParts, MakeTheWhole, reports_by_part}
use Rattle.hg_shards.specs.Alike.{AreAlike, AgreeWithin, AgreeByName, ContentsAgree, MayStandFor, PassesBy, StaysWithin, reports_within}

-- The two traces have the same segments, threads and held locks, and for each word of the group the same history, state and
-- reports, those at the last event and all.
pub record AreSameWithin (within : ℕ → Bool) (es fs : List Event) : Type 0 where
  pub events : length es ≡ length fs
  pub segments : segments_of es ≡ segments_of fs
  pub threads : threads_of es ≡ threads_of fs
  pub locks : (t : ℕ) → held es t ≡ held fs t
  pub histories : (w : ℕ) → within w ≡ true → history w es ≡ history w fs
  pub states : (w : ℕ) → within w ≡ true → state (segments_of es) (history w es) ≡ state (segments_of fs) (history w fs)
  pub reported : (w : ℕ) → within w ≡ true → is_reported es w ≡ is_reported fs w
  pub last : reports_within within (reports_at_last es) ≡ reports_within within (reports_at_last fs)
  pub reports : reports_within within (all_reports es) ≡ reports_within within (all_reports fs)

-- What traces do to other words does not matter to the words of a group.
abbrev pub OtherWordsDoNotMatter : Type 0
OtherWordsDoNotMatter = (within : ℕ → Bool) (es fs : List Event) → AgreeWithin within es fs → AreSameWithin within es fs

-- Within a group, traces agree with themselves, back and onward as equals do, and also within each smaller group.
pub record AgreementIsLawful : Type 0 where
  pub itself : (within : ℕ → Bool) (es : List Event) → AgreeWithin within es es
  pub back : (within : ℕ → Bool) (es fs : List Event) → AgreeWithin within es fs → AgreeWithin within fs es
  pub onward : (within : ℕ → Bool) (es fs gs : List Event) → AgreeWithin within es fs → AgreeWithin within fs gs
      → AgreeWithin within es gs
  pub narrower : (within less : ℕ → Bool) (es fs : List Event) → ((w : ℕ) → less w ≡ true → within w ≡ true)
      → AgreeWithin within es fs → AgreeWithin less es fs

-- The verdict on an event needs no access: it is the same after traces that agree, whatever they do to other words.
abbrev pub VerdictsNeedNoAccess : Type 0
VerdictsNeedNoAccess = (within : ℕ → Bool) (ms ns : List Named) → AgreeByName within ms ns → (n : Named) →
    verdict (standing_of (summary ms)) n ≡ verdict (standing_of (summary ns)) n

-- Where an event is accepted, so is one that may stand in its place.
abbrev pub CutEventsAreAccepted : Type 0
CutEventsAreAccepted = (s : Standing) (m n : Named) → MayStandFor m n → verdict s m ≡ Accept → verdict s n ≡ Accept

-- Traces that agree leave contents that do.
abbrev pub SummariesAgree : Type 0
SummariesAgree = (within : ℕ → Bool) (ms ns : List Named) → AgreeByName within ms ns → ContentsAgree within (summary ms) (summary ns)

-- After the two events the contents agree. The events make the same reports of the group's words, and ask for the same sets.
pub record StepAgrees (within : ℕ → Bool) (c d : Content) (m n : Named) : Type 0 where
  pub content : ContentsAgree within (after c m) (after d n)
  pub reports : reports_within within (new_reports c m.event) ≡ reports_within within (new_reports d n.event)
  pub asked : asked_after within c m.event ≡ asked_after within d n.event

-- Contents that agree still do after events that the group cannot tell apart.
abbrev pub StepsAgree : Type 0
StepsAgree = (within : ℕ → Bool) (c d : Content) (m n : Named) → ContentsAgree within c d → AreAlike within m.event n.event →
    StepAgrees within c d m n

-- the content with one event more in its count, and nothing else changed
abbrev pub with_one_more : Content → Content
with_one_more c = record c { events = c.events + 1 }

-- An event that passes the group by is counted, and does nothing else to it.
abbrev pub PassingChangesNothing : Type 0
PassingChangesNothing = (within : ℕ → Bool) (c : Content) (n : Named) → PassesBy within n.event →
    ContentsAgree within (after c n) (with_one_more c) × (reports_within within (new_reports c n.event) ≡ [])

-- The reports of a trace rise, by event and then by word, and so does each stretch of reports that rise.
pub record ReportsRise : Type 0 where
  pub all : (trace : List Event) → Rises (all_reports trace)
  pub front : (reports more : List Report) → Rises (reports ++ more) → Rises reports
  pub rest : (reports more : List Report) → Rises (reports ++ more) → Rises more

-- The reports of the parts make those of the trace, all of them and those at the last event.
abbrev pub PartsMakeTheWhole : Type 0
PartsMakeTheWhole = (count : ℕ) (part_of : ℕ → ℕ) (trace : List Event) (trace_of : ℕ → List Event) →
    AreParts count part_of trace trace_of →
    MakeTheWhole (reports_by_part count part_of (λ k. all_reports (trace_of k))) (all_reports trace)
    × MakeTheWhole (reports_by_part count part_of (λ k. reports_at_last (trace_of k))) (reports_at_last trace)

-- What the parts have among rising reports makes these.
abbrev pub SharesMakeTheWhole : Type 0
SharesMakeTheWhole = (count : ℕ) (part_of : ℕ → ℕ) (whole : List Report) → ((w : ℕ) → part_of w < count) → Rises whole →
    MakeTheWhole (reports_by_part count part_of (λ k. whole)) whole

-- What traces do to other words does not matter to the sets that they ask for, for the words of a group.
abbrev pub OtherWordsAskForOtherSets : Type 0
OtherWordsAskForOtherSets = (within : ℕ → Bool) (es fs : List Event) → AgreeWithin within es fs → asked within es ≡ asked within fs

-- A trace asks for the sets that its parts ask for, and for no others.
abbrev pub PartsAskForTheSets : Type 0
PartsAskForTheSets = (count : ℕ) (part_of : ℕ → ℕ) (trace : List Event) (trace_of : ℕ → List Event) →
    AreParts count part_of trace trace_of → HaveTogether (sets_by_part count part_of trace_of) (asked anywhere trace)

-- A table with room for `limit` sets that took an accepted trace has as many as the trace asks for, with the empty set. It refuses
-- the trace's last event as full only where these are more than the limit.
abbrev pub FullByTheSets : Type 0
FullByTheSets = (limit : ℕ) (trace : List Named) (table : Table) → 0 < limit → IsAccepted trace →
    (AsksForTrace (first_table limit) trace None table →
    (length table.sets ≡ size_with (asked anywhere (events_of trace))) × (length table.sets ≤ limit))
    × (AsksForTrace (first_table limit) trace (Some Full) table → limit < size_with (asked anywhere (events_of trace)))

-- An accepted event asks for the sets that its words have after it, those of any group and all.
abbrev pub SetsAreOfTheWords : Type 0
SetsAreOfTheWords = (n : Named) (past : List Named) → IsAccepted (n ∷ past) →
    ((within : ℕ → Bool) → asked_after within (summary past) n.event ≡ asked_at_last within (events_of (n ∷ past)))
    × (sets_asked (summary past) n.event ≡ asked_at_last anywhere (events_of (n ∷ past)))

-- The first table has the empty set alone, and each table answers by the sets that it was asked for.
abbrev pub TablesAnswerBySets : Type 0
TablesAnswerBySets = (limit : ℕ) → 0 < limit →
    HasSets limit [] (first_table limit)
    × ((sets more : List (List ℕ)) (t : Table) → HasSets limit sets t → AnswersBySets limit sets more t)

-- An event that stays within a group has all its reports there, and asks for no sets of other words.
abbrev pub OwnEventsStayWithin : Type 0
OwnEventsStayWithin = (within : ℕ → Bool) (c : Content) (e : Event) → StaysWithin within e →
    (reports_within within (new_reports c e) ≡ new_reports c e) × (sets_asked c e ≡ asked_after within c e)
