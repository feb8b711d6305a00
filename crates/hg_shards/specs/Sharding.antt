-- What a shard knows of a trace: all that concerns the words of one part, and no other words.
use Rattle.std.specs.Prelude.{◌≡◌, ◌⊎◌, ℕ, ◌*◌, ◌/◌, ◌%◌, ◌^◌, ◌<◌, ◌≤◌, Bool, true, false, List, [], ◌∷◌, ◌++◌, length, map, reverse, sum, take, Option, Some, None, Result, Ok, Err, if◌then◌else◌}
use Rattle.std.specs.List.{AllByRecursion, range_with_len}
use Rattle.hg_model.specs.declared.limits.TheConstants.{MOST_REPORTS}
use Rattle.hg_model.specs.declared.event.Access.{Access}
use Rattle.hg_model.specs.declared.event.Event.{Event}
use Rattle.hg_model.specs.declared.event.Named.{Named}
use Rattle.hg_model.specs.declared.report.Report.{Report}
use Rattle.hg_model.specs.declared.verdict.Refusal.{Refusal}
use Rattle.hg_model.specs.declared.verdict.Refusal.TheVariants.{FullSets, OutOfMemory}
use Rattle.hg_model.specs.declared.verdict.Verdict.{Verdict}
use Rattle.hg_model.specs.declared.verdict.Verdict.TheVariants.{Accept}
use Rattle.hg_model.specs.Accessing.{access_event}
use Rattle.hg_model.specs.Contents.{Content, events_of, summary}
use Rattle.hg_model.specs.Reporting.{all_reports}
use Rattle.hg_model.specs.Verdicts.{IsAccepted, bad_length, past_address_end, standing_of, verdict}
use Rattle.hg_cells.specs.declared.paged.PagedWords.{PagedWords}
use Rattle.hg_cells.specs.declared.words.Words as words
use Rattle.hg_detect.specs.declared.detector.Answer.{Answer}
use Rattle.hg_detect.specs.declared.detector.Detector.{Detector}
use Rattle.hg_detect.specs.declared.detector.Answer.TheVariants.{Accepted}
use Rattle.hg_detect.specs.Answering.{Applies, IsOnLock, PassesAll, is_accepted}
use Rattle.hg_detect.specs.Shown.{reports_of}
use Rattle.hg_detect.specs.Growing.{MayGrow}
use Rattle.hg_detect.specs.Memory.{IsWhole, content_of}
use Rattle.hg_shards.specs.declared.shard.Shard.{Shard}
use Rattle.hg_shards.specs.Alike.{AreAlike, ContentsAgree, IsLawfulCut, PassesBy, StaysWithin, reports_within}
use Rattle.hg_shards.specs.Asking.{HasSets, accessed, asked, has_set, size_with}
use Rattle.hg_shards.specs.Logging.{Log, NeverFalls, made_by, noted}
use Rattle.hg_shards.specs.Merging.{merged}
use Rattle.hg_shards.specs.Parts.{by_page, words_of_part}

-- The part of a page, of `count` parts. The multiples of the golden section are spread evenly, so pages at any regular stride are
-- spread over all parts.
abbrev pub page_part : ℕ → ℕ → ℕ
page_part count page = page % 2 ^ 32 * 2654435769 / 2 ^ 32 % count

-- the words of a part, of `count` parts
abbrev pub words_of : ℕ → ℕ → ℕ → Bool
words_of count part = words_of_part (by_page (page_part count)) part

-- the reports of a trace that are of words of the group
abbrev pub reports_of_group : (ℕ → Bool) → List Named → List Report
reports_of_group within trace = reports_within within (all_reports (events_of trace))

-- After an accepted trace, the newest event first, the content is the trace's summary as far as a group of words goes: its counts,
-- segments and threads are those of the summary, and so are these words and their reports. It has no other reports.
pub record Knows (within : ℕ → Bool) (trace : List Named) (c : Content) : Type 0 where
  pub accepted : IsAccepted trace
  pub content : ContentsAgree within (summary trace) c
  pub last : c.last ≡ (summary trace).last
  pub reports : c.reports ≡ take MOST_REPORTS (reports_of_group within trace)
  pub total : c.total ≡ length (reports_of_group within trace)

-- The event of an access is of a lawful form: its length and its end are.
pub record HasForm (write : Bool) (a : Access) : Type 0 where
  pub len : bad_length (access_event write a) ≡ false
  pub end : past_address_end (access_event write a) ≡ false

-- What is judged of an access where a group of words is judged: it does to them what the access does, and nothing to others.
pub record IsOwnPart (within : ℕ → Bool) (a own : Access) (write : Bool) : Type 0 where
  pub form : HasForm write a
  pub cut : IsLawfulCut (access_event write a) (access_event write own)
  pub alike : AreAlike within (access_event write a) (access_event write own)
  pub stays : StaysWithin within (access_event write own)

-- The own part of an access, or none where it touches no word of the group, or is of no lawful form.
abbrev pub IsCutTo : (ℕ → Bool) → Access → Option Access → Type 0
IsCutTo within a (Some own) = (write : Bool) → IsOwnPart within a own write
IsCutTo within a None = (write : Bool) → HasForm write a → PassesBy within (access_event write a)

-- the words that the shard judges
abbrev pub own_words : Shard → ℕ → Bool
own_words s = words_of s.count s.part

-- The log of a shard is of the sets of its table, in order. Each of its events is one that the detector has counted.
pub record IsLogOf (d : Detector PagedWords) (log : Log) : Type 0 where
  pub limit : log.limit ≡ d.sets.limit
  pub within : length log.events ≤ length d.sets.sets
  pub rises : NeverFalls log.events
  pub past : AllByRecursion (λ event. event ≤ d.parts.events) log.events

-- The part is one of so many, and the detector's cells name only segments and sets that exist: the shard may be offered an event.
pub record IsReady (s : Shard) : Type 0 where
  pub part : s.part < s.count
  pub whole : IsWhole s.detector
  pub log : IsLogOf s.detector s.log

-- The shard was offered the accepted events of a trace, the newest first, and knows of its words what is to be known of them.
abbrev pub Follows : List Named → Shard → Type 0
Follows trace s = Knows (own_words s) trace (content_of s.detector)

-- P holds of the trace, and of what it was before each of its events.
abbrev pub AtEachEvent : (List Named → Type 0) → List Named → Type 0
AtEachEvent P [] = P []
AtEachEvent P (n ∷ past) = P (n ∷ past) × AtEachEvent P past

-- the sets of the shard's table that were made up to event k, by its log
abbrev pub made_in : ℕ → Shard → List (List ℕ)
made_in k s = made_by k s.detector.sets.sets s.log.events

-- The sets that were made up to the trace's last event are those that it asks for, for words of the shard, and the empty set.
abbrev pub HasMade : Shard → List Named → Type 0
HasMade s trace = (set : List ℕ) → has_set (made_in (length trace) s) set ≡ has_set ([] ∷ asked (own_words s) (events_of trace)) set

-- The log says for each event of the trace which sets its words had asked for by then.
abbrev pub LogsOwnSets : List Named → Shard → Type 0
LogsOwnSets trace s = AtEachEvent (HasMade s) trace

-- Its table has room for `limit` sets, and has those that the trace asks for, for its words. The log has each of them.
pub record HasOwnSets (limit : ℕ) (trace : List Named) (s : Shard) : Type 0 where
  pub sets : HasSets limit (asked (own_words s) (events_of trace)) s.detector.sets
  pub logged : length s.log.events ≡ length s.detector.sets.sets
  pub log : LogsOwnSets trace s

-- The shard of this part follows the empty trace, and its table has room for `limit` sets.
pub record BeginsFor (count part limit : ℕ) (s : Shard) : Type 0 where
  pub count_is : s.count ≡ count
  pub part_is : s.part ≡ part
  pub ready : IsReady s
  pub follows : Follows [] s
  pub sets : HasOwnSets limit [] s

-- the shard has seen one event more where it was accepted
abbrev pub with_accepted : Result Answer Refusal → Named → List Named → List Named
with_accepted answer n trace = if is_accepted answer then n ∷ trace else trace

-- The log after an offer: as it was where the event was refused or the table stayed, or with what the table has more, under the
-- number of the event.
abbrev pub LogGoes : Shard → Result Answer Refusal → Shard → Type 0
LogGoes old answer new =
    ((new.log ≡ old.log) × (is_accepted answer ≡ true → new.detector.sets ≡ old.detector.sets))
    ⊎ ((is_accepted answer ≡ true) × (new.log ≡ record old.log { events = noted old.log.events (length new.detector.sets.sets) new.detector.parts.events }))

-- the verdict of the rules on an event after the whole trace
abbrev pub verdict_after : List Named → Named → Verdict
verdict_after trace n = verdict (standing_of (summary trace)) n

-- The table and the log of a shard grew at their ends. What the log has more are events behind those that were counted before.
pub record GrowsTo (old new : Shard) : Type 0 where
  pub events : old.detector.parts.events ≤ new.detector.parts.events
  pub more_sets : List (List ℕ)
  pub sets : new.detector.sets.sets ≡ old.detector.sets.sets ++ more_sets
  pub more_events : List ℕ
  pub log : new.log.events ≡ old.log.events ++ more_events
  pub later : AllByRecursion (λ event. old.detector.parts.events < event) more_events

-- What a shard had of the events that it had counted stays, whatever comes. Where it kept the first of some reports, it keeps the first of
-- these and of reports of later events, and its log says of the events that it had counted what it said.
pub record MovesOn (old new : Shard) : Type 0 where
  pub events : old.detector.parts.events ≤ new.detector.parts.events
  pub late : List Report
  pub reports : (all : List Report) → reports_of old.detector ≡ take MOST_REPORTS all → reports_of new.detector ≡ take MOST_REPORTS (all ++ late)
  pub later : AllByRecursion (λ r. old.detector.parts.events < r.event) late
  pub made : (k : ℕ) → k ≤ old.detector.parts.events → made_in k new ≡ made_in k old
  pub grows : GrowsTo old new

-- The shard has what a trace makes of its words: the first reports of these are kept, and its log says of each event of the trace which
-- sets its words had asked for by then. It may have gone further: then it also has reports and sets of later events, and maybe of events
-- that no trace has, since it passed over some that were not accepted.
pub record GoesOn (trace : List Named) (s : Shard) : Type 0 where
  pub counted : length trace ≤ s.detector.parts.events
  pub late : List Report
  pub reports : reports_of s.detector ≡ take MOST_REPORTS (reports_of_group (own_words s) trace ++ late)
  pub later : AllByRecursion (λ r. length trace < r.event) late
  pub log : LogsOwnSets trace s

-- What the offer of an event gives a shard that followed a trace. The rules answer as they do after the whole trace, and what they
-- accept is refused for want of sets or of memory alone. The shard follows the trace with the event where it was accepted, and the
-- trace as it was where it was not; what the rules do not accept changes nothing. An event on a lock needs no room. Its table has the
-- sets that its words ask for, and is full only where these are more than it has room for. Of the events before it the log says what
-- it said, whatever the answer.
pub record AnswersAfter (trace : List Named) (old : Shard) (n : Named) (answer : Result Answer Refusal) (new : Shard) : Type 0 where
  pub answered : Applies (verdict_after trace n) (λ r. r ≡ OutOfMemory) answer
  pub follows : Follows (with_accepted answer n trace) new
  pub log : LogsOwnSets trace old → LogsOwnSets trace new
  pub sets : (limit : ℕ) → HasOwnSets limit trace old → answer ≡ Ok Accepted → HasOwnSets limit (n ∷ trace) new
  pub same : (verdict_after trace n ≡ Accept → ⊥) → new ≡ old
  pub held : IsOnLock n.event → verdict_after trace n ≡ Accept → answer ≡ Ok Accepted
  pub full : (limit : ℕ) → HasOwnSets limit trace old → verdict_after trace n ≡ Accept → answer ≡ Err FullSets → limit < size_with (asked (own_words old) (events_of (n ∷ trace)))

-- The same after any trace that the shard followed. Its part stays, and it may be offered the next event. What it had stays too, also
-- where it follows no trace.
pub record AnswersShard (old : Shard) (n : Named) (answer : Result Answer Refusal) (new : Shard) : Type 0 where
  pub rest : new ≡ record old { detector = new.detector; log = new.log }
  pub ready : IsReady new
  pub moves : MovesOn old new
  pub after_any : (trace : List Named) → Follows trace old → AnswersAfter trace old n answer new

-- The event is of this source and of memory, and touches no word of the group.
pub record IsPassed (within : ℕ → Bool) (source : ℕ) (n : Named) : Type 0 where
  pub source_is : n.source ≡ source
  pub by : PassesBy within n.event

-- These are so many events in order, each of the source and of no word of the group, and the rules accept one after another behind the
-- trace.
pub record ArePassed (within : ℕ → Bool) (source count : ℕ) (trace events : List Named) : Type 0 where
  pub many : length events ≡ count
  pub each : AllByRecursion (IsPassed within source) events
  pub accepted : IsAccepted (reverse events ++ trace)

-- A shard passed over so many events of a source at once. Where these are of no word of the shard, and the rules accept one after
-- another behind a trace that it followed, it follows the trace with them, and has its own sets of it.
pub record PassesOver (old : Shard) (source count : ℕ) (new : Shard) : Type 0 where
  pub rest : new ≡ record old { detector = new.detector }
  pub detector : PassesAll old.detector source count new.detector
  pub ready : IsReady new
  pub moves : MovesOn old new
  pub follows : (trace events : List Named) → ArePassed (own_words old) source count trace events → Follows trace old → Follows (reverse events ++ trace) new
  pub sets : (trace events : List Named) → ArePassed (own_words old) source count trace events → Follows trace old → (limit : ℕ) → HasOwnSets limit trace old
      → HasOwnSets limit (reverse events ++ trace) new

-- An accepted access that touches no word of the shard is never refused, and needs no room.
abbrev pub PassesOthers : Shard → Named → Result Answer Refusal → Type 0
PassesOthers old n answer =
    (trace : List Named) → Follows trace old → (accessed n.event ≡ [] → ⊥) → PassesBy (own_words old) n.event → verdict_after trace n ≡ Accept → answer ≡ Ok Accepted

-- The event does to the group what the other one does. If it is an access, it touches no other words.
pub record IsOwnEvent (within : ℕ → Bool) (e own : Event) : Type 0 where
  pub alike : AreAlike within e own
  pub stays : (accessed own ≡ []) ⊎ StaysWithin within own

-- Memory runs out only at an accepted event where what it does to the shard's own words may make something grow.
abbrev pub WantsOwnRoom : words.Ghosts PagedWords → Shard → Named → Result Answer Refusal → Type 0
WantsOwnRoom g old n answer =
    (trace : List Named) → Follows trace old → verdict_after trace n ≡ Accept → answer ≡ Err OutOfMemory
    → (own : Event) × IsOwnEvent (own_words old) n.event own × MayGrow g old.detector own

-- What the shards of all parts know of a trace makes its summary: what is merged of their reports begins with the summary's, and
-- their totals add up to its total.
abbrev pub ShardsMakeTheWhole : Type 0
ShardsMakeTheWhole = (count : ℕ) (trace : List Named) (content_at : ℕ → Content) → 0 < count →
    ((k : ℕ) → k < count → Knows (words_of count k) trace (content_at k)) →
    (take MOST_REPORTS (merged (map (λ k. (content_at k).reports) (range_with_len 0 count))) ≡ (summary trace).reports)
    × (sum (map (λ k. (content_at k).total) (range_with_len 0 count)) ≡ (summary trace).total)
