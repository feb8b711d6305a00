-- What every trace text that is fed leads to.
use Rattle.std.specs.Prelude.{◌≡◌, ◌⊎◌, ℕ, ◌+◌, ◌≤◌, nat_le, List, [], ◌∷◌, ◌++◌, map, length, Result, Ok, Err, if◌then◌else◌}
use Rattle.hg_model.specs.declared.event.Event.{Event}
use Rattle.hg_model.specs.declared.event.Named.{Named}
use Rattle.hg_model.specs.declared.verdict.Refusal.{Refusal}
use Rattle.hg_model.specs.declared.verdict.Refusal.TheVariants.{FullSets, FullSlots}
use Rattle.hg_model.specs.declared.verdict.Verdict.TheVariants.{Accept, Refuse}
use Rattle.hg_model.specs.Contents.{Content, last_of_source, summary}
use Rattle.hg_model.specs.Verdicts.{IsAccepted, verdict, standing_of}
use Rattle.hg_sets.specs.Interning.{Table}
use Rattle.hg_wire.specs.declared.line.LineFault.{LineFault}
use Rattle.hg_wire.specs.declared.reader.Reading.{Reading}
use Rattle.hg_wire.specs.Streams.{readings}
use Rattle.hg_reading.specs.declared.ending.Ending.{Ending}
use Rattle.hg_reading.specs.declared.ending.Ending.TheVariants.{Ended, Refused, Bad}
use Rattle.hg_commands.specs.Feeding.{FeedsTo, HasRoom, sent}

-- From one table of sets and content, feeding a text of a source leads to one content and ends in one way, while slots are free.
abbrev pub FeedingIsUnique : Type 0
FeedingIsUnique = (source : ℕ) (bytes : List ℕ) (table : Table) (start c d : Content) (first second : Ending)
    → HasRoom first → HasRoom second → FeedsTo source (readings bytes) table start 0 c first → FeedsTo source (readings bytes) table start 0 d second → (c ≡ d) × (first ≡ second)

-- From a content, and a table that has no more sets than its limit, feeding a text of a source leads to some content, and ends in some
-- way, while slots are free. The table of every store is such a one (`within` of `AreSets`).
abbrev pub EveryTextFedHasAnOutcome : Type 0
EveryTextFedHasAnOutcome = (source : ℕ) (bytes : List ℕ) (table : Table) (start : Content) → length table.sets ≤ table.limit
    → (c : Content) × ((end : Ending) × (HasRoom end × FeedsTo source (readings bytes) table start 0 c end))

-- The trace, newest event first, with the event of the line behind so many others of its source. An event that the trace
-- has already, by its number, is passed over.
abbrev pub with_sent : ℕ → List Named → ℕ → Event → List Named
with_sent source past lines e = if nat_le (lines + 1) (last_of_source past source) then past else sent source lines e ∷ past

-- the trace with the events of the lines behind so many others of their source
abbrev pub with_fed : ℕ → List Named → ℕ → List Event → List Named
with_fed source past lines [] = past
with_fed source past lines (e ∷ events) = with_fed source (with_sent source past lines e) (lines + 1) events

-- How feeding ends at a line after so many others: it is bad, or the rules refuse its event, or they accept it and the table of sets is full or no slot is free.
abbrev pub StopsAt : Result Event LineFault → ℕ → ℕ → ℕ → Content → Ending → Type 0
StopsAt (Err fault) source lines line c end = end ≡ Bad line
StopsAt (Ok e) source lines line c end =
    ((r : Refusal) × (verdict (standing_of c) (sent source lines e) ≡ Refuse r) × (end ≡ Refused line r))
    ⊎ ((verdict (standing_of c) (sent source lines e) ≡ Accept) × ((end ≡ Refused line FullSets) ⊎ (end ≡ Refused line FullSlots)))

-- how feeding ends with these lines left, after so many others
abbrev pub EndsWith : ℕ → ℕ → List Reading → Content → Ending → Type 0
EndsWith source lines [] c end = end ≡ Ended
EndsWith source lines (r ∷ later) c end = StopsAt r.event source lines r.line c end

-- After so many lines of a source, its first readings are events, each accepted or passed over, and the content is the summary of the
-- trace with the accepted ones.
pub record IsOfFed (source : ℕ) (past : List Named) (lines : ℕ) (readings : List Reading) (c : Content) (end : Ending) : Type 0 where
  pub front : List Reading
  pub left : List Reading
  pub events : List Event
  pub joined : readings ≡ front ++ left
  pub read : map (λ r. r.event) front ≡ map (λ e. Ok e) events
  pub accepted : IsAccepted (with_fed source past lines events)
  pub content : c ≡ summary (with_fed source past lines events)
  pub ends : EndsWith source (lines + length events) left c end

-- What feeding a text leads to, from the summary of an accepted trace, is the summary of that trace with the accepted events of the text's first lines.
abbrev pub FeedingIsTheSummary : Type 0
FeedingIsTheSummary = (source : ℕ) (bytes : List ℕ) (table : Table) (past : List Named) (c : Content) (end : Ending)
    → IsAccepted past → FeedsTo source (readings bytes) table (summary past) 0 c end → IsOfFed source past 0 (readings bytes) c end
