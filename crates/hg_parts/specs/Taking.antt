-- What a judge takes of a trace text, and what is printed of it.
use Rattle.std.specs.Prelude.{◌≡◌, ℕ, ◌+◌, ◌<◌, ◌^◌, List, [], ◌++◌, length, Option, Result, IfOk, OnErr, OnOk, Err, ⊤, Bool, true, false}
use Rattle.hg_model.specs.declared.report.Report.{Report}
use Rattle.hg_model.specs.declared.verdict.Refusal.{Refusal}
use Rattle.hg_model.specs.Contents.{Content}
use Rattle.hg_model.specs.Change.{empty_content}
use Rattle.hg_sets.specs.Interning.{Table, first_table}
use Rattle.hg_sets.specs.declared.table.TheConstants.{MOST_SETS}
use Rattle.hg_wire.specs.declared.reader.Reading.{Reading}
use Rattle.hg_streams.specs.declared.call.WriteCall.{WriteCall}
use Rattle.hg_streams.specs.Calls.{failed_writes}
use Rattle.hg_streams.specs.Faults.{HasWriteCause}
use Rattle.hg_streams.specs.Holding.{IsDue}
use Rattle.hg_streams.specs.Texts.{reports_text}
use Rattle.hg_streams.specs.Told.{told}
use Rattle.hg_streams.specs.Written.{TookFront}
use Rattle.hg_reading.specs.declared.ending.Ending.{Ending}
use Rattle.hg_shards.specs.Judging.{HasReports, parts_of}
use Rattle.hg_shards.specs.Reading.{HasRead}
use Rattle.hg_parts.specs.declared.checking.PartsChecking.{PartsChecking}
use Rattle.hg_parts.specs.Going.{At, Goes, IsSomewhere}
use Rattle.hg_parts.specs.Holding.{parts_of_batch, readings_held}

-- the lines that were offered one by one and are not judged yet
abbrev pub pending : PartsChecking → List Reading
pending s = readings_held s.buffer

-- The buffer has a list for each part of the judge.
abbrev pub IsFit : PartsChecking → Type 0
IsFit s = parts_of_batch s.buffer ≡ parts_of s.judge

-- So many lines may be offered.
abbrev pub MayTake : PartsChecking → ℕ → Type 0
MayTake s n = IsFit s × IsSomewhere s.judge × (s.judge.events + length (pending s) + n < 2 ^ 63)

-- The first reports of a content were written since the calls `first`, or are held; the cursor has read these.
pub record HasPrinted (first : List WriteCall) (s : PartsChecking) (now : List WriteCall) (c : Content) : Type 0 where
  pub front : List Report
  pub rest : List Report
  pub grow : c.reports ≡ front ++ rest
  pub count : s.printed ≡ length front
  pub read : HasRead (parts_of s.judge) front s.cursor
  pub due : IsDue first now s.held.items [] (reports_text 1 front)

-- Where the first reports of the content were printed or held, so were the first of the later one; or, where a fault broke it off, what was
-- written are the first of these.
pub record Tells (old : PartsChecking) (before : List WriteCall) (r : Result (Option Ending) Refusal) (new : PartsChecking) (now : List WriteCall) (c last : Content) : Type 0 where
  pub printed : ((x : Refusal) → r ≡ Err x → ⊥) → (first : List WriteCall) → HasPrinted first old before c → HasPrinted first new now last
  pub front : (x : Refusal) → r ≡ Err x → (first : List WriteCall) → HasPrinted first old before c → TookFront first now (reports_text 1 last.reports)

-- Where lines that are due lead, and what was printed of it.
pub record Comes (old : PartsChecking) (before : List WriteCall) (lines : List Reading) (r : Result (Option Ending) Refusal) (new : PartsChecking) (now : List WriteCall) (c : Content) (table : Table) : Type 0 where
  pub went : Goes c table (pending old ++ lines) r (pending new) new.judge
  pub tells : Tells old before r new now c went.last

-- Lines were offered, or what came of them was printed. Some may not be judged yet.
pub record TakesLines (old : PartsChecking) (before : List WriteCall) (lines : List Reading) (r : Result (Option Ending) Refusal) (new : PartsChecking) (now : List WriteCall) : Type 0 where
  pub comes : (c : Content) (table : Table) → At c table old.judge → Comes old before lines r new now c table
  pub fit : IsFit old → IsFit new
  pub cause : (x : Refusal) → r ≡ Err x → HasWriteCause before now x
  pub failures : failed_writes now ≡ told r + failed_writes before

-- The same of a call that writes nothing.
abbrev pub TakesQuietly : PartsChecking → List Reading → Result (Option Ending) Refusal → PartsChecking → Type 0
TakesQuietly old lines r new = (calls : List WriteCall) → TakesLines old calls lines r new calls

-- All lines that were offered are judged.
abbrev pub IsSettled : PartsChecking → Type 0
IsSettled s = pending s ≡ []

-- ---- printing

-- All reports of the content were written or are held, and the cursor has read them.
pub record HasPrintedAll (first : List WriteCall) (s : PartsChecking) (now : List WriteCall) (c : Content) : Type 0 where
  pub count : s.printed ≡ length c.reports
  pub read : HasRead (parts_of s.judge) c.reports s.cursor
  pub all : IsDue first now s.held.items [] (reports_text 1 c.reports)

-- The next report was held or written (`true`), or all were (`false`).
abbrev pub PrintedNext : Bool → List WriteCall → PartsChecking → ℕ → List WriteCall → Content → Type 0
PrintedNext true first s before now c = (s.printed ≡ before + 1) × HasPrinted first s now c
PrintedNext false first s before now c = HasPrintedAll first s now c

-- What printing the next report comes to, of each content whose reports the judge has.
abbrev pub PrintsNextOf : PartsChecking → List WriteCall → Result Bool Refusal → PartsChecking → List WriteCall → Type 0
PrintsNextOf old before r new now =
    (c : Content) → HasReports c old.judge → (first : List WriteCall) → HasPrinted first old before c
    → IfOk r (λ more. PrintedNext more first new old.printed now c) × OnErr r (TookFront first now (reports_text 1 c.reports))

-- What printing all reports comes to, of each content whose reports the judge has.
abbrev pub PrintsAllOf : PartsChecking → List WriteCall → Result ⊤ Refusal → PartsChecking → List WriteCall → Type 0
PrintsAllOf old before r new now =
    (c : Content) → HasReports c old.judge → (first : List WriteCall) → HasPrinted first old before c
    → OnOk r (HasPrintedAll first new now c) × OnErr r (TookFront first now (reports_text 1 c.reports))

-- Nothing was offered, and nothing printed.
pub record IsFresh (s : PartsChecking) : Type 0 where
  pub fit : IsFit s
  pub at : At empty_content (first_table MOST_SETS) s.judge
  pub none : pending s ≡ []
  pub printed : s.printed ≡ 0
  pub read : HasRead (parts_of s.judge) [] s.cursor
  pub held : s.held.items ≡ []
