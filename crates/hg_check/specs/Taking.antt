-- What a `Checking` takes of a trace text, and what it prints.
use Rattle.std.specs.Prelude.{◌≡◌, ◌+◌, ◌<◌, ◌^◌, ℕ, List, [], length, Option, Result, Err}
use Rattle.hg_model.specs.declared.verdict.Refusal.{Refusal}
use Rattle.hg_model.specs.Contents.{Content}
use Rattle.hg_detect.specs.Memory.{IsWhole, content_of}
use Rattle.hg_streams.specs.declared.call.WriteCall.{WriteCall}
use Rattle.hg_streams.specs.Calls.{failed_writes}
use Rattle.hg_streams.specs.Told.{told}
use Rattle.hg_wire.specs.declared.reader.Reading.{Reading}
use Rattle.hg_reading.specs.declared.ending.Ending.{Ending}
use Rattle.hg_check.specs.declared.checking.Checking.{Checking}
use Rattle.hg_streams.specs.declared.listing.Listing.{Listing}
use Rattle.hg_streams.specs.Holding.{IsDue}
use Rattle.hg_check.specs.Running.{IsStart, ReportsGrow, Steps, live_text}
use Rattle.hg_streams.specs.Faults.{HasWriteCause}
use Rattle.hg_streams.specs.Written.{TookFront}

-- The first `printed` reports are those of an earlier content. If reports are printed as they come, they were written since the calls
-- `first`, or are held.
pub record IsPrinted (first : List WriteCall) (s : Checking) (now : List WriteCall) : Type 0 where
  pub before : Content
  pub count : s.printed ≡ length before.reports
  pub grow : ReportsGrow before (content_of s.detector)
  pub due : IsDue first now s.held.items [] (live_text s.listing before)

-- Lines were offered, or what came of them was printed.
pub record ChecksLines (old : Checking) (before : List WriteCall) (lines : List Reading) (r : Result (Option Ending) Refusal) (new : Checking) (now : List WriteCall) : Type 0 where
  pub steps : Steps old.detector lines r new.detector
  pub listing : new.listing ≡ old.listing
  pub printed : ((x : Refusal) → r ≡ Err x → ⊥) → (first : List WriteCall) → IsPrinted first old before → IsPrinted first new now
  pub front : (x : Refusal) → r ≡ Err x → (first : List WriteCall) → IsPrinted first old before → TookFront first now (live_text old.listing (content_of new.detector))
  pub cause : (x : Refusal) → r ≡ Err x → HasWriteCause before now x
  pub failures : failed_writes now ≡ told r + failed_writes before

-- So many lines may be offered.
abbrev pub MayTake : Checking → ℕ → Type 0
MayTake s n = IsWhole s.detector × ((content_of s.detector).last 0 + n < 2 ^ 64)

-- Nothing was offered, and nothing printed.
pub record IsFresh (listing : Listing) (s : Checking) : Type 0 where
  pub whole : IsWhole s.detector
  pub start : IsStart s.detector
  pub listing_is : s.listing ≡ listing
  pub printed : s.printed ≡ 0
  pub held : s.held.items ≡ []

-- The text that a run prints while it reads was written, or is held.
abbrev pub HasPrinted : List WriteCall → List WriteCall → Listing → Checking → Type 0
HasPrinted first now listing s = IsDue first now s.held.items [] (live_text listing (content_of s.detector))
