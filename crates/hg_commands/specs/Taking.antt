-- What feeding a store takes of a trace text.
use Rattle.std.specs.Prelude.{◌≡◌, ◌+◌, ◌<◌, ◌^◌, ℕ, List, ◌++◌, length, Option, None, Some, Result, Ok, Err, IsTrue}
use Rattle.hg_model.specs.declared.verdict.Refusal.{Refusal}
use Rattle.hg_model.specs.Contents.{Content}
use Rattle.hg_streams.specs.declared.call.WriteCall.{WriteCall}
use Rattle.hg_streams.specs.Told.{told}
use Rattle.hg_disk.specs.declared.disk.Disk as disk
use Rattle.hg_wire.specs.declared.reader.Reading.{Reading}
use Rattle.hg_reading.specs.declared.ending.Ending.{Ending}
use Rattle.hg_commands.specs.declared.lines.Feeding.{Feeding}
use Rattle.hg_commands.specs.Feeding.{HasRoom}
use Rattle.hg_commands.specs.FeedRunning.{FrontFor, IsReady, LeadsOn, Place, StaysOnWay, WentWell, content_at, place}
use Rattle.hg_commands.specs.Instants.{Instant}
use Rattle.hg_commands.specs.Keeping.{KeepsOn}
use Rattle.hg_commands.specs.Storing.{failed_calls}
use Rattle.hg_commands.specs.FeedFaults.{IsLineFault}

-- It is ready for lines that are offered next.
abbrev pub IsReadyAt : {D : Type 0} → Place D → Type 0
IsReadyAt p = IsReady p.store p.fed

-- So many lines may be offered.
abbrev pub MayTake : {D : Type 0} → Place D → ℕ → Type 0
MayTake p n = IsReadyAt p × (p.fed.number + n < 2 ^ 64)

-- No fault broke it off.
abbrev pub IsFine : Result (Option Ending) Refusal → Type 0
IsFine r = (x : Refusal) → r ≡ Err x → ⊥

module _ {D : Type 0} (g : disk.Ghosts D) where
  -- Lines were offered: each was passed (`Ok None`), or the last of them ended the feeding or was broken off. What is said of content is said of honest devices.
  pub record FeedsLines (old : Place D) (earlier : List (Instant D)) (lines : List Reading) (r : Result (Option Ending) Refusal) (new : Place D) (later : List (Instant D)) : Type 0 where
    pub goes : IsFine r → IsReadyAt old → WentWell g old new
    pub number : r ≡ Ok None → new.fed.number ≡ old.fed.number + length lines
    pub leads : r ≡ Ok None → IsTrue g.is_honest → (more : List Reading) (last : Content) (end : Ending) → LeadsOn g new more last end → LeadsOn g old (lines ++ more) last end
    pub back : r ≡ Ok None → IsTrue g.is_honest → (more : List Reading) (last : Content) (end : Ending) → HasRoom end → LeadsOn g old (lines ++ more) last end → LeadsOn g new more last end
    pub ends : (end : Ending) → r ≡ Ok (Some end) → IsTrue g.is_honest → (more : List Reading) → LeadsOn g old (lines ++ more) (content_at g new) end
    pub front : (x : Refusal) → r ≡ Err x → IsReadyAt old → IsTrue g.is_honest → (more : List Reading) (last : Content) (end : Ending) → HasRoom end → LeadsOn g old (lines ++ more) last end → FrontFor g old new.output last
    pub way : IsReadyAt old → StaysOnWay g old lines new
    pub cause : (x : Refusal) → r ≡ Err x → IsLineFault g x
    pub failures : failed_calls g new.store.devices new.output ≡ told r + failed_calls g old.store.devices old.output
    pub kept : KeepsOn g old.store old.output earlier new.store new.output later

module _ {D W : Type 0} (g : disk.Ghosts D) where
  -- From one state of a feeding and its output to another these lines were offered, with this answer.
  abbrev pub TakesLines : Feeding D W → List WriteCall → List Reading → Result (Option Ending) Refusal → Feeding D W → List WriteCall → Type 0
  TakesLines old before lines r new after =
      FeedsLines g (place old.store old.fed before) old.moments lines r (place new.store new.fed after) new.moments
