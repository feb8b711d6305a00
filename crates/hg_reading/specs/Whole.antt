-- A whole input in memory, and what a sink takes of it.
use Rattle.std.specs.Prelude.{◌≡◌, ◌⊎◌, ℕ, List, [], ◌∷◌, ◌++◌, Option, None, Result, Ok}
use Rattle.hg_model.specs.declared.verdict.Refusal.{Refusal}
use Rattle.hg_model.specs.declared.verdict.Refusal.TheVariants.{DeviceFault, OutOfMemory}
use Rattle.hg_streams.specs.declared.call.ReadCall.{ReadCall}
use Rattle.hg_streams.specs.declared.call.ReadCall.TheVariants.{Gave}
use Rattle.hg_streams.specs.declared.call.WriteCall.{WriteCall}
use Rattle.hg_streams.specs.Calls.{NoneFailed, NoneRefused, ends_met, failed_reads, given}
use Rattle.hg_streams.specs.Faults.{ReadFailed}
use Rattle.hg_wire.specs.declared.reader.Reading.{Reading}
use Rattle.hg_wire.specs.Streams.{readings}
use Rattle.hg_reading.specs.Taking.{Taking}

-- No read since `first` failed, was refused memory or met the end of the input, and they gave these bytes.
pub record HasKept (first now : List ReadCall) (bytes : List ℕ) : Type 0 where
  pub earlier : List ReadCall
  pub since : now ≡ earlier ++ first
  pub intact : NoneFailed earlier
  pub underway : ends_met earlier ≡ 0
  pub all : given earlier ≡ bytes

-- The input was read to its end, and no further: no read since `first` failed or was refused memory, the last one met the end, and those
-- before it gave these bytes.
pub record IsKept (first now : List ReadCall) (bytes : List ℕ) : Type 0 where
  pub before : List ReadCall
  pub met : now ≡ Gave [] ∷ before
  pub kept : HasKept first before bytes

-- Why an input could not be kept: memory was refused where no read failed, or a read failed or too many were made.
pub record CantKeep (old new : List ReadCall) (r : Refusal) : Type 0 where
  pub later : List ReadCall
  pub since : new ≡ later ++ old
  pub cause : ((r ≡ OutOfMemory) × (failed_reads new ≡ failed_reads old)) ⊎ ((r ≡ DeviceFault) × (NoneRefused old new × ReadFailed old new))

-- The lines of a whole text were offered: all of them, or a front of them, one of which ended the run or was broken off. Where none did, all
-- are judged.
pub record TakesText {S E : Type 0} (takes : Taking S E) (settled : S → Type 0) (bytes : List ℕ) (before : S) (at_first : List WriteCall) (r : Result (Option E) Refusal) (here : S) (at_last : List WriteCall) : Type 0 where
  pub lines : List Reading
  pub rest : List Reading
  pub joined : readings bytes ≡ lines ++ rest
  pub whole : r ≡ Ok None → rest ≡ []
  pub steps : takes before at_first lines r here at_last
  pub judged : r ≡ Ok None → settled here
