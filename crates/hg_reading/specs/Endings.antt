-- How the reading of a trace text ends.
use Rattle.std.specs.Prelude.{◌≡◌, ◌⊎◌, ℕ, List, [], Option, None, Some, Result, Ok, Err}
use Rattle.hg_model.specs.declared.verdict.Refusal.{Refusal}
use Rattle.hg_model.specs.declared.verdict.Refusal.TheVariants.{OutOfMemory}
use Rattle.hg_model.specs.Codes.{code_of}
use Rattle.hg_wire.specs.Reports.{bad_line, refused_line}
use Rattle.hg_streams.specs.Texts.{line_text}
use Rattle.hg_reading.specs.declared.ending.Ending.{Ending}
use Rattle.hg_reading.specs.declared.ending.Ending.TheVariants.{Ended, Refused, Bad}

-- how a run ended: where no line ended it, it came to the end of its input
abbrev pub ending_of : Option Ending → Ending
ending_of None = Ended
ending_of (Some end) = end

-- the status of a run that had no fault
abbrev pub status_of : Ending → ℕ
status_of Ended = 0
status_of _ = 2

-- the line that ended a run; one that comes to its end has none
abbrev pub stop_text : Ending → List ℕ
stop_text Ended = []
stop_text (Refused line refusal) = line_text (refused_line line (code_of refusal))
stop_text (Bad line) = line_text (bad_line line)

-- Want of memory is a fault, and any other refusal ends the run at its line.
abbrev pub Stops : ℕ → Refusal → Result (Option Ending) Refusal → Type 0
Stops line r given = ((r ≡ OutOfMemory) × (given ≡ Err OutOfMemory)) ⊎ ((r ≡ OutOfMemory → ⊥) × (given ≡ Ok (Some (Refused line r))))
