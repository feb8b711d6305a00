-- What a sink takes of a queue: a batch, and lines behind it.
use Rattle.std.proofs.Common.{◌≡◌, ℕ, ◌+◌, List, [], ◌∷◌, ◌++◌, length, map, Option, None, Result, Ok, Err, sym, ap, ◌∙◌, subst}
use Rattle.std.proofs.lemmas.List.{append_assoc, length-append, length-map, map-append}
use Rattle.hg_model.specs.declared.event.Event.{Event}
use Rattle.hg_model.specs.declared.verdict.Refusal.{Refusal}
use Rattle.hg_streams.specs.declared.call.WriteCall.{WriteCall}
use Rattle.hg_wire.specs.declared.line.LineFault.{LineFault}
use Rattle.hg_wire.specs.declared.reader.Reading.{Reading}
use Rattle.hg_wire.specs.Streams.{numbered_on}
use Rattle.hg_reading.specs.declared.ending.Ending.{Ending}
use Rattle.hg_reading.specs.declared.queued.Queued.{Queued}
use Rattle.hg_reading.specs.Queueing.{IsOffered, lines_of, readings_behind}
use Rattle.hg_reading.specs.Taking.{Taking}
use Rattle.hg_parts.specs.declared.checking.PartsChecking.{PartsChecking}
use Rattle.hg_parts.specs.declared.line.EventLine.{EventLine}
use Rattle.hg_parts.specs.Batches.{readings_in}
use Rattle.hg_parts.specs.Queues.{lines_held}
use Rattle.hg_parts.specs.Stopping.{bad_at, reading_at}
use Rattle.hg_parts.specs.Taking.{MayTake, TakesLines, TakesQuietly}
use Rattle.hg_parts.specs.TakingLaws.{takes_fewer, takes_on, takes_room}
use Rattle.hg_parts.proofs.Taking.{on_and_on}

-- the lines of a queue, behind n others
pub behind_held : (n last : ℕ) (lines : List EventLine) (rest : List Queued) → readings_behind n (lines_held last lines rest) ≡ map (numbered_on n) (readings_in lines) ++ readings_behind (n + last) (lines_of rest)
behind_held n last lines rest =
    map-append (numbered_on n) (readings_in lines) (readings_behind last (lines_of rest))
    ∙ ap (λ (xs : List Reading). map (numbered_on n) (readings_in lines) ++ xs) (on_and_on n last (lines_of rest).readings)

pub held_length : (last : ℕ) (lines : List EventLine) (rest : List Queued) → length (lines_held last lines rest).readings ≡ length (readings_in lines) + length (lines_of rest).readings
held_length last lines rest =
    length-append (readings_in lines) (readings_behind last (lines_of rest)) ∙ ap (λ (k : ℕ). length (readings_in lines) + k) (length-map (lines_of rest).readings (numbered_on last))

-- there is room for the batch
pub may_batch : (s : PartsChecking) (last : ℕ) (lines : List EventLine) (rest : List Queued) → MayTake s (length (lines_held last lines rest).readings) → MayTake s (length (readings_in lines))
may_batch s last lines rest may = takes_fewer s (length (readings_in lines)) (length (lines_of rest).readings) (subst (λ (k : ℕ). MayTake s k) (held_length last lines rest) may)

-- and for the lines behind it
pub may_rest : (s t : PartsChecking) (n last : ℕ) (lines : List EventLine) (rest : List Queued) → MayTake s (length (lines_held last lines rest).readings) → TakesQuietly s (map (numbered_on n) (readings_in lines)) (Ok None) t
    → MayTake t (length (lines_of rest).readings)
may_rest s t n last lines rest may takes =
    let same : length (lines_held last lines rest).readings ≡ length (map (numbered_on n) (readings_in lines)) + length (lines_of rest).readings =
    held_length last lines rest ∙ ap (λ (k : ℕ). k + length (lines_of rest).readings) (sym (length-map (readings_in lines) (numbered_on n))) in
    takes_room s t [] [] (map (numbered_on n) (readings_in lines)) (length (lines_of rest).readings) (subst (λ (k : ℕ). MayTake s k) same may) (takes [])

-- the same of the lines behind it, as they are lent
pub may_slice : (s t : PartsChecking) (n last : ℕ) (lines : List EventLine) (rest slice : List Queued) → slice ≡ rest → MayTake s (length (lines_held last lines rest).readings) → TakesQuietly s (map (numbered_on n) (readings_in lines)) (Ok None) t
    → MayTake t (length (lines_of slice).readings)
may_slice s t n last lines rest slice is may takes = subst (λ (xs : List Queued). MayTake t (length (lines_of xs).readings)) (sym is) (may_rest s t n last lines rest may takes)

-- the line of an event, as it was read
pub takes_event : (a b : PartsChecking) (reading : Reading) (e : Event) (r : Result (Option Ending) Refusal) → reading.event ≡ Ok e → TakesQuietly a (reading_at reading.line e ∷ []) r b → TakesQuietly a (reading ∷ []) r b
takes_event a b reading e r is h = subst (λ (event : Result Event LineFault). TakesQuietly a (record { line = reading.line; event = event } ∷ []) r b) (sym is) h

-- a bad line, as it was read
pub takes_fault : (a b : PartsChecking) (reading : Reading) (fault : LineFault) (r : Result (Option Ending) Refusal) → reading.event ≡ Err fault → TakesQuietly a (bad_at reading.line fault ∷ []) r b → TakesQuietly a (reading ∷ []) r b
takes_fault a b reading fault r is h = subst (λ (event : Result Event LineFault). TakesQuietly a (record { line = reading.line; event = event } ∷ []) r b) (sym is) h

module _ {S : Type 0} (checking : S → PartsChecking) where
  abbrev pub seen : Taking S Ending
  seen s before lines r t now = TakesLines (checking s) before lines r (checking t) now

  -- the batch was passed, and the lines behind it came to this
  pub queue_on : (n last : ℕ) (lines : List EventLine) (rest : List Queued) (a b c : S) (at_a at_c : List WriteCall) (r : Result (Option Ending) Refusal) → TakesQuietly (checking a) (map (numbered_on n) (readings_in lines)) (Ok None) (checking b)
      → IsOffered seen b at_a (readings_behind (n + last) (lines_of rest)) r c at_c → IsOffered seen a at_a (readings_behind n (lines_held last lines rest)) r c at_c
  queue_on n last lines rest a b c at_a at_c r first o = record {
    lines = map (numbered_on n) (readings_in lines) ++ o.lines;
    left = o.left;
    joined = behind_held n last lines rest ∙ ap (λ (xs : List Reading). map (numbered_on n) (readings_in lines) ++ xs) o.joined ∙ sym (append_assoc (map (numbered_on n) (readings_in lines)) o.lines o.left);
    steps = takes_on (checking a) (checking b) (checking c) at_a at_a at_c (map (numbered_on n) (readings_in lines)) o.lines r (first at_a) o.steps;
    all = o.all;
  }

  -- the same with these lines as they are lent
  pub queue_through : (n last : ℕ) (lines : List EventLine) (rest slice : List Queued) (a b c : S) (at_a at_c : List WriteCall) (r : Result (Option Ending) Refusal) → slice ≡ rest → TakesQuietly (checking a) (map (numbered_on n) (readings_in lines)) (Ok None) (checking b)
      → IsOffered seen b at_a (readings_behind (n + last) (lines_of slice)) r c at_c → IsOffered seen a at_a (readings_behind n (lines_held last lines rest)) r c at_c
  queue_through n last lines rest slice a b c at_a at_c r is first o =
      queue_on n last lines rest a b c at_a at_c r first (subst (λ (xs : List Queued). IsOffered seen b at_a (readings_behind (n + last) (lines_of xs)) r c at_c) is o)

  -- a line of the batch ended the run or was broken off
  pub queue_stopped : (n last : ℕ) (lines : List EventLine) (rest : List Queued) (a b : S) (calls : List WriteCall) (r : Result (Option Ending) Refusal) → (r ≡ Ok None → ⊥) → TakesQuietly (checking a) (map (numbered_on n) (readings_in lines)) r (checking b)
      → IsOffered seen a calls (readings_behind n (lines_held last lines rest)) r b calls
  queue_stopped n last lines rest a b calls r never takes = record {
    lines = map (numbered_on n) (readings_in lines);
    left = readings_behind (n + last) (lines_of rest);
    joined = behind_held n last lines rest;
    steps = takes calls;
    all = λ none. absurd (never none);
  }
