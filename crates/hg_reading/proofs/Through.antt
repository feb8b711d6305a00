-- What was read by one sink, seen as what a part of it took, which is never behind where the sink is settled.
use Rattle.std.proofs.Common.{◌≡◌, List, Option, None, Result, Ok}
use Rattle.hg_model.specs.declared.verdict.Refusal.{Refusal}
use Rattle.hg_streams.specs.declared.call.ReadCall.{ReadCall}
use Rattle.hg_streams.specs.declared.call.WriteCall.{WriteCall}
use Rattle.hg_wire.specs.declared.reader.Reading.{Reading}
use Rattle.hg_reading.specs.Taking.{AlwaysSettled, ReadBroke, Taking, WasRead}

module _ {S T E : Type 0} (takes : Taking S E) (settled : S → Type 0) (parts : Taking T E) (part : S → T)
    (seen : (a b : S) (at_a at_b : List WriteCall) (lines : List Reading) (r : Result (Option E) Refusal) → takes a at_a lines r b at_b → (r ≡ Ok None → settled b) → parts (part a) at_a lines r (part b) at_b)
  where
    pub read_through : (first now : List ReadCall) (s t : S) (at_s at_t : List WriteCall) (r : Result (Option E) Refusal) → WasRead takes settled first now s at_s r t at_t → WasRead parts AlwaysSettled first now (part s) at_s r (part t) at_t
    read_through first now s t at_s at_t r w = record {
      later = w.later;
      since = w.since;
      intact = w.intact;
      needed = record {
        last = w.needed.last;
        earlier = w.needed.earlier;
        newest = w.needed.newest;
        underway = w.needed.underway;
        now = part w.needed.now;
        calls = w.needed.calls;
        passed = seen s w.needed.now at_s w.needed.calls _ (Ok None) w.needed.passed (λ none. w.needed.judged);
        judged = tt;
      };
      lines = w.lines;
      due = w.due;
      steps = seen s t at_s at_t w.lines r w.steps w.judged;
      judged = λ none. tt;
    }

    pub broke_through : (first now : List ReadCall) (s t : S) (at_s at_t : List WriteCall) (x : Refusal) → ReadBroke takes settled first now s at_s x t at_t → ReadBroke parts AlwaysSettled first now (part s) at_s x (part t) at_t
    broke_through first now s t at_s at_t x w = record {
      later = w.later;
      since = w.since;
      underway = w.underway;
      lines = w.lines;
      front = w.front;
      steps = seen s t at_s at_t w.lines (Ok None) w.steps (λ none. w.judged);
      judged = tt;
      cause = w.cause;
    }
