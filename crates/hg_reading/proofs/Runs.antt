-- A run between two reads.
use Rattle.std.proofs.Common.{◌≡◌, ℕ, ◌+◌, ◌-◌, ◌^◌, ◌≤◌, ◌<◌, List, [], ◌∷◌, ◌++◌, length, Option, None, Some, Result, Ok, Err, refl, sym, ap, ◌∙◌, subst, inl, inr, ⊎_elim, arith}
use Rattle.std.proofs.lemmas.List.{append-nil, append_assoc, length-append}
use Rattle.std.specs.declared.io.ErrorKind.{ErrorKind}
use Rattle.std.specs.declared.io.ErrorKind.TheVariants.{Interrupted}
use Rattle.hg_model.specs.declared.verdict.Refusal.{Refusal}
use Rattle.hg_model.specs.declared.verdict.Refusal.TheVariants.{DeviceFault, OutOfMemory}
use Rattle.hg_streams.specs.declared.call.ReadCall.{ReadCall}
use Rattle.hg_streams.specs.declared.call.ReadCall.TheVariants.{Erred, Gave}
use Rattle.hg_streams.specs.declared.call.WriteCall.{WriteCall}
use Rattle.hg_streams.specs.Calls.{ends_met, failed_reads, given, refused_reads}
use Rattle.hg_streams.specs.Faults.{IsStreamFault}
use Rattle.hg_streams.specs.Told.{lacked_refusal, told_refusal}
use Rattle.hg_wire.specs.declared.reader.Reading.{Reading}
use Rattle.hg_wire.specs.Streams.{LinesRead, at_start, ended_from, ended_readings, readings, readings_from}
use Rattle.hg_reading.specs.Taking.{EachIsNeeded, HasNoneLeft, HasRead, Passes, Pushes, ReadBroke, Reads, StopsIn, Taking, WasRead}

some_met : (piece : List ℕ) (later : List ReadCall) → 0 < length piece → ends_met (Gave piece ∷ later) ≡ ends_met later
some_met [] later some = absurd (omega (arith, some))
some_met (b ∷ piece) later some = refl

module _ {S E : Type 0} (takes : Taking S E)
    (on : (a b c : S) (at_a at_b at_c : List WriteCall) (first later : List Reading) (r : Result (Option E) Refusal)
    → takes a at_a first (Ok None) b at_b → takes b at_b later r c at_c → takes a at_a (first ++ later) r c at_c)
  where
    -- what is settled behind a piece passes no line more
    passes_settled : (p q : LinesRead) (s t u : S) (at_s at_t at_u : List WriteCall) (piece rest : List ℕ)
        → Passes takes p s at_s piece q t at_t rest → takes t at_t [] (Ok None) u at_u → Passes takes p s at_s piece q u at_u rest
    passes_settled p q s t u at_s at_t at_u piece rest passes done = record {
      lines = passes.lines;
      steps = subst (λ xs. takes s at_s xs (Ok None) u at_u) (append-nil passes.lines) (on s t u at_s at_t at_u passes.lines [] (Ok None) passes.steps done);
      readings = passes.readings;
      ended = passes.ended;
      counted = passes.counted;
      few = passes.few;
    }

    -- it was known behind a piece that a line ended the run, or it was broken off there
    stops_settling : (p q : LinesRead) (s t u : S) (at_s at_t at_u : List WriteCall) (piece : List ℕ) (r : Result (Option E) Refusal)
        → Passes takes p s at_s piece q t at_t [] → takes t at_t [] r u at_u → StopsIn takes p s at_s piece r u at_u
    stops_settling p q s t u at_s at_t at_u piece r passes done = record {
      lines = passes.lines;
      steps = subst (λ xs. takes s at_s xs r u at_u) (append-nil passes.lines) (on s t u at_s at_t at_u passes.lines [] r passes.steps done);
      front = λ more. (readings_from q more, passes.readings more);
    }

    pub pushes_settled : (p q : LinesRead) (s t u : S) (at_s at_t at_u : List WriteCall) (piece : List ℕ) (r : Result (Option E) Refusal)
        → Passes takes p s at_s piece q t at_t [] → takes t at_t [] r u at_u → Pushes takes p s at_s piece r q u at_u
    pushes_settled p q s t u at_s at_t at_u piece (Ok None) passes done = passes_settled p q s t u at_s at_t at_u piece [] passes done
    pushes_settled p q s t u at_s at_t at_u piece (Ok (Some end)) passes done = stops_settling p q s t u at_s at_t at_u piece (Ok (Some end)) passes done
    pushes_settled p q s t u at_s at_t at_u piece (Err x) passes done = stops_settling p q s t u at_s at_t at_u piece (Err x) passes done

    -- the last line was passed, and what is settled behind it passes no line more
    pub last_settled : (s t u : S) (at_s at_t at_u : List WriteCall) (lines : List Reading) (r : Result (Option E) Refusal)
        → takes s at_s lines (Ok None) t at_t → takes t at_t [] r u at_u → takes s at_s lines r u at_u
    last_settled s t u at_s at_t at_u lines r passed done = subst (λ xs. takes s at_s xs r u at_u) (append-nil lines) (on s t u at_s at_t at_u lines [] r passed done)

    -- a piece of at most so many bytes leaves the other room
    pub room_behind : (may_take : S → ℕ → Type 0)
        → ((a b : S) (at_a at_b : List WriteCall) (first : List Reading) (n : ℕ) → may_take a (length first + n) → takes a at_a first (Ok None) b at_b → may_take b n)
        → ((s : S) (n more : ℕ) → may_take s (n + more) → may_take s n)
        → (p q : LinesRead) (s t : S) (at_s at_t : List WriteCall) (piece : List ℕ) (size n : ℕ)
        → length piece ≤ size → Passes takes p s at_s piece q t at_t [] → may_take s (size + n) → may_take t n
    room_behind may_take room fewer p q s t at_s at_t piece size n within passes may =
        let left : size + n ≡ length passes.lines + (n + (size - length passes.lines)) = omega (arith, passes.few, within) in
        fewer t n (size - length passes.lines) (room s t at_s at_t passes.lines (n + (size - length passes.lines)) (subst (λ (k : ℕ). may_take s k) left may) passes.steps)

    module _ (settled : S → Type 0) where
      -- before the first read
      pub has_read_first : (known : List ReadCall) (s : S) (calls : List WriteCall) (p : LinesRead) → p ≡ at_start → settled s → takes s calls [] (Ok None) s calls → HasRead takes settled known known s calls p s calls
      has_read_first known s calls p start done none = record {
        later = [];
        since = refl;
        intact = refl;
        underway = refl;
        lines = [];
        steps = none;
        readings = λ more. ap (λ (q : LinesRead). readings_from q more) (sym start);
        ended = λ more. ap (λ (q : LinesRead). ended_from q more) (sym start);
        none_left = ap (λ (q : LinesRead). ended_from q []) start;
        judged = done;
      }

      -- a read that was interrupted
      pub has_read_again : (first reads now : List ReadCall) (start : S) (at_start : List WriteCall) (p : LinesRead) (s : S) (calls : List WriteCall)
          → now ≡ Erred Interrupted ∷ reads → HasRead takes settled first reads start at_start p s calls → HasRead takes settled first now start at_start p s calls
      has_read_again first reads now start at_start p s calls is h = record {
        later = Erred Interrupted ∷ h.later;
        since = is ∙ ap (λ t. Erred Interrupted ∷ t) h.since;
        intact = omega (arith, h.intact);
        underway = h.underway;
        lines = h.lines;
        steps = h.steps;
        readings = h.readings;
        ended = h.ended;
        none_left = h.none_left;
        judged = h.judged;
      }

      -- a piece of which each line was passed
      pub has_read_on : (first reads now : List ReadCall) (start : S) (at_start : List WriteCall) (p q : LinesRead) (s t : S) (at_s at_t : List WriteCall) (piece : List ℕ)
          → now ≡ Gave piece ∷ reads → 0 < length piece → (passes : Passes takes p s at_s piece q t at_t []) → HasNoneLeft q → settled t → HasRead takes settled first reads start at_start p s at_s → HasRead takes settled first now start at_start q t at_t
      has_read_on first reads now start at_start p q s t at_s at_t piece is some passes none_left done h = record {
        later = Gave piece ∷ h.later;
        since = is ∙ ap (λ xs. Gave piece ∷ xs) h.since;
        intact = h.intact;
        underway = some_met piece h.later some ∙ h.underway;
        lines = h.lines ++ passes.lines;
        steps = on start s t at_start at_s at_t h.lines passes.lines (Ok None) h.steps passes.steps;
        readings = λ more. ap readings (append_assoc (given h.later) piece more) ∙ (h.readings (piece ++ more)
            ∙ (ap (λ xs. h.lines ++ xs) (passes.readings more) ∙ sym (append_assoc h.lines passes.lines (readings_from q more))));
        ended = λ more. ap ended_readings (append_assoc (given h.later) piece more) ∙ (h.ended (piece ++ more)
            ∙ (ap (λ xs. h.lines ++ xs) (passes.ended more) ∙ sym (append_assoc h.lines passes.lines (ended_from q more))));
        none_left = none_left;
        judged = done;
      }

      -- the lines that had come whole were passed
      passed : (first reads : List ReadCall) (start : S) (at_start : List WriteCall) (p : LinesRead) (s : S) (at_s : List WriteCall) (h : HasRead takes settled first reads start at_start p s at_s)
          → takes start at_start (ended_readings (given h.later)) (Ok None) s at_s
      passed first reads start at_start p s at_s h =
          subst (λ xs. takes start at_start xs (Ok None) s at_s)
          (sym (ap ended_readings (sym (append-nil (given h.later))) ∙ (h.ended [] ∙ (ap (λ xs. h.lines ++ xs) h.none_left ∙ append-nil h.lines))))
          h.steps

      needed : (first reads : List ReadCall) (start : S) (at_start : List WriteCall) (p : LinesRead) (s : S) (at_s : List WriteCall) (call : ReadCall) (h : HasRead takes settled first reads start at_start p s at_s)
          → EachIsNeeded takes settled start at_start (call ∷ h.later)
      needed first reads start at_start p s at_s call h = record {
        last = call;
        earlier = h.later;
        newest = refl;
        underway = h.underway;
        now = s;
        calls = at_s;
        passed = passed first reads start at_start p s at_s h;
        judged = h.judged;
      }

      -- a line of a piece ended the run, or was broken off
      pub read_stop : (first reads now : List ReadCall) (start : S) (at_start : List WriteCall) (p : LinesRead) (s t : S) (at_s at_t : List WriteCall) (piece : List ℕ) (r : Result (Option E) Refusal)
          → now ≡ Gave piece ∷ reads → (r ≡ Ok None → ⊥) → StopsIn takes p s at_s piece r t at_t → HasRead takes settled first reads start at_start p s at_s → WasRead takes settled first now start at_start r t at_t
      read_stop first reads now start at_start p s t at_s at_t piece r is never stops h = record {
        later = Gave piece ∷ h.later;
        since = is ∙ ap (λ xs. Gave piece ∷ xs) h.since;
        intact = h.intact;
        needed = needed first reads start at_start p s at_s (Gave piece) h;
        lines = h.lines ++ stops.lines;
        due = inr (
          never,
          λ more. let rest = stops.front more in (
            rest.0,
            ap readings (append_assoc (given h.later) piece more) ∙ (h.readings (piece ++ more) ∙ (ap (λ xs. h.lines ++ xs) rest.1 ∙ sym (append_assoc h.lines stops.lines rest.0))),
          ),
        );
        steps = on start s t at_start at_s at_t h.lines stops.lines r h.steps stops.steps;
        judged = λ none. absurd (never none);
      }

      -- at the end of the input, its last line was offered
      pub read_end : (first reads now : List ReadCall) (start : S) (at_start : List WriteCall) (p : LinesRead) (s t : S) (at_s at_t : List WriteCall) (r : Result (Option E) Refusal)
          → now ≡ Gave [] ∷ reads → takes s at_s (readings_from p []) r t at_t → (r ≡ Ok None → settled t) → HasRead takes settled first reads start at_start p s at_s → WasRead takes settled first now start at_start r t at_t
      read_end first reads now start at_start p s t at_s at_t r met last done h = record {
        later = Gave [] ∷ h.later;
        since = met ∙ ap (λ xs. Gave [] ∷ xs) h.since;
        intact = h.intact;
        needed = needed first reads start at_start p s at_s (Gave []) h;
        lines = h.lines ++ readings_from p [];
        due = inl (h.later, refl, sym (h.readings []) ∙ ap readings (append-nil (given h.later)));
        steps = on start s t at_start at_s at_t h.lines (readings_from p []) r h.steps last;
        judged = done;
      }

      -- so a whole input was read
      pub reads_all : (first now : List ReadCall) (start : S) (at_start : List WriteCall) (r : Result (Option E) Refusal) (t : S) (at_t : List WriteCall)
          → WasRead takes settled first now start at_start r t at_t → Reads takes settled first now start at_start r t at_t
      reads_all first now start calls (Ok stop) t at_t w = w
      reads_all first now start calls (Err r) t at_t w = inl w

      -- a read failed, or was refused memory
      pub read_failed : (first reads now : List ReadCall) (start : S) (at_start : List WriteCall) (p : LinesRead) (s : S) (at_s : List WriteCall) (kind : ErrorKind) (r : Refusal)
          → now ≡ Erred kind ∷ reads → failed_reads now ≡ told_refusal r + failed_reads reads → refused_reads now ≡ lacked_refusal r + refused_reads reads → IsStreamFault r
          → HasRead takes settled first reads start at_start p s at_s → ReadBroke takes settled first now start at_start r s at_s
      read_failed first reads now start at_start p s at_s kind r is failed refused fault h = record {
        later = Erred kind ∷ h.later;
        since = is ∙ ap (λ xs. Erred kind ∷ xs) h.since;
        underway = h.underway;
        lines = h.lines;
        front = λ more. (readings_from p more, h.readings more);
        steps = h.steps;
        judged = h.judged;
        cause = ⊎_elim
            (λ memory. inl (
              memory,
              (
                omega (arith, failed, ap told_refusal memory, ap failed_reads is, h.intact),
                inr (omega (arith, refused, ap lacked_refusal memory, ap refused_reads is, h.intact)),
              ),
            ))
            (λ device. inr (
              device,
              (
                omega (arith, refused, ap lacked_refusal device, ap refused_reads is, h.intact),
                inl (omega (arith, failed, ap told_refusal device, ap failed_reads is, h.intact)),
              ),
            ))
            fault;
      }

      -- so many reads were made
      pub read_too_often : (first now : List ReadCall) (start : S) (at_start : List WriteCall) (p : LinesRead) (s : S) (at_s : List WriteCall) (reads : ℕ)
          → length now ≡ reads + length first → 2 ^ 32 ≤ reads → HasRead takes settled first now start at_start p s at_s → ReadBroke takes settled first now start at_start DeviceFault s at_s
      read_too_often first now start at_start p s at_s reads counted many h = record {
        later = h.later;
        since = h.since;
        underway = h.underway;
        lines = h.lines;
        front = λ more. (readings_from p more, h.readings more);
        steps = h.steps;
        judged = h.judged;
        cause = inr (refl, (omega (arith, h.intact), inr (omega (arith, counted, many, ap length h.since, length-append h.later first))));
      }

      -- memory was refused before the first read
      pub read_nothing : (known : List ReadCall) (s : S) (calls : List WriteCall) (r : Refusal) → settled s → takes s calls [] (Ok None) s calls → r ≡ OutOfMemory → ReadBroke takes settled known known s calls r s calls
      read_nothing known s calls r done none memory = record {
        later = [];
        since = refl;
        underway = refl;
        lines = [];
        front = λ more. (readings more, refl);
        steps = none;
        judged = done;
        cause = inl (memory, (refl, inl refl));
      }
