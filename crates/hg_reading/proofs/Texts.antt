-- What a sink takes of a whole text.
use Rattle.std.proofs.Common.{◌≡◌, ℕ, List, [], ◌++◌, Option, None, Some, Result, Ok, Err, refl, sym, ap, ◌∙◌}
use Rattle.std.proofs.lemmas.List.{append-nil}
use Rattle.hg_model.specs.declared.verdict.Refusal.{Refusal}
use Rattle.hg_streams.specs.declared.call.WriteCall.{WriteCall}
use Rattle.hg_wire.specs.declared.reader.Reading.{Reading}
use Rattle.hg_wire.specs.Streams.{LinesRead, at_start, readings, readings_from}
use Rattle.hg_reading.specs.Taking.{Passes, Pushes, StopsIn, Taking}
use Rattle.hg_reading.specs.Whole.{TakesText}

module _ {S E : Type 0} (takes : Taking S E) where
  -- what is read of a text is what a fresh reader reads of it
  from_start : (bytes : List ℕ) (p : LinesRead) → p ≡ at_start → readings bytes ≡ readings_from p (bytes ++ [])
  from_start bytes p is = ap readings (sym (append-nil bytes)) ∙ ap (λ (q : LinesRead). readings_from q (bytes ++ [])) (sym is)

  stops_somewhere : (p q : LinesRead) (s t : S) (at_s at_t : List WriteCall) (bytes : List ℕ) (r : Result (Option E) Refusal) → (r ≡ Ok None → ⊥) → Pushes takes p s at_s bytes r q t at_t → StopsIn takes p s at_s bytes r t at_t
  stops_somewhere p q s t at_s at_t bytes (Ok None) never h = absurd (never refl)
  stops_somewhere p q s t at_s at_t bytes (Ok (Some end)) never h = h
  stops_somewhere p q s t at_s at_t bytes (Err x) never h = h

  -- a line ended the run, or was broken off
  pub stops_in_text : (settled : S → Type 0) (bytes : List ℕ) (p q : LinesRead) (s t : S) (at_s at_t : List WriteCall) (r : Result (Option E) Refusal) → p ≡ at_start → (r ≡ Ok None → ⊥) → Pushes takes p s at_s bytes r q t at_t
      → TakesText takes settled bytes s at_s r t at_t
  stops_in_text settled bytes p q s t at_s at_t r is never h =
      let w = stops_somewhere p q s t at_s at_t bytes r never h in
      let rest = w.front [] in
      record {
        lines = w.lines;
        rest = rest.0;
        joined = from_start bytes p is ∙ rest.1;
        whole = λ none. absurd (never none);
        steps = w.steps;
        judged = λ none. absurd (never none);
      }

  -- each line was passed, and the last one too was offered
  pub takes_whole : (settled : S → Type 0)
      → ((a b c : S) (at_a at_b at_c : List WriteCall) (first later : List Reading) (r : Result (Option E) Refusal) → takes a at_a first (Ok None) b at_b → takes b at_b later r c at_c → takes a at_a (first ++ later) r c at_c)
      → (bytes : List ℕ) (p q : LinesRead) (s t u : S) (at_s at_t at_u : List WriteCall) (r : Result (Option E) Refusal) → p ≡ at_start → Passes takes p s at_s bytes q t at_t [] → takes t at_t (readings_from q []) r u at_u → (r ≡ Ok None → settled u)
      → TakesText takes settled bytes s at_s r u at_u
  takes_whole settled on bytes p q s t u at_s at_t at_u r is passes last done = record {
    lines = passes.lines ++ readings_from q [];
    rest = [];
    joined = from_start bytes p is ∙ (passes.readings [] ∙ sym (append-nil (passes.lines ++ readings_from q [])));
    whole = λ none. refl;
    steps = on s t u at_s at_t at_u passes.lines (readings_from q []) r passes.steps last;
    judged = done;
  }
