-- The lines of a piece.
use Rattle.std.proofs.Common.{◌≡◌, ℕ, ◌+◌, ◌-◌, List, [], ◌∷◌, ◌++◌, length, drop, Option, None, Result, Ok, refl, sym, ap, ◌∙◌, subst, arith}
use Rattle.std.proofs.lemmas.List.{append_assoc, length-append, length-drop}
use Rattle.hg_model.specs.declared.verdict.Refusal.{Refusal}
use Rattle.hg_streams.specs.declared.call.WriteCall.{WriteCall}
use Rattle.hg_wire.specs.declared.reader.Reading.{Reading}
use Rattle.hg_wire.specs.Streams.{GivesNoReading, GivesReading, LinesRead, ended_from, readings_from}
use Rattle.hg_reading.specs.Taking.{Passes, StopsIn, Taking}

module _ {S E : Type 0} (takes : Taking S E) where
  pub passes_first : (old : LinesRead) (s : S) (calls : List WriteCall) (piece : List ℕ) → takes s calls [] (Ok None) s calls → Passes takes old s calls piece old s calls piece
  passes_first old s calls piece none = record {
    lines = [];
    steps = none;
    readings = λ more. refl;
    ended = λ more. refl;
    counted = omega arith;
    few = omega arith;
  }

  -- one line more was passed
  pub passes_on : (old mid new : LinesRead) (a b c : S) (at_a at_b at_c : List WriteCall) (piece rest : List ℕ) (reading : Reading) (used : ℕ)
      → (so_far : Passes takes old a at_a piece mid b at_b rest) → GivesReading mid new rest reading used
      → takes a at_a (so_far.lines ++ reading ∷ []) (Ok None) c at_c → Passes takes old a at_a piece new c at_c (drop used rest)
  passes_on old mid new a b c at_a at_b at_c piece rest reading used so_far gives steps = record {
    lines = so_far.lines ++ reading ∷ [];
    steps = steps;
    readings = λ more. so_far.readings more ∙ (ap (λ xs. so_far.lines ++ xs) (gives.readings more) ∙ sym (append_assoc so_far.lines (reading ∷ []) (readings_from new (drop used rest ++ more))));
    ended = λ more. so_far.ended more ∙ (ap (λ xs. so_far.lines ++ xs) (gives.ended more) ∙ sym (append_assoc so_far.lines (reading ∷ []) (ended_from new (drop used rest ++ more))));
    counted = omega (arith, so_far.counted, gives.counted, gives.within, length-drop used rest);
    few = omega (arith, so_far.few, gives.some, gives.within, length-drop used rest, length-append so_far.lines (reading ∷ []));
  }

  -- the rest of the piece had no line more
  pub passes_end : (old mid new : LinesRead) (a b : S) (at_a at_b : List WriteCall) (piece rest : List ℕ) → Passes takes old a at_a piece mid b at_b rest → GivesNoReading mid new rest → Passes takes old a at_a piece new b at_b []
  passes_end old mid new a b at_a at_b piece rest so_far gives = record {
    lines = so_far.lines;
    steps = so_far.steps;
    readings = λ more. so_far.readings more ∙ ap (λ xs. so_far.lines ++ xs) (gives.readings more);
    ended = λ more. so_far.ended more ∙ ap (λ xs. so_far.lines ++ xs) (gives.ended more);
    counted = omega (arith, so_far.counted, gives.counted);
    few = omega (arith, so_far.few);
  }

  -- a line ended the run, or was broken off
  pub stops_in : (old mid new : LinesRead) (a b c : S) (at_a at_b at_c : List WriteCall) (piece rest : List ℕ) (reading : Reading) (used : ℕ) (r : Result (Option E) Refusal)
      → (so_far : Passes takes old a at_a piece mid b at_b rest) → GivesReading mid new rest reading used
      → takes a at_a (so_far.lines ++ reading ∷ []) r c at_c → StopsIn takes old a at_a piece r c at_c
  stops_in old mid new a b c at_a at_b at_c piece rest reading used r so_far gives steps = record {
    lines = so_far.lines ++ reading ∷ [];
    steps = steps;
    front = λ more. (
      readings_from new (drop used rest ++ more),
      so_far.readings more ∙ (ap (λ xs. so_far.lines ++ xs) (gives.readings more) ∙ sym (append_assoc so_far.lines (reading ∷ []) (readings_from new (drop used rest ++ more)))),
    );
  }

  -- one line more may be offered, where the rest of a piece has one
  pub room_for_one : (may_take : S → ℕ → Type 0)
      → ((a b : S) (at_a at_b : List WriteCall) (first : List Reading) (n : ℕ) → may_take a (length first + n) → takes a at_a first (Ok None) b at_b → may_take b n)
      → ((s : S) (n more : ℕ) → may_take s (n + more) → may_take s n)
      → (old mid new : LinesRead) (a b : S) (at_a at_b : List WriteCall) (piece rest : List ℕ) (reading : Reading) (used : ℕ)
      → Passes takes old a at_a piece mid b at_b rest → GivesReading mid new rest reading used → may_take a (length piece) → may_take b 1
  room_for_one may_take room fewer old mid new a b at_a at_b piece rest reading used so_far gives may =
      let left : length piece ≡ length so_far.lines + (1 + (length piece - length so_far.lines - 1)) = omega (arith, so_far.few, gives.some, gives.within) in
      fewer b 1 (length piece - length so_far.lines - 1) (room a b at_a at_b so_far.lines (1 + (length piece - length so_far.lines - 1)) (subst (λ (n : ℕ). may_take a n) left may) so_far.steps)
