-- How far a text was parsed.
use Rattle.std.proofs.Common.{◌≡◌, ℕ, ◌+◌, ◌-◌, List, [], ◌∷◌, ◌++◌, length, take, drop, Ok, refl, sym, ◌∙◌, ap, subst, arith}
use Rattle.std.proofs.lemmas.List.{append_assoc, length-append, length-drop, drop-drop, drop_all, take_all}
use Rattle.hg_model.specs.declared.event.Event.{Event}
use Rattle.hg_wire.specs.declared.reader.Reading.{Reading}
use Rattle.hg_wire.specs.Streams.{GivesNoReading, GivesReading, LinesRead, at_start, between_lines, ended_from, numbered_on, readings_from}
use Rattle.hg_wire.proofs.Numbering.{gives_none_on, gives_on}
use Rattle.hg_reading.specs.Queueing.{IsQueued, Lines, no_lines, one, readings_behind}
use Rattle.hg_reading.proofs.Queueing.{behind_length}

-- A text was parsed up to a rest, each line that has an event was queued, and a reader stands in front of the rest.
pub record IsParsedTo (text : List ℕ) (held : Lines) (lines bytes : ℕ) (reader : LinesRead) (rest : List ℕ) : Type 0 where
  pub front : IsQueued text held lines bytes
  pub exact : held.count ≡ lines
  pub left : rest ≡ drop bytes text
  pub stands : reader ≡ between_lines lines

pub parsed_first : (text : List ℕ) (held : Lines) (reader : LinesRead) → held ≡ no_lines → reader ≡ at_start → IsParsedTo text held 0 0 reader text
parsed_first text held reader none start =
    let here : (n : ℕ) → n ≡ n + 0 = λ n. omega arith in
    let no_readings : (n : ℕ) → [] ≡ readings_behind n held = λ n. ap (readings_behind n) (sym none) in
    record {
      front = record {
        within = omega arith;
        counted = omega arith;
        stands_for = omega (arith, ap (λ (k : Lines). k.count) none);
        few = omega (arith, ap (λ (k : Lines). length k.readings) none);
        readings = λ n more. ap (λ (m : ℕ). readings_from (between_lines m) (text ++ more)) (here n) ∙ ap (λ rs. rs ++ readings_from (between_lines (n + 0)) (text ++ more)) (no_readings n);
        ended = λ n more. ap (λ (m : ℕ). ended_from (between_lines m) (text ++ more)) (here n) ∙ ap (λ rs. rs ++ ended_from (between_lines (n + 0)) (text ++ more)) (no_readings n);
      };
      exact = ap (λ (k : Lines). k.count) none;
      left = refl;
      stands = start;
    }

between : (p : LinesRead) → p.begun ≡ [] → p ≡ between_lines p.lines
between p none = ap (λ b. record { lines = p.lines; begun = b }) none

-- one line more
pub parsed_on : (text : List ℕ) (held more_held : Lines) (lines bytes : ℕ) (old new : LinesRead) (rest : List ℕ) (event : Event) (used passed : ℕ) → IsParsedTo text held lines bytes old rest
    → GivesReading old new rest (record { line = new.lines; event = Ok event }) used → passed ≡ new.lines - lines - 1
    → ((n : ℕ) → readings_behind n more_held ≡ readings_behind n held ++ one (n + held.count + passed) event) → more_held.count ≡ held.count + passed + 1
    → IsParsedTo text more_held new.lines (bytes + used) new (drop used rest)
parsed_on text held more_held lines bytes old new rest event used passed h gives lead reads counts =
    let start : old.lines ≡ lines = ap (λ (p : LinesRead). p.lines) h.stands in
    let begun : old.begun ≡ [] = ap (λ (p : LinesRead). p.begun) h.stands in
    let size : length rest ≡ length text - bytes = ap length h.left ∙ length-drop bytes text in
    let left : drop used rest ≡ drop (bytes + used) text = ap (drop used) h.left ∙ drop-drop used bytes text in
    let whole : more_held.count ≡ new.lines = omega (arith, counts, h.exact, lead, gives.rising, start) in
    let number : (n : ℕ) → n + new.lines ≡ n + held.count + passed + 1 = λ n. omega (arith, h.exact, lead, gives.rising, start) in
    let reading : Reading = record { line = new.lines; event = Ok event } in
    let step : (n : ℕ) → GivesReading (between_lines (n + lines)) (between_lines (n + new.lines)) rest (numbered_on n reading) used =
    λ n. subst (λ (l : ℕ). GivesReading (between_lines (n + l)) (between_lines (n + new.lines)) rest (numbered_on n reading) used) start (gives_on n old new rest reading used begun gives) in
    let same : (n : ℕ) → numbered_on n reading ∷ [] ≡ one (n + held.count + passed) event = λ n. ap (λ (l : ℕ). record { line = l; event = Ok event } ∷ []) (number n) in
    record {
      front = record {
        within = omega (arith, h.front.within, gives.within, size);
        counted = omega (arith, h.front.counted, gives.counted, start);
        stands_for = omega (arith, whole, gives.counted, gives.within, size, start, h.front.counted, h.front.within);
        few = omega (arith, behind_length 0 more_held, ap length (reads 0), length-append (readings_behind 0 held) (one (0 + held.count + passed) event), behind_length 0 held, h.front.few, gives.some);
        readings = λ n more. (
            let after = readings_from (between_lines (n + new.lines)) in
            let onward : readings_from (between_lines (n + lines)) (drop bytes text ++ more) ≡ (numbered_on n reading ∷ []) ++ after (drop (bytes + used) text ++ more) =
            ap (λ b. readings_from (between_lines (n + lines)) (b ++ more)) (sym h.left) ∙ ((step n).readings more ∙ ap (λ b. numbered_on n reading ∷ after (b ++ more)) left) in
            h.front.readings n more ∙ (ap (λ rs. readings_behind n held ++ rs) (onward ∙ ap (λ rs. rs ++ after (drop (bytes + used) text ++ more)) (same n))
            ∙ (sym (append_assoc (readings_behind n held) (one (n + held.count + passed) event) (after (drop (bytes + used) text ++ more)))
            ∙ ap (λ rs. rs ++ after (drop (bytes + used) text ++ more)) (sym (reads n)))));
        ended = λ n more. (
            let after = ended_from (between_lines (n + new.lines)) in
            let onward : ended_from (between_lines (n + lines)) (drop bytes text ++ more) ≡ (numbered_on n reading ∷ []) ++ after (drop (bytes + used) text ++ more) =
            ap (λ b. ended_from (between_lines (n + lines)) (b ++ more)) (sym h.left) ∙ ((step n).ended more ∙ ap (λ b. numbered_on n reading ∷ after (b ++ more)) left) in
            h.front.ended n more ∙ (ap (λ rs. readings_behind n held ++ rs) (onward ∙ ap (λ rs. rs ++ after (drop (bytes + used) text ++ more)) (same n))
            ∙ (sym (append_assoc (readings_behind n held) (one (n + held.count + passed) event) (after (drop (bytes + used) text ++ more)))
            ∙ ap (λ rs. rs ++ after (drop (bytes + used) text ++ more)) (sym (reads n)))));
      };
      exact = whole;
      left = left;
      stands = between new gives.between;
    }

-- no line more
pub parsed_all : (text : List ℕ) (held : Lines) (lines bytes : ℕ) (old new : LinesRead) (rest : List ℕ) → IsParsedTo text held lines bytes old rest → GivesNoReading old new rest → new.begun ≡ []
    → IsQueued text held new.lines (length text)
parsed_all text held lines bytes old new rest h gives after =
    let start : old.lines ≡ lines = ap (λ (p : LinesRead). p.lines) h.stands in
    let begun : old.begun ≡ [] = ap (λ (p : LinesRead). p.begun) h.stands in
    let size : length rest ≡ length text - bytes = ap length h.left ∙ length-drop bytes text in
    let none : drop (length text) text ≡ [] = drop_all (length text) text (omega arith) in
    let step : (n : ℕ) → GivesNoReading (between_lines (n + lines)) (between_lines (n + new.lines)) rest =
    λ n. subst (λ (l : ℕ). GivesNoReading (between_lines (n + l)) (between_lines (n + new.lines)) rest) start (gives_none_on n old new rest begun after gives) in
    record {
      within = omega arith;
      counted = omega (arith, gives.counted, size, start, h.front.counted, h.front.within);
      stands_for = h.front.stands_for;
      few = omega (arith, h.front.few, h.front.within);
      readings = λ n more. h.front.readings n more ∙ ap (λ rs. readings_behind n held ++ rs)
          (ap (λ b. readings_from (between_lines (n + lines)) (b ++ more)) (sym h.left) ∙ ((step n).readings more ∙ ap (λ b. readings_from (between_lines (n + new.lines)) (b ++ more)) (sym none)));
      ended = λ n more. h.front.ended n more ∙ ap (λ rs. readings_behind n held ++ rs)
          (ap (λ b. ended_from (between_lines (n + lines)) (b ++ more)) (sym h.left) ∙ ((step n).ended more ∙ ap (λ b. ended_from (between_lines (n + new.lines)) (b ++ more)) (sym none)));
    }

-- what is left behind so many bytes
pub rest_is : (k : ℕ) (rest : List ℕ) → take (length rest - k) (drop k rest) ≡ drop k rest
rest_is k rest = take_all (length rest - k) (drop k rest) (omega (arith, length-drop k rest))
