-- Pieces in parts: what came of the first bytes, and then of the others.
use Rattle.std.proofs.Common.{◌≡◌, ℕ, ◌+◌, ◌-◌, List, [], ◌∷◌, ◌++◌, length, take, drop, set, Option, None, Some, Result, Ok, Err, true, eqb, sym, ap, ◌∙◌, subst, arith}
use Rattle.std.proofs.lemmas.Bool.{eqb-true}
use Rattle.std.proofs.lemmas.List.{append-nil, append_assoc, length-append, length-drop, drop_at}
use Rattle.hg_model.specs.declared.verdict.Refusal.{Refusal}
use Rattle.hg_streams.specs.declared.call.WriteCall.{WriteCall}
use Rattle.hg_wire.specs.declared.reader.Reading.{Reading}
use Rattle.hg_wire.specs.Streams.{LinesRead, between_lines, ended_from, readings_from}
use Rattle.hg_reading.specs.declared.part.Part.{Part}
use Rattle.hg_reading.specs.Queueing.{AreHeld, Holds, HoldsAlone, IsQueued, IsOffered, Lines, readings_behind}
use Rattle.hg_reading.proofs.Queueing.{behind_length}
use Rattle.hg_reading.specs.Taking.{Passes, Pushes, StopsIn, Taking}

module _ {S E : Type 0} (takes : Taking S E) where
  pub pushes_pass : (p : LinesRead) (a : S) (at_a : List WriteCall) (piece : List ℕ) (r : Result (Option E) Refusal) (q : LinesRead) (b : S) (at_b : List WriteCall)
      → r ≡ Ok None → Pushes takes p a at_a piece r q b at_b → Passes takes p a at_a piece q b at_b []
  pushes_pass p a at_a piece r q b at_b is h = subst (λ x. Pushes takes p a at_a piece x q b at_b) is h

  -- what was passed of a piece was passed of a longer one
  pub passes_longer : (p q : LinesRead) (a b : S) (at_a at_b : List WriteCall) (piece rest tail : List ℕ) → Passes takes p a at_a piece q b at_b rest → Passes takes p a at_a (piece ++ tail) q b at_b (rest ++ tail)
  passes_longer p q a b at_a at_b piece rest tail h = record {
    lines = h.lines;
    steps = h.steps;
    readings = λ more. ap (readings_from p) (append_assoc piece tail more) ∙ (h.readings (tail ++ more) ∙ ap (λ x. h.lines ++ readings_from q x) (sym (append_assoc rest tail more)));
    ended = λ more. ap (ended_from p) (append_assoc piece tail more) ∙ (h.ended (tail ++ more) ∙ ap (λ x. h.lines ++ ended_from q x) (sym (append_assoc rest tail more)));
    counted = omega (arith, h.counted, length-append piece tail, length-append rest tail);
    few = omega (arith, h.few, length-append piece tail, length-append rest tail);
  }

  pub stops_longer : (p : LinesRead) (a b : S) (at_a at_b : List WriteCall) (piece tail : List ℕ) (r : Result (Option E) Refusal) → StopsIn takes p a at_a piece r b at_b → StopsIn takes p a at_a (piece ++ tail) r b at_b
  stops_longer p a b at_a at_b piece tail r h = record {
    lines = h.lines;
    steps = h.steps;
    front = λ more. let rest = h.front (tail ++ more) in (rest.0, ap (readings_from p) (append_assoc piece tail more) ∙ rest.1);
  }

  -- there is room for what is left
  pub room_left : (may_take : S → ℕ → Type 0)
      → ((a b : S) (at_a at_b : List WriteCall) (first : List Reading) (n : ℕ) → may_take a (length first + n) → takes a at_a first (Ok None) b at_b → may_take b n)
      → ((s : S) (n more : ℕ) → may_take s (n + more) → may_take s n)
      → (p q : LinesRead) (a b : S) (at_a at_b : List WriteCall) (piece rest : List ℕ) → Passes takes p a at_a piece q b at_b rest → may_take a (length piece) → may_take b (length rest)
  room_left may_take room fewer p q a b at_a at_b piece rest h may =
      let over = length piece - length h.lines - length rest in
      let count : length piece ≡ length h.lines + (length rest + over) = omega (arith, h.few) in
      fewer b (length rest) over (room a b at_a at_b h.lines (length rest + over) (subst (λ (k : ℕ). may_take a k) count may) h.steps)

  module _ (on : (a b c : S) (at_a at_b at_c : List WriteCall) (first later : List Reading) (r : Result (Option E) Refusal)
      → takes a at_a first (Ok None) b at_b → takes b at_b later r c at_c → takes a at_a (first ++ later) r c at_c)
    where
      pub passes_then : (p q s : LinesRead) (a b c : S) (at_a at_b at_c : List WriteCall) (piece mid rest : List ℕ)
          → Passes takes p a at_a piece q b at_b mid → Passes takes q b at_b mid s c at_c rest → Passes takes p a at_a piece s c at_c rest
      passes_then p q s a b c at_a at_b at_c piece mid rest h k = record {
        lines = h.lines ++ k.lines;
        steps = on a b c at_a at_b at_c h.lines k.lines (Ok None) h.steps k.steps;
        readings = λ more. h.readings more ∙ (ap (λ xs. h.lines ++ xs) (k.readings more) ∙ sym (append_assoc h.lines k.lines (readings_from s (rest ++ more))));
        ended = λ more. h.ended more ∙ (ap (λ xs. h.lines ++ xs) (k.ended more) ∙ sym (append_assoc h.lines k.lines (ended_from s (rest ++ more))));
        counted = omega (arith, h.counted, k.counted);
        few = omega (arith, h.few, k.few, length-append h.lines k.lines);
      }

      pub stops_then : (p q : LinesRead) (a b c : S) (at_a at_b at_c : List WriteCall) (piece mid : List ℕ) (r : Result (Option E) Refusal)
          → Passes takes p a at_a piece q b at_b mid → StopsIn takes q b at_b mid r c at_c → StopsIn takes p a at_a piece r c at_c
      stops_then p q a b c at_a at_b at_c piece mid r h k = record {
        lines = h.lines ++ k.lines;
        steps = on a b c at_a at_b at_c h.lines k.lines r h.steps k.steps;
        front = λ more. let rest = k.front more in (rest.0, h.readings more ∙ (ap (λ xs. h.lines ++ xs) rest.1 ∙ sym (append_assoc h.lines k.lines rest.0)));
      }

      pub pushes_then : (p q s : LinesRead) (a b c : S) (at_a at_b at_c : List WriteCall) (piece mid : List ℕ) (r : Result (Option E) Refusal)
          → Passes takes p a at_a piece q b at_b mid → Pushes takes q b at_b mid r s c at_c → Pushes takes p a at_a piece r s c at_c
      pushes_then p q s a b c at_a at_b at_c piece mid (Ok None) h k = passes_then p q s a b c at_a at_b at_c piece mid [] h k
      pushes_then p q s a b c at_a at_b at_c piece mid (Ok (Some end)) h k = stops_then p q a b c at_a at_b at_c piece mid (Ok (Some end)) h k
      pushes_then p q s a b c at_a at_b at_c piece mid (Err x) h k = stops_then p q a b c at_a at_b at_c piece mid (Err x) h k

      -- a piece in two: all of its first part was passed
      pub pushes_front : (p q s : LinesRead) (a b c : S) (at_a at_b at_c : List WriteCall) (piece first later : List ℕ) (r : Result (Option E) Refusal) → piece ≡ first ++ later
          → Passes takes p a at_a first q b at_b [] → Pushes takes q b at_b later r s c at_c → Pushes takes p a at_a piece r s c at_c
      pushes_front p q s a b c at_a at_b at_c piece first later r is h k =
          pushes_then p q s a b c at_a at_b at_c piece later r (subst (λ x. Passes takes p a at_a x q b at_b later) (sym is) (passes_longer p q a b at_a at_b first [] later h)) k

  -- a piece in two: its first part was not passed
  pub stops_front : (p : LinesRead) (a b : S) (at_a at_b : List WriteCall) (piece first later : List ℕ) (r : Result (Option E) Refusal) → piece ≡ first ++ later → StopsIn takes p a at_a first r b at_b → StopsIn takes p a at_a piece r b at_b
  stops_front p a b at_a at_b piece first later r is h = subst (λ x. StopsIn takes p a at_a x r b at_b) (sym is) (stops_longer p a b at_a at_b first later r h)

  -- ---- what a part holds

  pub part_passes : (p : LinesRead) (a b : S) (at_a at_b : List WriteCall) (text : List ℕ) (held : Lines) (lines bytes n : ℕ) (r : Result (Option E) Refusal) → p.begun ≡ [] → n ≡ p.lines → IsQueued text held lines bytes
      → IsOffered takes a at_a (readings_behind n held) r b at_b → r ≡ Ok None → Passes takes p a at_a text (record { lines = p.lines + lines; begun = p.begun }) b at_b (drop bytes text)
  part_passes p a b at_a at_b text held lines bytes n r begun is h offered passed =
      let stands : p ≡ between_lines p.lines = ap (λ x. record { lines = p.lines; begun = x }) begun in
      let after : between_lines (p.lines + lines) ≡ record { lines = p.lines + lines; begun = p.begun } = ap (λ x. record { lines = p.lines + lines; begun = x }) (sym begun) in
      let all : readings_behind p.lines held ≡ offered.lines = ap (λ (m : ℕ). readings_behind m held) (sym is) ∙ (offered.joined ∙ (ap (λ xs. offered.lines ++ xs) (offered.all passed) ∙ append-nil offered.lines)) in
      record {
        lines = offered.lines;
        steps = subst (λ x. takes a at_a offered.lines x b at_b) passed offered.steps;
        readings = λ more. ap (λ (x : LinesRead). readings_from x (text ++ more)) stands ∙ (h.readings p.lines more
            ∙ (ap (λ xs. xs ++ readings_from (between_lines (p.lines + lines)) (drop bytes text ++ more)) all ∙ ap (λ (x : LinesRead). offered.lines ++ readings_from x (drop bytes text ++ more)) after));
        ended = λ more. ap (λ (x : LinesRead). ended_from x (text ++ more)) stands ∙ (h.ended p.lines more
            ∙ (ap (λ xs. xs ++ ended_from (between_lines (p.lines + lines)) (drop bytes text ++ more)) all ∙ ap (λ (x : LinesRead). offered.lines ++ ended_from x (drop bytes text ++ more)) after));
        counted = omega (arith, h.counted, h.within, length-drop bytes text);
        few = omega (arith, h.few, behind_length p.lines held, ap length all, h.within, length-drop bytes text);
      }

  pub part_stops : (p : LinesRead) (a b : S) (at_a at_b : List WriteCall) (text : List ℕ) (held : Lines) (lines bytes n : ℕ) (r : Result (Option E) Refusal) → p.begun ≡ [] → n ≡ p.lines → IsQueued text held lines bytes
      → IsOffered takes a at_a (readings_behind n held) r b at_b → StopsIn takes p a at_a text r b at_b
  part_stops p a b at_a at_b text held lines bytes n r begun is h offered =
      let stands : p ≡ between_lines p.lines = ap (λ x. record { lines = p.lines; begun = x }) begun in
      let all : readings_behind p.lines held ≡ offered.lines ++ offered.left = ap (λ (m : ℕ). readings_behind m held) (sym is) ∙ offered.joined in
      record {
        lines = offered.lines;
        steps = offered.steps;
        front = λ more. let after = readings_from (between_lines (p.lines + lines)) (drop bytes text ++ more) in (
          offered.left ++ after,
          ap (λ (x : LinesRead). readings_from x (text ++ more)) stands ∙ (h.readings p.lines more ∙ (ap (λ xs. xs ++ after) all ∙ append_assoc offered.lines offered.left after)),
        );
      }

  -- there is room for what is left behind the first part of a piece
  pub room_second : (may_take : S → ℕ → Type 0)
      → ((a b : S) (at_a at_b : List WriteCall) (first : List Reading) (n : ℕ) → may_take a (length first + n) → takes a at_a first (Ok None) b at_b → may_take b n)
      → ((s : S) (n more : ℕ) → may_take s (n + more) → may_take s n)
      → (p q : LinesRead) (a b : S) (at_a at_b : List WriteCall) (piece first later : List ℕ) → piece ≡ first ++ later → Passes takes p a at_a first q b at_b [] → may_take a (length piece) → may_take b (length later)
  room_second may_take room fewer p q a b at_a at_b piece first later is h may =
      room_left may_take room fewer p q a b at_a at_b (first ++ later) later (passes_longer p q a b at_a at_b first [] later h) (subst (λ x. may_take a (length x)) is may)

-- ---- texts that parts hold

module _ {Q : Type 0} (held : Q → Lines) where
  pub held_both : (front back : List (Part Q)) (first later text : List ℕ) → text ≡ first ++ later → HoldsAlone held front first → AreHeld held back later → AreHeld held (front ++ back) text
  held_both [] back first later text is alone h = absurd alone
  held_both (part ∷ []) back first later text is alone h = (first, later, is, alone, h)
  held_both (part ∷ other ∷ parts) back first later text is alone h = absurd alone

  pub held_alone : (parts : List (Part Q)) (part : Part Q) (text : List ℕ) → length parts ≡ 1 → Holds held part text → HoldsAlone held (set parts 0 part) text
  held_alone [] part text one h = absurd (omega (arith, one))
  held_alone (old ∷ []) part text one h = h
  held_alone (old ∷ other ∷ parts) part text one h = absurd (omega (arith, one))

  -- what is left behind the text of the next part
  pub held_next : (part : Part Q) (parts : List (Part Q)) (text first later : List ℕ) → AreHeld held (part ∷ parts) text → first ≡ take part.given text → later ≡ drop part.given text → AreHeld held parts later
  held_next part parts text first later all front back =
      let size : length all.0 ≡ part.given = sym all.3.given in
      let rest : later ≡ all.1 = back ∙ (ap (drop part.given) all.2 ∙ drop_at all.0 all.1 part.given size) in
      subst (AreHeld held parts) (sym rest) all.4

-- nothing stands behind a text
pub none_behind : (first later : List ℕ) → eqb (length later) 0 ≡ true → first ≡ first ++ later
none_behind first [] e = sym (append-nil first)
none_behind first (x ∷ later) e = absurd (let none : length (x ∷ later) ≡ 0 = eqb-true _ _ e in omega arith)
