-- What is queued, and what was read of it.
use Rattle.std.proofs.Common.{◌≡◌, ℕ, ◌+◌, ◌<◌, List, [], ◌∷◌, ◌++◌, length, get_or, drop, map, Option, None, Result, Ok, refl, sym, ◌∙◌, ap, subst, arith}
use Rattle.std.proofs.lemmas.List.{append_assoc, append-nil, drop_more, length-append, length-map, map-append}
use Rattle.hg_model.specs.declared.event.Event.{Event}
use Rattle.hg_model.specs.declared.verdict.Refusal.{Refusal}
use Rattle.hg_streams.specs.declared.call.WriteCall.{WriteCall}
use Rattle.hg_wire.specs.declared.reader.Reading.{Reading}
use Rattle.hg_wire.specs.Streams.{numbered_on}
use Rattle.hg_reading.specs.declared.queued.Queued.{Queued}
use Rattle.hg_model.specs.declared.event.Event.TheVariants as events
use Rattle.hg_model.specs.Holding.{hold_event}
use Rattle.hg_reading.specs.declared.queued.Queued.TheVariants.{Passed, Fork, Join, Hold, Access, Alloc, Free, Send, Recv}
use Rattle.hg_reading.specs.Queueing.{IsEvent, IsLineOf, IsOffered, Lines, access_of, lines_by, lines_of, lines_queued, more_lines, one, reading_queued, readings_behind, readings_queued}
use Rattle.hg_reading.specs.Taking.{Taking}

-- one more
pub lines_more : (queued : List Queued) (it : Queued) → lines_queued (queued ++ it ∷ []) ≡ lines_queued queued + lines_by it
lines_more [] it = omega arith
lines_more (k ∷ queued) it = omega (arith, lines_more queued it)

pub readings_more : (n : ℕ) (queued : List Queued) (it : Queued) → readings_queued n (queued ++ it ∷ []) ≡ readings_queued n queued ++ reading_queued (n + lines_queued queued) it
readings_more n [] it =
    let here : n ≡ n + 0 = omega arith in
    append-nil (reading_queued n it) ∙ ap (λ (m : ℕ). reading_queued m it) here
readings_more n (k ∷ queued) it =
    let place : n + lines_by k + lines_queued queued ≡ n + (lines_by k + lines_queued queued) = omega arith in
    ap (λ rs. reading_queued n k ++ rs) (readings_more (n + lines_by k) queued it)
    ∙ (sym (append_assoc (reading_queued n k) (readings_queued (n + lines_by k) queued) (reading_queued (n + lines_by k + lines_queued queued) it))
    ∙ ap (λ (m : ℕ). (reading_queued n k ++ readings_queued (n + lines_by k) queued) ++ reading_queued m it) place)

-- ---- numbers

one_on : (n m : ℕ) (event : Event) → one (n + m) event ≡ map (numbered_on n) (one m event)
one_on n m event = let number : n + m + 1 ≡ n + (m + 1) = omega arith in ap (λ (l : ℕ). record { line = l; event = Ok event } ∷ []) number

reading_on : (n m : ℕ) (it : Queued) → reading_queued (n + m) it ≡ map (numbered_on n) (reading_queued m it)
reading_on n m (Passed count) = refl
reading_on n m (Fork p c) = one_on n m (events.Fork p c)
reading_on n m (Join p c) = one_on n m (events.Join p c)
reading_on n m (Hold kind t l) = one_on n m (hold_event (record { t = t; l = l; kind = kind }))
reading_on n m (Access len is_write t at) = one_on n m (access_of is_write (record { t = t; at = at; len = len }))
reading_on n m (Alloc t len at) = one_on n m (events.Alloc (record { t = t; at = at; len = len }))
reading_on n m (Free t len at) = one_on n m (events.Free (record { t = t; at = at; len = len }))
reading_on n m (Send t k) = one_on n m (events.Send t k)
reading_on n m (Recv t k) = one_on n m (events.Recv t k)

readings_on : (n m : ℕ) (queued : List Queued) → readings_queued (n + m) queued ≡ map (numbered_on n) (readings_queued m queued)
readings_on n m [] = refl
readings_on n m (it ∷ queued) =
    let place : n + m + lines_by it ≡ n + (m + lines_by it) = omega arith in
    let later : readings_queued (n + m + lines_by it) queued ≡ map (numbered_on n) (readings_queued (m + lines_by it) queued) =
    ap (λ (k : ℕ). readings_queued k queued) place ∙ readings_on n (m + lines_by it) queued in
    ap (λ rs. rs ++ readings_queued (n + m + lines_by it) queued) (reading_on n m it)
    ∙ (ap (λ rs. map (numbered_on n) (reading_queued m it) ++ rs) later ∙ sym (map-append (numbered_on n) (reading_queued m it) (readings_queued (m + lines_by it) queued)))

-- what queued items stand for, behind n lines
pub behind_queued : (n : ℕ) (queued : List Queued) → readings_behind n (lines_of queued) ≡ readings_queued n queued
behind_queued n queued = let none : n + 0 ≡ n = omega arith in sym (readings_on n 0 queued) ∙ ap (λ (k : ℕ). readings_queued k queued) none

pub behind_length : (n : ℕ) (held : Lines) → length (readings_behind n held) ≡ length held.readings
behind_length n held = length-map held.readings (numbered_on n)

-- ---- one line more

-- it is a line of an event
pub is_event : (it : Queued) (event : Event) → IsLineOf it event → IsEvent it
is_event (Passed count) event reads = absurd (let none : 0 ≡ 1 = ap length (reads 0) in omega (arith, none))
is_event (Fork p c) event reads = tt
is_event (Join p c) event reads = tt
is_event (Hold kind t l) event reads = tt
is_event (Access len is_write t at) event reads = tt
is_event (Alloc t len at) event reads = tt
is_event (Free t len at) event reads = tt
is_event (Send t k) event reads = tt
is_event (Recv t k) event reads = tt

event_counts : (it : Queued) → IsEvent it → lines_by it ≡ 1
event_counts (Passed count) is = absurd is
event_counts (Fork p c) is = refl
event_counts (Join p c) is = refl
event_counts (Hold kind t l) is = refl
event_counts (Access len is_write t at) is = refl
event_counts (Alloc t len at) is = refl
event_counts (Free t len at) is = refl
event_counts (Send t k) is = refl
event_counts (Recv t k) is = refl

pub behind_more : (held now : Lines) (passed : ℕ) (it : Queued) (event : Event) → now ≡ more_lines held passed it → IsLineOf it event
    → (n : ℕ) → readings_behind n now ≡ readings_behind n held ++ one (n + held.count + passed) event
behind_more held now passed it event is reads n =
    let place : n + (held.count + passed) ≡ n + held.count + passed = omega arith in
    ap (readings_behind n) is ∙ (map-append (numbered_on n) held.readings (reading_queued (held.count + passed) it)
    ∙ ap (λ rs. readings_behind n held ++ rs)
    (ap (map (numbered_on n)) (reads (held.count + passed)) ∙ (sym (one_on n (held.count + passed) event) ∙ ap (λ (m : ℕ). one m event) place)))

abbrev lines_with : ℕ → List Reading → Lines
lines_with count readings = record { count = count; readings = readings }

lines_same : (a b : ℕ) (first later : List Reading) → a ≡ b → first ≡ later → lines_with a first ≡ lines_with b later
lines_same a b first later p q = cc

-- a line with its event, behind no others
pub queued_alone : (old new : List Queued) (it : Queued) (passed : ℕ) → new ≡ old ++ it ∷ [] → passed ≡ 0 → IsEvent it → lines_of new ≡ more_lines (lines_of old) passed it
queued_alone old new it passed is none event =
    let place : 0 + lines_queued old ≡ lines_queued old + passed = omega (arith, none) in
    lines_same (lines_queued new) (lines_queued old + passed + 1) (readings_queued 0 new) (readings_queued 0 old ++ reading_queued (lines_queued old + passed) it)
    (omega (arith, ap lines_queued is, lines_more old it, none, event_counts it event))
    (ap (readings_queued 0) is ∙ (readings_more 0 old it ∙ ap (λ (m : ℕ). readings_queued 0 old ++ reading_queued m it) place))

-- a line with its event, behind lines without one
pub queued_behind : (old mid new : List Queued) (it : Queued) (passed : ℕ) → mid ≡ old ++ Passed passed ∷ [] → new ≡ mid ++ it ∷ [] → IsEvent it → lines_of new ≡ more_lines (lines_of old) passed it
queued_behind old mid new it passed first is event =
    let count : lines_queued mid ≡ lines_queued old + passed = ap lines_queued first ∙ lines_more old (Passed passed) in
    let place : 0 + lines_queued mid ≡ lines_queued old + passed = omega (arith, count) in
    let before : readings_queued 0 mid ≡ readings_queued 0 old = ap (readings_queued 0) first ∙ (readings_more 0 old (Passed passed) ∙ append-nil (readings_queued 0 old)) in
    lines_same (lines_queued new) (lines_queued old + passed + 1) (readings_queued 0 new) (readings_queued 0 old ++ reading_queued (lines_queued old + passed) it)
    (omega (arith, ap lines_queued is, lines_more mid it, count, event_counts it event))
    (ap (readings_queued 0) is ∙ (readings_more 0 mid it ∙ (ap (λ rs. rs ++ reading_queued (0 + lines_queued mid) it) before ∙ ap (λ (m : ℕ). readings_queued 0 old ++ reading_queued m it) place)))

module _ {S E : Type 0} (takes : Taking S E) where
  -- Behind n lines these were offered and passed, and behind m lines those are still to be offered.
  pub record IsOfferedTo (n : ℕ) (all : List Queued) (before : S) (at_first : List WriteCall) (now : S) (at_last : List WriteCall) (m : ℕ) (left : List Queued) : Type 0 where
    pub lines : List Reading
    pub steps : takes before at_first lines (Ok None) now at_last
    pub joined : readings_queued n all ≡ lines ++ readings_queued m left
    pub counted : m + lines_queued left ≡ n + lines_queued all

  -- what is offered next
  pub offered_at : (n : ℕ) (all : List Queued) (a b : S) (at_a at_b : List WriteCall) (m i : ℕ) (none : Queued) → i < length all → IsOfferedTo n all a at_a b at_b m (drop i all)
      → IsOfferedTo n all a at_a b at_b m (get_or all i none ∷ drop (i + 1) all)
  offered_at n all a b at_a at_b m i none within so_far = subst (IsOfferedTo n all a at_a b at_b m) (drop_more all i none within) so_far

  module _ (on : (a b c : S) (at_a at_b at_c : List WriteCall) (first later : List Reading) (r : Result (Option E) Refusal)
      → takes a at_a first (Ok None) b at_b → takes b at_b later r c at_c → takes a at_a (first ++ later) r c at_c)
    where
      pub offered_on : (n : ℕ) (all : List Queued) (a b c : S) (at_a at_b at_c : List WriteCall) (m : ℕ) (it : Queued) (left : List Queued) → IsOfferedTo n all a at_a b at_b m (it ∷ left)
          → takes b at_b (reading_queued m it) (Ok None) c at_c → IsOfferedTo n all a at_a c at_c (m + lines_by it) left
      offered_on n all a b c at_a at_b at_c m it left so_far step = record {
        lines = so_far.lines ++ reading_queued m it;
        steps = on a b c at_a at_b at_c so_far.lines (reading_queued m it) (Ok None) so_far.steps step;
        joined = so_far.joined ∙ sym (append_assoc so_far.lines (reading_queued m it) (readings_queued (m + lines_by it) left));
        counted = omega (arith, so_far.counted);
      }

      pub offered_stop : (n : ℕ) (all : List Queued) (a b c : S) (at_a at_b at_c : List WriteCall) (m : ℕ) (it : Queued) (left : List Queued) (r : Result (Option E) Refusal)
          → IsOfferedTo n all a at_a b at_b m (it ∷ left) → takes b at_b (reading_queued m it) r c at_c → (r ≡ Ok None → ⊥) → IsOffered takes a at_a (readings_queued n all) r c at_c
      offered_stop n all a b c at_a at_b at_c m it left r so_far step never = record {
        lines = so_far.lines ++ reading_queued m it;
        left = readings_queued (m + lines_by it) left;
        joined = so_far.joined ∙ sym (append_assoc so_far.lines (reading_queued m it) (readings_queued (m + lines_by it) left));
        steps = on a b c at_a at_b at_c so_far.lines (reading_queued m it) r so_far.steps step;
        all = λ passed. absurd (never passed);
      }

  pub offered_all : (n : ℕ) (all : List Queued) (a b : S) (at_a at_b : List WriteCall) (m : ℕ) (left : List Queued) → IsOfferedTo n all a at_a b at_b m left → left ≡ []
      → IsOffered takes a at_a (readings_queued n all) (Ok None) b at_b
  offered_all n all a b at_a at_b m left so_far none = record {
    lines = so_far.lines;
    left = readings_queued m left;
    joined = so_far.joined;
    steps = so_far.steps;
    all = λ passed. ap (readings_queued m) none;
  }

  -- there is room for what is offered next
  pub room_for_next : (may_take : S → ℕ → Type 0)
      → ((a b : S) (at_a at_b : List WriteCall) (first : List Reading) (n : ℕ) → may_take a (length first + n) → takes a at_a first (Ok None) b at_b → may_take b n)
      → ((s : S) (n more : ℕ) → may_take s (n + more) → may_take s n)
      → (n : ℕ) (all : List Queued) (a b : S) (at_a at_b : List WriteCall) (m : ℕ) (it : Queued) (left : List Queued) → IsOfferedTo n all a at_a b at_b m (it ∷ left)
      → may_take a (length (readings_queued n all)) → may_take b (length (reading_queued m it))
  room_for_next may_take room fewer n all a b at_a at_b m it left so_far may =
      let rest = length (readings_queued (m + lines_by it) left) in
      let count : length (readings_queued n all) ≡ length so_far.lines + (length (reading_queued m it) + rest) =
      ap length so_far.joined ∙ (length-append so_far.lines (reading_queued m it ++ readings_queued (m + lines_by it) left)
      ∙ ap (λ (k : ℕ). length so_far.lines + k) (length-append (reading_queued m it) (readings_queued (m + lines_by it) left))) in
      fewer b (length (reading_queued m it)) rest (room a b at_a at_b so_far.lines (length (reading_queued m it) + rest) (subst (λ (k : ℕ). may_take a k) count may) so_far.steps)
