-- The segments of an accepted trace are marked as restoring asks.
use Rattle.std.proofs.Common.{◌≡◌, ℕ, zero, suc, true, false, not, nat_eq, List, [], ◌∷◌, ◌++◌, take, slice_get, Some, refl, sym, subst, eq-eqb, append_assoc, append-nil}
use Rattle.std.proofs.lemmas.Bool.{and_from, not_from_false, not-false}
use Rattle.hg_model.specs.declared.event.Event.{Event}
use Rattle.hg_model.specs.declared.event.Event.TheVariants.{Fork, Join, Lock, RdLock, Unlock, Read, Write, Alloc, Free, Send, Recv}
use Rattle.hg_model.specs.declared.event.Named.{Named}
use Rattle.hg_model.specs.declared.segment.Mark.TheVariants.{Sent, Got}
use Rattle.hg_model.specs.declared.segment.Segment.{Segment}
use Rattle.hg_model.specs.Messages.{was_sent, was_received, sent_in}
use Rattle.hg_model.specs.Segments.{of_thread, of_message, thread_at, present, rising, segments_of}
use Rattle.hg_model.specs.Contents.{events_of, summary}
use Rattle.hg_model.specs.Verdicts.{message_taken, message_used, not_sent, standing_of, IsAccepted}
use Rattle.hg_model.specs.Restoring.{marks_lawfully, AreLawfullyMarked}
use Rattle.hg_model.proofs.Accepted.{Passes, no_cause, passes, used_owns}

-- each of the segments may come after those before it, the first after those in front
abbrev LawfulFrom : List Segment → List Segment → Type 0
LawfulFrom front [] = Unit {0}
LawfulFrom front (s ∷ later) = (marks_lawfully front s.mark s ≡ true) × LawfulFrom (front ++ s ∷ []) later

push : (front xs : List Segment) (s : Segment) → LawfulFrom front xs → marks_lawfully (front ++ xs) s.mark s ≡ true → LawfulFrom front (xs ++ s ∷ [])
push front [] s h last = (subst (λ xs. marks_lawfully xs s.mark s ≡ true) (append-nil front) last, tt)
push front (x ∷ xs) s h last = (h.0, push (front ++ x ∷ []) xs s h.1 (subst (λ xs. marks_lawfully xs s.mark s ≡ true) (sym (append_assoc front (x ∷ []) xs)) last))

is_some : (x y : Segment) → Some x ≡ Some y → x ≡ y
is_some x y e = cc

at_each : (front later : List Segment) → LawfulFrom front later → (k : ℕ) (s : Segment) → slice_get later k ≡ Some s → marks_lawfully (front ++ take k later) s.mark s ≡ true
at_each front [] h k s is = absurd (cc)
at_each front (x ∷ xs) h zero s is =
    subst (λ y. marks_lawfully (front ++ []) y.mark y ≡ true) (is_some x s is) (subst (λ ys. marks_lawfully ys x.mark x ≡ true) (sym (append-nil front)) h.0)
at_each front (x ∷ xs) h (suc k) s is = subst (λ ys. marks_lawfully ys s.mark s ≡ true) (append_assoc front (x ∷ []) (take k xs)) (at_each (front ++ x ∷ []) xs h.1 k s is)

none_opened : (past : List Event) → LawfulFrom [] (segments_of past) → LawfulFrom [] (segments_of past ++ [])
none_opened past h = subst (LawfulFrom []) (sym (append-nil (segments_of past))) h

marked_step : (past : List Event) (e : Event) → Passes past e → LawfulFrom [] (segments_of past) →
    message_used (was_sent (segments_of past)) e ≡ false → not_sent (was_sent (segments_of past)) e ≡ false → message_taken (was_received (segments_of past)) e ≡ false →
    LawfulFrom [] (segments_of (e ∷ past))
marked_step past (Fork p c) pass h unused sent untaken =
    let g = present (segments_of past) p in
    let child = of_thread c (g ∷ []) in
    let next = of_thread p (g ∷ []) in
    subst (LawfulFrom []) (append_assoc (segments_of past) (child ∷ []) (next ∷ [])) (push [] (segments_of past ++ child ∷ []) next (push [] (segments_of past) child h refl) refl)
marked_step past (Join p c) pass h unused sent untaken = push [] (segments_of past) (of_thread p (rising (present (segments_of past) p) (present (segments_of past) c))) h refl
marked_step past (Lock t l) pass h unused sent untaken = none_opened past h
marked_step past (RdLock t l) pass h unused sent untaken = none_opened past h
marked_step past (Unlock t l) pass h unused sent untaken = none_opened past h
marked_step past (Read a) pass h unused sent untaken = none_opened past h
marked_step past (Write a) pass h unused sent untaken = none_opened past h
marked_step past (Alloc b) pass h unused sent untaken = none_opened past h
marked_step past (Free b) pass h unused sent untaken = none_opened past h
marked_step past (Send t k) pass h unused sent untaken =
    let g = present (segments_of past) t in
    push [] (segments_of past) (of_message (Sent k) t (g ∷ [])) h
    (and_from (not (was_sent (segments_of past) k)) (nat_eq (thread_at (segments_of past) g) t) (not_from_false (was_sent (segments_of past) k) unused) (eq-eqb (thread_at (segments_of past) g) t (used_owns past t pass.actor_used).owner))
marked_step past (Recv t k) pass h unused sent untaken =
    push [] (segments_of past) (of_message (Got k) t (rising (present (segments_of past) t) (sent_in (segments_of past) k))) h
    (and_from (was_sent (segments_of past) k) (not (was_received (segments_of past) k)) (not-false (was_sent (segments_of past) k) sent) (not_from_false (was_received (segments_of past) k) untaken))

marked : (trace : List Named) → IsAccepted trace → LawfulFrom [] (segments_of (events_of trace))
marked [] h = (refl, tt)
marked (n ∷ trace) h =
    let none = (no_cause (standing_of (summary trace)) n h.1).1.1.1.1.1.1.1.1.1.1.1.1 in
    marked_step (events_of trace) n.event (passes trace n h.1) (marked trace h.0) none.0 none.1.0 none.1.1.0

pub marks_lawful : (trace : List Named) → IsAccepted trace → AreLawfullyMarked (segments_of (events_of trace))
marks_lawful trace h = at_each [] (segments_of (events_of trace)) (marked trace h)
