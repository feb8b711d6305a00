-- What the marks of segments say of the sends and receives of a trace.
use Rattle.std.proofs.Common.{◌≡◌, ℕ, ◌+◌, ◌≤◌, Bool, true, false, cond, ◌||◌, nat_eq, nat_lt, List, [], ◌∷◌, ◌++◌, length, Contains, refl, sym, ap, ◌∙◌, subst, arith, eqb-true, eq-eqb, slice_index, count_by}
use Rattle.std.proofs.lemmas.Bool.{or_left, or_right, or_parts, false≢true, not-false}
use Rattle.std.proofs.lemmas.List.{get_or_push}
use Rattle.std.proofs.lemmas.List.Folds.{list_any-append}
use Rattle.std.proofs.lemmas.List.Sums.{sum_by-append}
use Rattle.std.specs.List.{list_any}
use Rattle.hg_model.specs.declared.event.Event.{Event}
use Rattle.hg_model.specs.declared.event.Event.TheVariants.{Fork, Join, Lock, RdLock, Unlock, Read, Write, Alloc, Free, Send, Recv}
use Rattle.hg_model.specs.declared.event.Named.{Named}
use Rattle.hg_model.specs.declared.segment.Mark.TheVariants.{Sent, Got}
use Rattle.hg_model.specs.declared.segment.Segment.{Segment}
use Rattle.hg_model.specs.Messages.{is_sent, is_got, was_sent, was_received, sent_in, sends, receives}
use Rattle.hg_model.specs.Segments.{of_thread, of_message, present, rising, opened, segments_of}
use Rattle.hg_model.specs.Paths.{HasEdge}
use Rattle.hg_model.specs.Contents.{events_of, summary}
use Rattle.hg_model.specs.Verdicts.{message_taken, message_used, not_sent, standing_of, IsAccepted}
use Rattle.hg_model.specs.Laws.{sent_then}
use Rattle.hg_model.proofs.Accepted.{no_cause}

or_false : (b : Bool) → (b || false) ≡ b
or_false true = refl
or_false false = refl

turned : (a b : Bool) → (a || b) ≡ (b || a)
turned true true = refl
turned true false = refl
turned false true = refl
turned false false = refl

opened_sent : (segments : List Segment) (k : ℕ) (e : Event) → was_sent (opened segments e) k ≡ sends k e
opened_sent segments k (Fork p c) = refl
opened_sent segments k (Join p c) = refl
opened_sent segments k (Lock t l) = refl
opened_sent segments k (RdLock t l) = refl
opened_sent segments k (Unlock t l) = refl
opened_sent segments k (Read a) = refl
opened_sent segments k (Write a) = refl
opened_sent segments k (Alloc b) = refl
opened_sent segments k (Free b) = refl
opened_sent segments k (Send t m) = or_false (nat_eq m k)
opened_sent segments k (Recv t m) = refl

opened_got : (segments : List Segment) (k : ℕ) (e : Event) → was_received (opened segments e) k ≡ receives k e
opened_got segments k (Fork p c) = refl
opened_got segments k (Join p c) = refl
opened_got segments k (Lock t l) = refl
opened_got segments k (RdLock t l) = refl
opened_got segments k (Unlock t l) = refl
opened_got segments k (Read a) = refl
opened_got segments k (Write a) = refl
opened_got segments k (Alloc b) = refl
opened_got segments k (Free b) = refl
opened_got segments k (Send t m) = refl
opened_got segments k (Recv t m) = or_false (nat_eq m k)

pub sent_in_trace : (past : List Event) (k : ℕ) → was_sent (segments_of past) k ≡ list_any (sends k) past
sent_in_trace [] k = refl
sent_in_trace (e ∷ past) k =
    list_any-append (λ (s : Segment). is_sent k s.mark) (segments_of past) (opened (segments_of past) e)
    ∙ (λ i. sent_in_trace past k i || opened_sent (segments_of past) k e i)
    ∙ turned (list_any (sends k) past) (sends k e)

pub received_in_trace : (past : List Event) (k : ℕ) → was_received (segments_of past) k ≡ list_any (receives k) past
received_in_trace [] k = refl
received_in_trace (e ∷ past) k =
    list_any-append (λ (s : Segment). is_got k s.mark) (segments_of past) (opened (segments_of past) e)
    ∙ (λ i. received_in_trace past k i || opened_got (segments_of past) k e i)
    ∙ turned (list_any (receives k) past) (receives k e)

-- ---- the segment that a send ended

pub sent_left : (xs ys : List Segment) (k : ℕ) → was_sent xs k ≡ true → sent_in (xs ++ ys) k ≡ sent_in xs k
sent_left [] ys k h = absurd (false≢true h)
sent_left (x ∷ xs) ys k h =
    elim (is_sent k x.mark) as (λ b. (b || was_sent xs k) ≡ true → cond b (slice_index x.before 0) (sent_in (xs ++ ys) k) ≡ cond b (slice_index x.before 0) (sent_in xs k)) [
      | true ↦ λ _. refl
      | false ↦ λ later. sent_left xs ys k later
    ] h

pub sent_right : (xs ys : List Segment) (k : ℕ) → was_sent xs k ≡ false → sent_in (xs ++ ys) k ≡ sent_in ys k
sent_right [] ys k h = refl
sent_right (x ∷ xs) ys k h =
    let parts = or_parts (is_sent k x.mark) (was_sent xs k) h in
    ap (λ b. cond b (slice_index x.before 0) (sent_in (xs ++ ys) k)) parts.0 ∙ sent_right xs ys k parts.1

sent_among : (later past : List Event) (t k : ℕ) → list_any (sends k) (sent_then later t k past) ≡ true
sent_among [] past t k = or_left (nat_eq k k) _ (eq-eqb k k refl)
sent_among (e ∷ later) past t k = or_right (sends k e) _ (sent_among later past t k)

pub sender_ended_it : (later past : List Event) (t k : ℕ) → list_any (sends k) past ≡ false → sent_in (segments_of (sent_then later t k past)) k ≡ present (segments_of past) t
sender_ended_it [] past t k fresh =
    sent_right (segments_of past) (of_message (Sent k) t (present (segments_of past) t ∷ []) ∷ []) k (sent_in_trace past k ∙ fresh)
    ∙ ap (λ b. cond b (present (segments_of past) t) 0) (eq-eqb k k refl)
sender_ended_it (e ∷ later) past t k fresh =
    sent_left (segments_of (sent_then later t k past)) (opened (segments_of (sent_then later t k past)) e) k (sent_in_trace (sent_then later t k past) k ∙ sent_among later past t k)
    ∙ sender_ended_it later past t k fresh

rising_has_first : (a b : ℕ) → Contains (rising a b) a
rising_has_first a b = elim (nat_lt a b) as (λ c. Contains (cond c (a ∷ b ∷ []) (b ∷ a ∷ [])) a) [ true ↦ (0, omega arith, refl) | false ↦ (1, omega arith, refl) ]

rising_has_second : (a b : ℕ) → Contains (rising a b) b
rising_has_second a b = elim (nat_lt a b) as (λ c. Contains (cond c (a ∷ b ∷ []) (b ∷ a ∷ [])) b) [ true ↦ (1, omega arith, refl) | false ↦ (0, omega arith, refl) ]

edge_to_last : (xs : List Segment) (s : Segment) (x : ℕ) → Contains s.before x → HasEdge (xs ++ s ∷ []) x (length xs)
edge_to_last xs s x h = subst (λ (last : Segment). Contains last.before x) (sym (get_or_push xs s (of_thread 0 []) (length xs) refl)) h

pub receive_behind : (later past : List Event) (t u k : ℕ) → list_any (sends k) past ≡ false →
    HasEdge (segments_of (Recv u k ∷ sent_then later t k past)) (present (segments_of past) t) (length (segments_of (sent_then later t k past)))
    × HasEdge (segments_of (Recv u k ∷ sent_then later t k past)) (present (segments_of (sent_then later t k past)) u) (length (segments_of (sent_then later t k past)))
receive_behind later past t u k fresh =
    let segments = segments_of (sent_then later t k past) in
    let next = of_message (Got k) u (rising (present segments u) (sent_in segments k)) in (
      edge_to_last segments next (present (segments_of past) t) (subst (Contains next.before) (sender_ended_it later past t k fresh) (rising_has_second (present segments u) (sent_in segments k))),
      edge_to_last segments next (present segments u) (rising_has_first (present segments u) (sent_in segments k)),
    )

-- ---- each message once

from_zero : (n : ℕ) → 0 + n ≡ n
from_zero n = omega arith

count_step : (p : Event → Bool) (e : Event) (past : List Event) → count_by p (e ∷ past) ≡ cond (p e) 1 0 + count_by p past
count_step p e past = sum_by-append (λ (x : Event). cond (p x) 1 0) (e ∷ []) past ∙ ap (λ n. n + count_by p past) (from_zero (cond (p e) 1 0))

count_none : (p : Event → Bool) (past : List Event) → list_any p past ≡ false → count_by p past ≡ 0
count_none p [] h = refl
count_none p (e ∷ past) h =
    let parts = or_parts (p e) (list_any p past) h in
    count_step p e past ∙ (λ i. cond (parts.0 i) 1 0 + count_none p past parts.1 i)

count_some : (p : Event → Bool) (past : List Event) → list_any p past ≡ true → 1 ≤ count_by p past
count_some p [] h = absurd (false≢true h)
count_some p (e ∷ past) h =
    subst (λ n. 1 ≤ n) (sym (count_step p e past))
    (elim (p e) as (λ b. (b || list_any p past) ≡ true → 1 ≤ cond b 1 0 + count_by p past) [ true ↦ λ _. omega arith | false ↦ λ later. let more = count_some p past later in omega (arith, more) ] h)

-- at most one send, and at most as many receives
abbrev UsedOnce : ℕ → ℕ → Type 0
UsedOnce sent received = (sent ≤ 1) × (received ≤ sent)

kept_count : (p : Event → Bool) (e : Event) (past : List Event) → p e ≡ false → count_by p (e ∷ past) ≡ count_by p past
kept_count p e past h = count_step p e past ∙ (λ i. cond (h i) 1 0 + count_by p past) ∙ from_zero (count_by p past)

more_count : (p : Event → Bool) (e : Event) (past : List Event) → p e ≡ true → count_by p (e ∷ past) ≡ 1 + count_by p past
more_count p e past h = count_step p e past ∙ (λ i. cond (h i) 1 0 + count_by p past)

kept_both : (past : List Event) (e : Event) (k : ℕ) → sends k e ≡ false → receives k e ≡ false →
    UsedOnce (count_by (sends k) past) (count_by (receives k) past) → UsedOnce (count_by (sends k) (e ∷ past)) (count_by (receives k) (e ∷ past))
kept_both past e k no_send no_receive before =
    subst (λ n. UsedOnce n (count_by (receives k) (e ∷ past))) (sym (kept_count (sends k) e past no_send))
    (subst (UsedOnce (count_by (sends k) past)) (sym (kept_count (receives k) e past no_receive)) before)

used_step : (past : List Event) (e : Event) (k : ℕ) → UsedOnce (count_by (sends k) past) (count_by (receives k) past) →
    message_used (was_sent (segments_of past)) e ≡ false → not_sent (was_sent (segments_of past)) e ≡ false → message_taken (was_received (segments_of past)) e ≡ false →
    UsedOnce (count_by (sends k) (e ∷ past)) (count_by (receives k) (e ∷ past))
used_step past (Fork p c) k before unused sent untaken = kept_both past (Fork p c) k refl refl before
used_step past (Join p c) k before unused sent untaken = kept_both past (Join p c) k refl refl before
used_step past (Lock t l) k before unused sent untaken = kept_both past (Lock t l) k refl refl before
used_step past (RdLock t l) k before unused sent untaken = kept_both past (RdLock t l) k refl refl before
used_step past (Unlock t l) k before unused sent untaken = kept_both past (Unlock t l) k refl refl before
used_step past (Read a) k before unused sent untaken = kept_both past (Read a) k refl refl before
used_step past (Write a) k before unused sent untaken = kept_both past (Write a) k refl refl before
used_step past (Alloc b) k before unused sent untaken = kept_both past (Alloc b) k refl refl before
used_step past (Free b) k before unused sent untaken = kept_both past (Free b) k refl refl before
used_step past (Send t m) k before unused sent untaken = by (nat_eq m k) refl
  where
    by : (b : Bool) → nat_eq m k ≡ b → UsedOnce (count_by (sends k) (Send t m ∷ past)) (count_by (receives k) (Send t m ∷ past))
    by true same =
        let none = count_none (sends k) past (subst (λ j. list_any (sends j) past ≡ false) (eqb-true m k same) (sym (sent_in_trace past m) ∙ unused)) in
        let one = more_count (sends k) (Send t m) past same in
        let old = kept_count (receives k) (Send t m) past refl in
        let few = before.1 in
        (omega (arith, none, one), omega (arith, none, one, old, few))
    by false other = kept_both past (Send t m) k other refl before
used_step past (Recv t m) k before unused sent untaken = by (nat_eq m k) refl
  where
    by : (b : Bool) → nat_eq m k ≡ b → UsedOnce (count_by (sends k) (Recv t m ∷ past)) (count_by (receives k) (Recv t m ∷ past))
    by true same =
        let is = eqb-true m k same in
        let some = count_some (sends k) past (subst (λ j. list_any (sends j) past ≡ true) is (sym (sent_in_trace past m) ∙ not-false (was_sent (segments_of past) m) sent)) in
        let none = count_none (receives k) past (subst (λ j. list_any (receives j) past ≡ false) is (sym (received_in_trace past m) ∙ untaken)) in
        let one = more_count (receives k) (Recv t m) past same in
        let old = kept_count (sends k) (Recv t m) past refl in
        let most = before.0 in
        (omega (arith, old, most), omega (arith, none, one, old, some))
    by false other = kept_both past (Recv t m) k refl other before

pub used_once : (trace : List Named) (k : ℕ) → IsAccepted trace → UsedOnce (count_by (sends k) (events_of trace)) (count_by (receives k) (events_of trace))
used_once [] k h = (omega arith, omega arith)
used_once (n ∷ trace) k h =
    let none = (no_cause (standing_of (summary trace)) n h.1).1.1.1.1.1.1.1.1.1.1.1.1 in
    used_step (events_of trace) n.event k (used_once trace k h.0) none.0 none.1.0 none.1.1.0
