-- What is kept of the messages that were sent and not received, as a segment comes that may send or receive one.
use Rattle.std.proofs.Common.{◌≡◌, ℕ, ◌+◌, ◌<◌, ◌≤◌, Bool, true, false, cond, ◌||◌, ◌⊎◌, inl, inr, nat_eq, List, [], ◌∷◌, ◌++◌, length, take, Some, None, get_or, refl, sym, ap, ◌∙◌, subst, ⊎_elim, arith, eqb-true, slice_index}
use Rattle.std.proofs.lemmas.Bool.{or_left, or_parts, false≢true}
use Rattle.std.proofs.lemmas.List.{get_or_default, length_push, take_all, take_more}
use Rattle.std.proofs.lemmas.List.Folds.{list_any-append}
use Rattle.std.specs.List.{AllByRecursion}
use Rattle.hg_model.specs.declared.segment.Mark.{Mark}
use Rattle.hg_model.specs.declared.segment.Mark.TheVariants.{Plain, Sent, Got}
use Rattle.hg_model.specs.declared.segment.Segment.{Segment}
use Rattle.hg_model.specs.Messages.{is_sent, is_got, was_sent, was_received}
use Rattle.hg_model.specs.Segments.{of_message, of_thread}
use Rattle.hg_model.specs.Paths.{IsRising}
use Rattle.hg_model.proofs.Graph.{rising_append, sent_in_lt}
use Rattle.hg_model.proofs.Messages.{sent_left, sent_right}
use Rattle.hg_graph.specs.Clocks.{IsClock}
use Rattle.hg_graph.specs.declared.pending.Pending.{Pending}
use Rattle.hg_graph.specs.Pending.{kept_of, IsKeptOf, AreKept, ArePending, Notes}
use Rattle.hg_graph.specs.Restoring.{AreSegments}
use Rattle.hg_graph.proofs.Clocking.{clock_stays}
use Rattle.hg_graph.proofs.Lawful.{first_is_plain, got_behind, sent_anew}

-- A segment lets a message go that it receives, and keeps one that it sends. All else stays.
kept_after : (all segments : List Segment) (x : Segment) (old new : List (ℕ × Pending)) → AreKept all segments old →
    ((k : ℕ) → is_sent k x.mark ≡ false → is_got k x.mark ≡ false → kept_of new k ≡ kept_of old k) →
    ((k : ℕ) → is_sent k x.mark ≡ true → (was_sent segments k ≡ false) × ((m : Pending) × (kept_of new k ≡ Some m) × IsKeptOf all (segments ++ x ∷ []) k m)) →
    ((k : ℕ) → is_got k x.mark ≡ true → (was_sent segments k ≡ true) × (kept_of new k ≡ None)) →
    AreKept all (segments ++ x ∷ []) new
kept_after all segments x old new before stays comes goes =
    record { each = each; not_sent = not_sent; received = received; sent_first = sent_first }
  where
    sent_is : (k : ℕ) → was_sent (segments ++ x ∷ []) k ≡ (was_sent segments k || (is_sent k x.mark || false))
    sent_is k = list_any-append (λ (s : Segment). is_sent k s.mark) segments (x ∷ [])

    received_is : (k : ℕ) → was_received (segments ++ x ∷ []) k ≡ (was_received segments k || (is_got k x.mark || false))
    received_is k = list_any-append (λ (s : Segment). is_got k s.mark) segments (x ∷ [])

    in_one : (a b : Bool) → (a || (b || false)) ≡ true → (a ≡ true) ⊎ (b ≡ true)
    in_one true b h = inl refl
    in_one false true h = inr refl
    in_one false false h = absurd (false≢true h)

    in_none : (a b : Bool) → (a || (b || false)) ≡ false → (a ≡ false) × (b ≡ false)
    in_none a b h = let parts = or_parts a (b || false) h in (parts.0, (or_parts b false parts.1).0)

    each : (k : ℕ) → was_sent (segments ++ x ∷ []) k ≡ true → was_received (segments ++ x ∷ []) k ≡ false → (m : Pending) × (kept_of new k ≡ Some m) × IsKeptOf all (segments ++ x ∷ []) k m
    each k sent waits = by (is_sent k x.mark) refl
      where
        open_still : (was_received segments k ≡ false) × (is_got k x.mark ≡ false)
        open_still = in_none (was_received segments k) (is_got k x.mark) (sym (received_is k) ∙ waits)

        by : (b : Bool) → is_sent k x.mark ≡ b → (m : Pending) × (kept_of new k ≡ Some m) × IsKeptOf all (segments ++ x ∷ []) k m
        by true here = (comes k here).1
        by false not_here =
            let was : was_sent segments k ≡ true = ⊎_elim (λ earlier. earlier) (λ here. absurd (false≢true (sym not_here ∙ here))) (in_one (was_sent segments k) (is_sent k x.mark) (sym (sent_is k) ∙ sent)) in
            let m = before.each k was open_still.0 in
            (m.0, stays k not_here open_still.1 ∙ m.1, record { segment = m.2.segment ∙ sym (sent_left segments (x ∷ []) k was); clock = m.2.clock })

    not_sent : (k : ℕ) → was_sent (segments ++ x ∷ []) k ≡ false → kept_of new k ≡ None
    not_sent k none = by (is_got k x.mark) refl
      where
        nowhere : (was_sent segments k ≡ false) × (is_sent k x.mark ≡ false)
        nowhere = in_none (was_sent segments k) (is_sent k x.mark) (sym (sent_is k) ∙ none)

        by : (b : Bool) → is_got k x.mark ≡ b → kept_of new k ≡ None
        by true got = (goes k got).1
        by false not_got = stays k nowhere.1 not_got ∙ before.not_sent k nowhere.0

    received : (k : ℕ) → was_received (segments ++ x ∷ []) k ≡ true → kept_of new k ≡ None
    received k taken = by (is_got k x.mark) (is_sent k x.mark) refl refl
      where
        was : is_got k x.mark ≡ false → was_received segments k ≡ true
        was not_got = ⊎_elim (λ earlier. earlier) (λ here. absurd (false≢true (sym not_got ∙ here))) (in_one (was_received segments k) (is_got k x.mark) (sym (received_is k) ∙ taken))

        by : (b d : Bool) → is_got k x.mark ≡ b → is_sent k x.mark ≡ d → kept_of new k ≡ None
        by true d got _ = (goes k got).1
        by false true not_got here = absurd (false≢true (sym (comes k here).0 ∙ before.sent_first k (was not_got)))
        by false false not_got not_here = stays k not_here not_got ∙ before.received k (was not_got)

    sent_first : (k : ℕ) → was_received (segments ++ x ∷ []) k ≡ true → was_sent (segments ++ x ∷ []) k ≡ true
    sent_first k taken =
        sent_is k ∙ or_left (was_sent segments k) _ (⊎_elim (λ earlier. before.sent_first k earlier) (λ got. (goes k got).0) (in_one (was_received segments k) (is_got k x.mark) (sym (received_is k) ∙ taken)))

-- a segment that neither sends nor receives
pub kept_plain : (all segments : List Segment) (x : Segment) (entries : List (ℕ × Pending)) → x.mark ≡ Plain → AreKept all segments entries → AreKept all (segments ++ x ∷ []) entries
kept_plain all segments x entries is before =
    kept_after all segments x entries entries before (λ k _ _. refl) (λ k sent. absurd (false≢true (ap (is_sent k) (sym is) ∙ sent))) (λ k got. absurd (false≢true (ap (is_got k) (sym is) ∙ got)))

-- a segment that sends message k
pub kept_sent : (all segments : List Segment) (x : Segment) (k : ℕ) (m : Pending) (old new : List (ℕ × Pending)) → x.mark ≡ Sent k → was_sent segments k ≡ false → m.segment ≡ slice_index x.before 0 → IsClock all m.segment m.clock →
    AreKept all segments old → Notes old k (Some m) new → AreKept all (segments ++ x ∷ []) new
kept_sent all segments x k m old new is fresh ended clock before noted =
    kept_after all segments x old new before
    (λ j other _. noted j ∙ ap (λ b. cond b (Some m) (kept_of old j)) (ap (is_sent j) (sym is) ∙ other)) mine
    (λ j got. absurd (false≢true (ap (is_got j) (sym is) ∙ got)))
  where
    mine : (j : ℕ) → is_sent j x.mark ≡ true → (was_sent segments j ≡ false) × ((n : Pending) × (kept_of new j ≡ Some n) × IsKeptOf all (segments ++ x ∷ []) j n)
    mine j sent =
        let same : nat_eq k j ≡ true = ap (is_sent j) (sym is) ∙ sent in
        let none : was_sent segments j ≡ false = ap (was_sent segments) (sym (eqb-true k j same)) ∙ fresh in (
          none,
          (
            m,
            noted j ∙ ap (λ b. cond b (Some m) (kept_of old j)) same,
            record {
              segment = ended ∙ sym (sent_right segments (x ∷ []) j none ∙ ap (λ b. cond b (slice_index x.before 0) 0) sent);
              clock = clock;
            },
          ),
        )

-- a segment that receives message k
pub kept_got : (all segments : List Segment) (x : Segment) (k : ℕ) (old new : List (ℕ × Pending)) → x.mark ≡ Got k → was_sent segments k ≡ true → AreKept all segments old →
    Notes old k None new → AreKept all (segments ++ x ∷ []) new
kept_got all segments x k old new is sent before noted =
    kept_after all segments x old new before
    (λ j _ other. noted j ∙ ap (λ b. cond b None (kept_of old j)) (ap (is_got j) (sym is) ∙ other))
    (λ j here. absurd (false≢true (ap (is_sent j) (sym is) ∙ here)))
    (λ j got. let same : nat_eq k j ≡ true = ap (is_got j) (sym is) ∙ got in (ap (was_sent segments) (sym (eqb-true k j same)) ∙ sent, noted j ∙ ap (λ b. cond b None (kept_of old j)) same))

-- the clocks that are kept, over one segment more
pub kept_over : (segments : List Segment) (x : Segment) (entries : List (ℕ × Pending)) → 0 < length segments → IsRising segments → AllByRecursion (λ y. y < length segments) x.before → ArePending segments entries → AreKept (segments ++ x ∷ []) segments entries
kept_over segments x entries some rising below before =
    record { each = each; not_sent = before.not_sent; received = before.received; sent_first = before.sent_first }
  where
    each : (k : ℕ) → was_sent segments k ≡ true → was_received segments k ≡ false → (m : Pending) × (kept_of entries k ≡ Some m) × IsKeptOf (segments ++ x ∷ []) segments k m
    each k sent waits =
        let m = before.each k sent waits in
        let within : m.0.segment < length segments = subst (λ g. g < length segments) (sym m.2.segment) (sent_in_lt segments k some rising) in
        (m.0, m.1, record { segment = m.2.segment; clock = clock_stays segments x m.0.segment m.0.clock rising below within m.2.clock })

-- a fork or a join keeps what was kept
pub plain_pending : (segments : List Segment) (t : ℕ) (xs : List ℕ) (entries : List (ℕ × Pending)) → 0 < length segments → IsRising segments → AllByRecursion (λ y. y < length segments) xs → ArePending segments entries → ArePending (segments ++ of_thread t xs ∷ []) entries
plain_pending segments t xs entries some rising below before =
    kept_plain (segments ++ of_thread t xs ∷ []) segments (of_thread t xs) entries refl (kept_over segments (of_thread t xs) entries some rising below before)

-- the two segments that a fork opens
pub fork_pending : (segments : List Segment) (p c g : ℕ) (entries : List (ℕ × Pending)) → 0 < length segments → IsRising segments → g < length segments → ArePending segments entries → ArePending ((segments ++ of_thread c (g ∷ []) ∷ []) ++ of_thread p (g ∷ []) ∷ []) entries
fork_pending segments p c g entries some rising g_in before =
    let one : List Segment = segments ++ of_thread c (g ∷ []) ∷ [] in
    let len : length one ≡ length segments + 1 = length_push segments (of_thread c (g ∷ [])) in
    plain_pending one p (g ∷ []) entries (omega arith) (rising_append segments (of_thread c (g ∷ []) ∷ []) rising ((g_in, tt), tt)) (omega arith, tt) (plain_pending segments c (g ∷ []) entries some rising (g_in, tt) before)

-- a send keeps the clock of the segment that it ends
pub send_pending : (segments : List Segment) (t k g : ℕ) (clock : List ℕ) (old new : List (ℕ × Pending)) → 0 < length segments → IsRising segments → g < length segments → was_sent segments k ≡ false → IsClock segments g clock → ArePending segments old →
    Notes old k (Some (record { segment = g; clock = clock })) new → ArePending (segments ++ of_message (Sent k) t (g ∷ []) ∷ []) new
send_pending segments t k g clock old new some rising g_in fresh is before noted =
    let x : Segment = of_message (Sent k) t (g ∷ []) in
    kept_sent (segments ++ x ∷ []) segments x k (record { segment = g; clock = clock }) old new refl fresh refl (clock_stays segments x g clock rising (g_in, tt) g_in is) (kept_over segments x old some rising (g_in, tt) before) noted

-- a receive lets go of what was kept of its message
pub recv_pending : (segments : List Segment) (t k : ℕ) (xs : List ℕ) (old new : List (ℕ × Pending)) → 0 < length segments → IsRising segments → AllByRecursion (λ y. y < length segments) xs → was_sent segments k ≡ true → ArePending segments old →
    Notes old k None new → ArePending (segments ++ of_message (Got k) t xs ∷ []) new
recv_pending segments t k xs old new some rising below sent before noted =
    let x : Segment = of_message (Got k) t xs in
    kept_got (segments ++ x ∷ []) segments x k old new refl sent (kept_over segments x old some rising below before) noted

-- what is read of a segment is its mark
pub mark_read : (segments : List Segment) (n : ℕ) (d : Segment) (mark : Mark) → n < length segments → (get_or segments n d).mark ≡ mark → (get_or segments n (of_thread 0 [])).mark ≡ mark
mark_read segments n d mark lt is = sym (ap (λ (s : Segment). s.mark) (get_or_default segments n d (of_thread 0 []) lt)) ∙ is

-- the messages of one segment more, over all segments
module _ (segments : List Segment) (n : ℕ) (lt : n < length segments) where
  abbrev x : Segment
  x = get_or segments n (of_thread 0 [])

  one_more : (entries : List (ℕ × Pending)) → AreKept segments (take n segments ++ x ∷ []) entries → AreKept segments (take (n + 1) segments) entries
  one_more entries = subst (λ (ss : List Segment). AreKept segments ss entries) (sym (take_more segments n (of_thread 0 []) lt))

  pub upto_plain : (entries : List (ℕ × Pending)) → x.mark ≡ Plain → AreKept segments (take n segments) entries → AreKept segments (take (n + 1) segments) entries
  upto_plain entries is before = one_more entries (kept_plain segments (take n segments) x entries is before)

  pub upto_sent : (k : ℕ) (m : Pending) (old new : List (ℕ × Pending)) → AreSegments segments → x.mark ≡ Sent k → m.segment ≡ slice_index x.before 0 → IsClock segments m.segment m.clock → AreKept segments (take n segments) old →
      Notes old k (Some m) new → AreKept segments (take (n + 1) segments) new
  upto_sent k m old new lawful is ended clock before noted = one_more new (kept_sent segments (take n segments) x k m old new is (sent_anew segments lawful n k lt is) ended clock before noted)

  pub upto_got : (k : ℕ) (old new : List (ℕ × Pending)) → AreSegments segments → x.mark ≡ Got k → AreKept segments (take n segments) old → Notes old k None new → AreKept segments (take (n + 1) segments) new
  upto_got k old new lawful is before noted = one_more new (kept_got segments (take n segments) x k old new is (got_behind segments lawful n k lt is) before noted)

-- what is kept once all segments were gone through
pub kept_all : (segments : List Segment) (n : ℕ) (entries : List (ℕ × Pending)) → length segments ≤ n → AreKept segments (take n segments) entries → ArePending segments entries
kept_all segments n entries le = subst (λ (ss : List Segment). AreKept segments ss entries) (take_all n segments le)

-- nothing is kept before the first segment
none_kept : (all : List Segment) (entries : List (ℕ × Pending)) → entries ≡ [] → AreKept all [] entries
none_kept all entries is =
    record {
      each = λ k sent _. absurd (false≢true sent);
      not_sent = λ k _. ap (λ es. kept_of es k) is;
      received = λ k got. absurd (false≢true got);
      sent_first = λ k got. absurd (false≢true got);
    }

-- nor behind segment 0
pub first_kept : (segments : List Segment) (entries : List (ℕ × Pending)) → AreSegments segments → 0 < length segments → entries ≡ [] → AreKept segments (take 1 segments) entries
first_kept segments entries lawful some is = upto_plain segments 0 some entries (first_is_plain segments lawful some) (none_kept segments entries is)

-- nor in the graph of an empty trace
pub first_pending : (segments : List Segment) (entries : List (ℕ × Pending)) → segments ≡ of_thread 0 [] ∷ [] → entries ≡ [] → ArePending segments entries
first_pending segments entries is none = subst (λ (ss : List Segment). ArePending ss entries) (sym is) (kept_plain (of_thread 0 [] ∷ []) [] (of_thread 0 []) entries refl (none_kept (of_thread 0 [] ∷ []) entries none))
