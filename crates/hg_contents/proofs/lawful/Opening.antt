-- Segments stay lawful, and name the threads.
use Rattle.std.proofs.Common.{◌≡◌, ℕ, ◌≤◌, Bool, true, false, ◌||◌, not, nat_eq, List, [], ◌∷◌, ◌++◌, length, filter, refl, sym, ap, ◌∙◌, subst, arith, append-nil, append_assoc, length-append}
use Rattle.std.proofs.lemmas.Bool.{and_from, eq-eqb, eqb-true, eqb-false, false≢true, lt-ltb, not-false}
use Rattle.std.proofs.lemmas.List.Folds.{list_any-append}
use Rattle.std.specs.List.{list_any, range_with_len}
use Rattle.hg_model.specs.declared.event.Event.{Event}
use Rattle.hg_model.specs.declared.event.Event.TheVariants.{Fork, Join, Lock, RdLock, Unlock, Read, Write, Alloc, Free, Send, Recv}
use Rattle.hg_model.specs.declared.segment.Segment.{Segment}
use Rattle.hg_model.specs.declared.thread.ThreadState.{ThreadState}
use Rattle.hg_model.specs.Contents.{Content}
use Rattle.hg_model.specs.declared.segment.Mark.{Mark}
use Rattle.hg_model.specs.declared.segment.Mark.TheVariants.{Sent, Got}
use Rattle.hg_model.specs.Messages.{sent_in, was_received, was_sent}
use Rattle.hg_model.specs.Restoring.{marks_lawfully}
use Rattle.hg_model.specs.Segments.{of_message, of_thread, opened, present, rising, thread_at}
use Rattle.hg_model.specs.Sets.{contains, with_member}
use Rattle.hg_model.specs.Verdicts.{bad_number, child_not_alive, child_used, is_bad_source, is_bad_thread, message_taken, message_used, no_thread, not_sent, self_join}
use Rattle.hg_model.specs.Verdicts as verdicts
use Rattle.hg_model.specs.Change.{change, dead, empty_content, threads_after}
use Rattle.hg_graph.specs.Graph.{names}
use Rattle.hg_graph.specs.Restoring.{AreSegments, are_predecessors}
use Rattle.hg_root.specs.Lawful.{named_threads}
use Rattle.hg_contents.proofs.lawful.Changing.{numbered_any, numbers, numbers_added, numbers_changed, passing_is_numbered}
use Rattle.hg_contents.proofs.lawful.Counting.{IsCounted, counted_after, counted_first}
use Rattle.hg_contents.proofs.lawful.Handing.{ended_apart, ended_within}
use Rattle.hg_contents.proofs.lawful.Numbers.{among, one_more}
use Rattle.hg_contents.proofs.lawful.Passing.{IsKept}
use Rattle.hg_contents.proofs.lawful.Sending.{actor_small, child_small}
use Rattle.hg_contents.proofs.lawful.Standing.{new_thread, old_thread, one_behind, present_apart, present_below, present_own, present_stays, rising_has, rising_precede, stands, stands_marked}

-- the segments are lawful and name these threads
pub record AreNamed (threads : List ThreadState) (segments : List Segment) : Type 0 where
  pub named : numbers threads ≡ named_threads segments
  pub lawful : AreSegments segments

named_is : (segments : List Segment) (t : ℕ) → t ≤ 1023 → contains (named_threads segments) t ≡ names segments t
unfolding named_threads
named_is segments t small = among (names segments) 0 1024 t (omega arith) (omega (arith, small))

-- the same names
same_named : (segments more : List Segment) → ((t : ℕ) → names more t ≡ names segments t) → named_threads segments ≡ named_threads more
unfolding named_threads
same_named segments more same = ap (λ p. filter p (range_with_len 0 1024)) (λ i t. sym (same t) i)

-- one name more
more_named : (segments more : List Segment) (c : ℕ) → c ≤ 1023 → ((t : ℕ) → names more t ≡ (nat_eq c t || names segments t)) → with_member (named_threads segments) c ≡ named_threads more
unfolding named_threads
more_named segments more c small is = sym (one_more (names segments) (names more) c is 0 1024 (omega arith) (omega (arith, small)))

module _ (threads : List ThreadState) (segments : List Segment) (are : AreNamed threads segments) (some : 1 ≤ length segments) where
  names_passing : (t : ℕ) (test : ThreadState → Bool) → t ≤ 1023 → verdicts.has_thread threads t test ≡ true → names segments t ≡ true
  names_passing t test small h = sym (named_is segments t small) ∙ ap (λ ns. contains ns t) (sym are.named) ∙ passing_is_numbered t test threads h

  names_none : (t : ℕ) → t ≤ 1023 → list_any (λ x. nat_eq x.number t) threads ≡ false → names segments t ≡ false
  names_none t small h = sym (named_is segments t small) ∙ ap (λ ns. contains ns t) (sym are.named) ∙ sym (numbered_any t threads) ∙ h

  forked : (p c : ℕ) → p ≤ 1023 → c ≤ 1023 → names segments p ≡ true → names segments c ≡ false → AreNamed (threads_after (Fork p c) threads) (segments ++ opened segments (Fork p c))
  forked p c p_small c_small old new =
      let apart : c ≡ p → ⊥ = λ same. false≢true (sym new ∙ ap (names segments) same ∙ old) in
      let g = present segments p in
      let below = present_below segments p some in
      let child = of_thread c (g ∷ []) in
      let one = one_behind segments child are.lawful (stands segments c (g ∷ []) some c_small (lt-ltb g (length segments) below) (new_thread segments c (g ∷ []) new)) in
      let len = length-append segments (child ∷ []) in
      let here = present_stays segments p c (g ∷ []) apart in
      let two = one_behind (segments ++ child ∷ []) (of_thread p (g ∷ [])) one (stands (segments ++ child ∷ []) p (g ∷ []) (omega (arith, len)) p_small (lt-ltb g (length (segments ++ child ∷ [])) (omega (arith, len, below)))
      (old_thread (segments ++ child ∷ []) p (g ∷ []) (ap (λ b. b || false) (eq-eqb g (present (segments ++ child ∷ []) p) (sym here))))) in
      record {
        named = numbers_added _ threads ∙ ap (λ ns. with_member ns c) are.named ∙ more_named segments (segments ++ opened segments (Fork p c)) c c_small
            (λ t. list_any-append (λ s. nat_eq s.thread t) segments (opened segments (Fork p c)) ∙ both (nat_eq p t) (nat_eq c t) (names segments t) (λ same. ap (names segments) (sym (eqb-true p t same)) ∙ old));
        lawful = subst AreSegments (append_assoc segments (child ∷ []) (of_thread p (g ∷ []) ∷ [])) two;
      }
    where
      both : (b d e : Bool) → (b ≡ true → e ≡ true) → (e || (d || (b || false))) ≡ (d || e)
      both b true true h = refl
      both b false true h = refl
      both true d false h = absurd (false≢true (h refl))
      both false true false h = refl
      both false false false h = refl

  joined : (p c : ℕ) → p ≤ 1023 → names segments p ≡ true → names segments c ≡ true → (p ≡ c → ⊥) → AreNamed (threads_after (Join p c) threads) (segments ++ opened segments (Join p c))
  joined p c p_small old child apart =
      let a = present segments p in
      let b = present segments c in
      record {
        named = numbers_changed c dead (λ x. refl) threads ∙ are.named ∙ same_named segments (segments ++ opened segments (Join p c))
            (λ t. list_any-append (λ s. nat_eq s.thread t) segments (opened segments (Join p c)) ∙ once (nat_eq p t) (names segments t) (λ same. ap (names segments) (sym (eqb-true p t same)) ∙ old));
        lawful = one_behind segments (of_thread p (rising a b)) are.lawful (stands segments p (rising a b) some p_small
            (rising_precede (length segments) a b (present_below segments p some) (present_below segments c some) (present_apart segments p c old child apart)) (old_thread segments p (rising a b) (rising_has a b)));
      }
    where
      once : (b e : Bool) → (b ≡ true → e ≡ true) → (e || (b || false)) ≡ e
      once b true h = refl
      once true false h = absurd (false≢true (h refl))
      once false false h = refl

  -- a send and a receive open their thread's next segment
  next_opened : (mark : Mark) (t : ℕ) (xs : List ℕ) → t ≤ 1023 → names segments t ≡ true → are_predecessors (length segments) xs ≡ true → list_any (λ k. nat_eq k (present segments t)) xs ≡ true
      → marks_lawfully segments mark (of_message mark t xs) ≡ true → AreNamed threads (segments ++ of_message mark t xs ∷ [])
  next_opened mark t xs small old preceding own lawful = record {
    named = are.named ∙ same_named segments (segments ++ of_message mark t xs ∷ [])
        (λ u. list_any-append (λ s. nat_eq s.thread u) segments (of_message mark t xs ∷ []) ∙ once (nat_eq t u) (names segments u) (λ same. ap (names segments) (sym (eqb-true t u same)) ∙ old));
    lawful = one_behind segments (of_message mark t xs) are.lawful (stands_marked mark segments t xs lawful some small preceding (old_thread segments t xs own));
  }
    where
      once : (b e : Bool) → (b ≡ true → e ≡ true) → (e || (b || false)) ≡ e
      once b true h = refl
      once true false h = absurd (false≢true (h refl))
      once false false h = refl

  sent : (t k : ℕ) → t ≤ 1023 → names segments t ≡ true → was_sent segments k ≡ false → AreNamed threads (segments ++ opened segments (Send t k))
  sent t k small old unused =
      let g = present segments t in
      next_opened (Sent k) t (g ∷ []) small old (lt-ltb g (length segments) (present_below segments t some)) (ap (λ b. b || false) (eq-eqb g g refl))
      (and_from (not (was_sent segments k)) _ (ap not unused) (eq-eqb (thread_at segments g) t (present_own segments t old)))

  received : (t k : ℕ) → t ≤ 1023 → names segments t ≡ true → was_sent segments k ≡ true → was_received segments k ≡ false → AreNamed threads (segments ++ opened segments (Recv t k))
  received t k small old was untaken =
      let a = present segments t in
      let b = sent_in segments k in
      next_opened (Got k) t (rising a b) small old
      (rising_precede (length segments) a b (present_below segments t some) (ended_within segments are.lawful k was) (ended_apart segments are.lawful k was t old)) (rising_has a b)
      (and_from (was_sent segments k) _ was (ap not untaken))

  -- an event that opens no segment
  others : (t : ℕ) (f : ThreadState → ThreadState) → ((x : ThreadState) → (f x).number ≡ x.number) → AreNamed (change t f threads) (segments ++ [])
  others t f same = record { named = numbers_changed t f same threads ∙ are.named ∙ ap named_threads (sym (append-nil segments)); lawful = subst AreSegments (sym (append-nil segments)) are.lawful }

  unchanged : AreNamed threads (segments ++ [])
  unchanged = record { named = are.named ∙ ap named_threads (sym (append-nil segments)); lawful = subst AreSegments (sym (append-nil segments)) are.lawful }

  pub named_after : (source : ℕ) (e : Event) → bad_number source e ≡ false → no_thread threads e ≡ false → child_used threads e ≡ false → self_join e ≡ false → child_not_alive threads e ≡ false
      → message_used (was_sent segments) e ≡ false → not_sent (was_sent segments) e ≡ false → message_taken (was_received segments) e ≡ false → AreNamed (threads_after e threads) (segments ++ opened segments e)
  named_after source (Fork p c) low alive fresh apart there unused was untaken =
      let p_small = actor_small source p (is_bad_thread c) low in
      let c_small = child_small (is_bad_source source || is_bad_thread p) c low in
      forked p c p_small c_small (names_passing p (λ x. x.alive) p_small (not-false (verdicts.has_thread threads p (λ x. x.alive)) alive)) (names_none c c_small fresh)
  named_after source (Join p c) low alive fresh apart there unused was untaken =
      let p_small = actor_small source p (is_bad_thread c) low in
      let c_small = child_small (is_bad_source source || is_bad_thread p) c low in
      joined p c p_small (names_passing p (λ x. x.alive) p_small (not-false (verdicts.has_thread threads p (λ x. x.alive)) alive)) (names_passing c (λ x. x.alive) c_small (not-false (verdicts.has_thread threads c (λ x. x.alive)) there)) (eqb-false p c apart)
  named_after source (Lock t l) low alive fresh apart there unused was untaken = others t _ (λ x. refl)
  named_after source (RdLock t l) low alive fresh apart there unused was untaken = others t _ (λ x. refl)
  named_after source (Unlock t l) low alive fresh apart there unused was untaken = others t _ (λ x. refl)
  named_after source (Read a) low alive fresh apart there unused was untaken = unchanged
  named_after source (Write a) low alive fresh apart there unused was untaken = unchanged
  named_after source (Alloc b) low alive fresh apart there unused was untaken = unchanged
  named_after source (Free b) low alive fresh apart there unused was untaken = unchanged
  named_after source (Send t k) low alive fresh apart there unused was untaken =
      let small = child_small (is_bad_source source) t low in
      sent t k small (names_passing t (λ x. x.alive) small (not-false (verdicts.has_thread threads t (λ x. x.alive)) alive)) unused
  named_after source (Recv t k) low alive fresh apart there unused was untaken =
      let small = child_small (is_bad_source source) t low in
      received t k small (names_passing t (λ x. x.alive) small (not-false (verdicts.has_thread threads t (λ x. x.alive)) alive)) (not-false (was_sent segments k) was) untaken

-- the counts, the segments and their names
pub record IsGrown (c : Content) : Type 0 where
  pub counted : IsCounted c
  pub named : AreNamed c.threads c.segments

pub grown_first : IsGrown empty_content
unfolding named_threads
grown_first = record { counted = counted_first; named = record { named = refl; lawful = one_behind [] (of_thread 0 []) (λ k s at. absurd cc) refl } }

pub grown_after : IsKept IsGrown
grown_after c n pass grown = record {
  counted = counted_after c n pass grown.counted;
  named = named_after c.threads c.segments grown.named grown.counted.some n.source n.event pass.numbers pass.alive pass.fresh pass.apart pass.joined pass.unused pass.sent pass.untaken;
}
