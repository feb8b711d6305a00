-- A lawful cut of an accepted event is accepted.
use Rattle.std.proofs.Common.{◌≡◌, ℕ, ◌+◌, Bool, true, false, cond, not, ◌||◌, nat_le, nat_lt, refl, sym, ◌∙◌, subst, ⊎_elim}
use Rattle.std.proofs.lemmas.Bool.{false≢true}
use Rattle.hg_model.specs.declared.event.Event.{Event}
use Rattle.hg_model.specs.declared.event.Event.TheVariants.{Fork, Join, Lock, RdLock, Unlock, Read, Write, Alloc, Free, Send, Recv}
use Rattle.hg_model.specs.declared.event.Named.{Named}
use Rattle.hg_model.specs.declared.verdict.Refusal.TheVariants.{Gap, BadNumber, BadLength, AddressEnd, NoThread, FullEvents}
use Rattle.hg_model.specs.declared.verdict.Verdict.{Verdict}
use Rattle.hg_model.specs.declared.verdict.Verdict.TheVariants.{Accept, Duplicate, Refuse}
use Rattle.hg_model.specs.Verdicts.{Standing, actor, has_thread, is_bad_source, is_bad_thread, bad_length, past_address_end, full_events, causes, first_cause, verdict}
use Rattle.hg_shards.specs.Alike.{is_of_memory, IsLawfulCut, MayStandFor}

-- what is tested of an event of memory
abbrev tested : Standing → ℕ → ℕ → Bool → Bool → Verdict
tested s source t len end =
    cond (is_bad_source source || is_bad_thread t) (Refuse BadNumber)
    (cond len (Refuse BadLength)
    (cond end (Refuse AddressEnd)
    (cond (not (has_thread s.threads t (λ x. x.alive))) (Refuse NoThread)
    (cond (full_events s.events) (Refuse FullEvents) Accept))))

by_tests : (s : Standing) (n : Named) → is_of_memory n.event ≡ true → first_cause (causes s n) ≡ tested s n.source (actor n.event) (bad_length n.event) (past_address_end n.event)
by_tests s n h = by n.source n.number n.event h
  where
    by : (source number : ℕ) (e : Event) → is_of_memory e ≡ true → first_cause (causes s (record { source = source; number = number; event = e })) ≡ tested s source (actor e) (bad_length e) (past_address_end e)
    by source number (Read a) k = refl
    by source number (Write a) k = refl
    by source number (Alloc b) k = refl
    by source number (Free b) k = refl
    by source number (Fork p c) k = absurd (false≢true k)
    by source number (Join p c) k = absurd (false≢true k)
    by source number (Lock t l) k = absurd (false≢true k)
    by source number (RdLock t l) k = absurd (false≢true k)
    by source number (Unlock t l) k = absurd (false≢true k)
    by source number (Send t m) k = absurd (false≢true k)
    by source number (Recv t m) k = absurd (false≢true k)

-- a lawful length and end in place of any
lawful : (s : Standing) (source t : ℕ) (len end : Bool) → tested s source t len end ≡ Accept → tested s source t false false ≡ Accept
lawful s source t false false h = h
lawful s source t false true h = absurd (refused (is_bad_source source || is_bad_thread t) h)
  where
    refused : (b : Bool) → cond b (Refuse BadNumber) (Refuse AddressEnd) ≡ Accept → ⊥
    refused true k = cc k
    refused false k = cc k
lawful s source t true end h = absurd (refused (is_bad_source source || is_bad_thread t) h)
  where
    refused : (b : Bool) → cond b (Refuse BadNumber) (Refuse BadLength) ≡ Accept → ⊥
    refused true k = cc k
    refused false k = cc k

-- the verdict, by what the causes come to
abbrev by_number : ℕ → ℕ → Verdict → Verdict
by_number last number judged = cond (nat_le number last) (Duplicate last) (cond (nat_lt (last + 1) number) (Refuse (Gap (last + 1))) judged)

number_passed : (last number : ℕ) (v w : Verdict) → by_number last number v ≡ Accept → (v ≡ Accept → w ≡ Accept) → by_number last number w ≡ Accept
number_passed last number v w h k = by (nat_le number last) (nat_lt (last + 1) number) h
  where
    by : (a b : Bool) → cond a (Duplicate last) (cond b (Refuse (Gap (last + 1))) v) ≡ Accept → cond a (Duplicate last) (cond b (Refuse (Gap (last + 1))) w) ≡ Accept
    by true b g = absurd (cc g)
    by false true g = absurd (cc g)
    by false false g = k g

cut_passes : (s : Standing) (m n : Named) → m.source ≡ n.source → IsLawfulCut m.event n.event → first_cause (causes s m) ≡ Accept → first_cause (causes s n) ≡ Accept
cut_passes s m n source cut h =
    by_tests s n cut.second
    ∙ (λ i. tested s (sym source i) (sym cut.thread i) (cut.len i) (cut.end i))
    ∙ lawful s m.source (actor m.event) (bad_length m.event) (past_address_end m.event) (sym (by_tests s m cut.first) ∙ h)

pub cut_events_lem : (s : Standing) (m n : Named) → MayStandFor m n → verdict s m ≡ Accept → verdict s n ≡ Accept
cut_events_lem s m n h accepted =
    number_passed (s.last n.source) n.number (first_cause (causes s m)) (first_cause (causes s n))
    (subst (λ (k : ℕ). by_number (s.last n.source) k (first_cause (causes s m)) ≡ Accept) h.number (subst (λ (k : ℕ). by_number (s.last k) m.number (first_cause (causes s m)) ≡ Accept) h.source accepted))
    (⊎_elim
    (λ (same : m.event ≡ n.event) (k : first_cause (causes s m) ≡ Accept). sym (λ i. first_cause (causes s (record { source = h.source i; number = h.number i; event = same i }))) ∙ k)
    (λ (cut : IsLawfulCut m.event n.event). cut_passes s m n h.source cut)
    h.event)

-- Where an event of memory has a lawful length and end, its verdict is that on each lawful cut of it.
pub same_verdict_cut : (s : Standing) (m n : Named) → m.source ≡ n.source → m.number ≡ n.number → IsLawfulCut m.event n.event → bad_length m.event ≡ false → past_address_end m.event ≡ false
    → verdict s m ≡ verdict s n
same_verdict_cut s m n source number cut len end =
    let causes_are : first_cause (causes s m) ≡ first_cause (causes s n) =
    by_tests s m cut.first ∙ (λ i. tested s (source i) (cut.thread i) ((len ∙ sym cut.len) i) ((end ∙ sym cut.end) i)) ∙ sym (by_tests s n cut.second)
    in
    λ i. by_number (s.last (source i)) (number i) (causes_are i)
