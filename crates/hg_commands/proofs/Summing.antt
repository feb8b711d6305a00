-- What a trace text that is fed leads to is the summary of the trace with its accepted events.
use Rattle.std.proofs.Common.{◌≡◌, ℕ, ◌+◌, Bool, true, false, cond, nat_le, nat_lt, List, [], ◌∷◌, length, map, Result, Ok, Err, refl, sym, ap, subst, ◌∙◌, inl, inr, ⊎_elim, arith}
use Rattle.hg_model.specs.declared.event.Event.{Event}
use Rattle.hg_model.specs.declared.event.Named.{Named}
use Rattle.hg_model.specs.declared.verdict.Refusal.{Refusal}
use Rattle.hg_model.specs.declared.verdict.Refusal.TheVariants.{Gap}
use Rattle.hg_model.specs.declared.verdict.Verdict.{Verdict}
use Rattle.hg_model.specs.declared.verdict.Verdict.TheVariants.{Accept, Duplicate, Refuse}
use Rattle.hg_model.specs.Contents.{Content, last_of_source, summary}
use Rattle.hg_model.specs.Verdicts.{IsAccepted, Standing, causes, first_cause, standing_of, verdict}
use Rattle.hg_model.proofs.Central.{summary_step}
use Rattle.hg_sets.specs.Interning.{Table}
use Rattle.hg_wire.specs.declared.line.LineFault.{LineFault}
use Rattle.hg_wire.specs.declared.reader.Reading.{Reading}
use Rattle.hg_reading.specs.declared.ending.Ending.{Ending}
use Rattle.hg_commands.specs.Feeding.{Answers, FeedsTo, IsOffered, sent}
use Rattle.hg_commands.specs.Laws.{EndsWith, IsOfFed, StopsAt, with_sent}

-- what was accepted stands in front, and what was sent before is passed over

new_in_front : (known : Bool) (k : ℕ) (v : Verdict) (past : List Named) (n : Named) → cond known (Duplicate k) v ≡ Accept → cond known past (n ∷ past) ≡ n ∷ past
new_in_front true k v past n h = absurd (cc)
new_in_front false k v past n h = refl

known_left_out : (known : Bool) (k j : ℕ) (v : Verdict) (past : List Named) (n : Named) → (v ≡ Duplicate j → ⊥) → cond known (Duplicate k) v ≡ Duplicate j → cond known past (n ∷ past) ≡ past
known_left_out true k j v past n never h = refl
known_left_out false k j v past n never h = absurd (never h)

not_refused : (b : Bool) (r : Refusal) (k : ℕ) (v : Verdict) → (v ≡ Duplicate k → ⊥) → cond b (Refuse r) v ≡ Duplicate k → ⊥
not_refused true r k v never h = absurd (cc)
not_refused false r k v never h = never h

no_cause_repeats : (list : List (Bool × Refusal)) (k : ℕ) → first_cause list ≡ Duplicate k → ⊥
no_cause_repeats [] k h = absurd (cc)
no_cause_repeats (c ∷ list) k h = not_refused c.0 c.1 k (first_cause list) (no_cause_repeats list k) h

-- the verdict but for duplicates
abbrev other_verdict : Standing → Named → Verdict
other_verdict s n = cond (nat_lt (s.last n.source + 1) n.number) (Refuse (Gap (s.last n.source + 1))) (first_cause (causes s n))

accepted_is_in_front : (source lines : ℕ) (past : List Named) (e : Event) → verdict (standing_of (summary past)) (sent source lines e) ≡ Accept → with_sent source past lines e ≡ sent source lines e ∷ past
accepted_is_in_front source lines past e h =
    new_in_front (nat_le (lines + 1) (last_of_source past source)) (last_of_source past source) (other_verdict (standing_of (summary past)) (sent source lines e)) past (sent source lines e) h

duplicate_is_left_out : (source lines k : ℕ) (past : List Named) (e : Event) → verdict (standing_of (summary past)) (sent source lines e) ≡ Duplicate k → with_sent source past lines e ≡ past
duplicate_is_left_out source lines k past e h =
    let s = standing_of (summary past) in
    let n = sent source lines e in
    known_left_out (nat_le (lines + 1) (last_of_source past source)) (last_of_source past source) k (other_verdict s n) past n
    (not_refused (nat_lt (s.last n.source + 1) n.number) (Gap (s.last n.source + 1)) k (first_cause (causes s n)) (no_cause_repeats (causes s n) k))
    h

-- nothing more is accepted
stopped : (source lines : ℕ) (r : Reading) (later : List Reading) (past : List Named) (c : Content) (end : Ending) → IsAccepted past → c ≡ summary past → StopsAt r.event source lines r.line c end
    → IsOfFed source past lines (r ∷ later) c end
stopped source lines r later past c end ok same stops =
    let none : lines ≡ lines + 0 = omega arith in
    record {
      front = [];
      left = r ∷ later;
      events = [];
      joined = refl;
      read = refl;
      accepted = ok;
      content = same;
      ends = subst (λ (l : ℕ). StopsAt r.event source l r.line c end) none stops;
    }

-- one line more is an event, accepted or passed over
went : (source lines : ℕ) (r : Reading) (e : Event) (later : List Reading) (past : List Named) (c : Content) (end : Ending) → r.event ≡ Ok e
    → IsOfFed source (with_sent source past lines e) (lines + 1) later c end → IsOfFed source past lines (r ∷ later) c end
went source lines r e later past c end is on =
    let more : (lines + 1) + length on.events ≡ lines + length (e ∷ on.events) = omega arith in
    record {
      front = r ∷ on.front;
      left = on.left;
      events = e ∷ on.events;
      joined = ap (λ rs. r ∷ rs) on.joined;
      read = ap (λ x. x ∷ map (λ s. s.event) on.front) is ∙ ap (λ xs. Ok e ∷ xs) on.read;
      accepted = on.accepted;
      content = on.content;
      ends = subst (λ (l : ℕ). EndsWith source l on.left c end) more on.ends;
    }

module _ (source lines : ℕ) (r : Reading) (later : List Reading) (past : List Named) (c : Content) (end : Ending)
    (on : (u : Table) (more : List Named) → IsAccepted more → FeedsTo source later u (summary more) (lines + 1) c end → IsOfFed source more (lines + 1) later c end)
    (ok : IsAccepted past) where
  answered : (v : Verdict) (e : Event) (t : Table) → r.event ≡ Ok e → verdict (standing_of (summary past)) (sent source lines e) ≡ v
      → Answers v t (summary past) (sent source lines e) r.line (λ u d. FeedsTo source later u d (lines + 1) c end) c end → IsOfFed source past lines (r ∷ later) c end
  answered Accept e t is v h =
      ⊎_elim
      (λ room. ⊎_elim
      (λ next. went source lines r e later past c end is
      (subst (λ (p : List Named). IsOfFed source p (lines + 1) later c end) (sym (accepted_is_in_front source lines past e v))
      (on room.0 (sent source lines e ∷ past) (ok, v)
      (subst (λ (d : Content). FeedsTo source later room.0 d (lines + 1) c end) (sym (summary_step (sent source lines e) past (ok, v))) next.1))))
      (λ full. stopped source lines r later past c end ok full.1.0
      (subst (λ (x : Result Event LineFault). StopsAt x source lines r.line c end) (sym is)
      (inr (ap (λ d. verdict (standing_of d) (sent source lines e)) full.1.0 ∙ v, inl full.1.1))))
      room.1)
      (λ none. stopped source lines r later past c end ok none.0
      (subst (λ (x : Result Event LineFault). StopsAt x source lines r.line c end) (sym is)
      (inr (ap (λ d. verdict (standing_of d) (sent source lines e)) none.0 ∙ v, inr none.1))))
      h
  answered (Duplicate k) e t is v h =
      went source lines r e later past c end is
      (subst (λ (p : List Named). IsOfFed source p (lines + 1) later c end) (sym (duplicate_is_left_out source lines k past e v)) (on t past ok h))
  answered (Refuse x) e t is v h =
      stopped source lines r later past c end ok h.0
      (subst (λ (y : Result Event LineFault). StopsAt y source lines r.line c end) (sym is)
      (inl (x, ap (λ d. verdict (standing_of d) (sent source lines e)) h.0 ∙ v, h.1)))

  was_read : (event : Result Event LineFault) (t : Table) → r.event ≡ event
      → IsOffered event source t (summary past) lines r.line (λ u d. FeedsTo source later u d (lines + 1) c end) c end → IsOfFed source past lines (r ∷ later) c end
  was_read (Err fault) t is h = stopped source lines r later past c end ok h.0 (subst (λ (y : Result Event LineFault). StopsAt y source lines r.line c end) (sym is) h.1)
  was_read (Ok e) t is h = answered (verdict (standing_of (summary past)) (sent source lines e)) e t is refl h

pub of_fed : (source lines : ℕ) (readings : List Reading) (t : Table) (past : List Named) (c : Content) (end : Ending) → IsAccepted past → FeedsTo source readings t (summary past) lines c end → IsOfFed source past lines readings c end
of_fed source lines [] t past c end ok h = record { front = []; left = []; events = []; joined = refl; read = refl; accepted = ok; content = h.0; ends = h.1 }
of_fed source lines (r ∷ later) t past c end ok h = was_read source lines r later past c end (λ u more. of_fed source (lines + 1) later u more c end) ok r.event t refl h
