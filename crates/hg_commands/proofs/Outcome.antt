-- Each trace text that is fed leads to something.
use Rattle.std.proofs.Common.{◌≡◌, ℕ, ◌+◌, ◌≤◌, Bool, true, false, cond, nat_le, nat_lt, List, [], ◌∷◌, length, Result, Ok, Err, refl, ap, inl, inr, ⊎_elim}
use Rattle.hg_model.specs.declared.event.Named.{Named}
use Rattle.hg_model.specs.declared.event.Event.{Event}
use Rattle.hg_model.specs.declared.verdict.Refusal.{Refusal}
use Rattle.hg_model.specs.declared.verdict.Refusal.TheVariants.{FullSets, FullSlots, Gap}
use Rattle.hg_model.specs.declared.verdict.Verdict.{Verdict}
use Rattle.hg_model.specs.declared.verdict.Verdict.TheVariants.{Accept, Duplicate, Refuse}
use Rattle.hg_model.specs.Change.{after}
use Rattle.hg_model.specs.Contents.{Content}
use Rattle.hg_model.specs.Verdicts.{Standing, causes, first_cause, standing_of, verdict}
use Rattle.hg_sets.specs.Interning.{Table}
use Rattle.hg_detect.specs.Making.{sets_asked}
use Rattle.hg_wire.specs.declared.line.LineFault.{LineFault}
use Rattle.hg_wire.specs.declared.reader.Reading.{Reading}
use Rattle.hg_reading.specs.declared.ending.Ending.TheVariants.{Ended, Refused, Bad}
use Rattle.hg_commands.specs.Feeding.{Answers, FeedsTo, HasRoom, IsOffered, sent}
use Rattle.hg_reading.proofs.Endings.{HasOutcome}
use Rattle.hg_detect.proofs.AskingEnds.{asks_end}

-- The rules never refuse an event for want of slots.

abbrev NoneIsOfSlots : List (Bool × Refusal) → Type 0
NoneIsOfSlots [] = Unit {0}
NoneIsOfSlots (c ∷ later) = (c.1 ≡ FullSlots → ⊥) × NoneIsOfSlots later

either : (b : Bool) (r : Refusal) (v : Verdict) → (r ≡ FullSlots → ⊥) → (v ≡ Refuse FullSlots → ⊥) → cond b (Refuse r) v ≡ Refuse FullSlots → ⊥
either true r v not never h = not (cc)
either false r v not never h = never h

first_is_not : (list : List (Bool × Refusal)) → NoneIsOfSlots list → first_cause list ≡ Refuse FullSlots → ⊥
first_is_not [] none h = absurd (cc)
first_is_not (c ∷ later) none h = either c.0 c.1 (first_cause later) none.0 (first_is_not later none.1) h

no_cause : (s : Standing) (n : Named) → NoneIsOfSlots (causes s n)
no_cause s n =
    ((λ h. absurd (cc)), ((λ h. absurd (cc)), ((λ h. absurd (cc)), ((λ h. absurd (cc)), ((λ h. absurd (cc)), ((λ h. absurd (cc)), ((λ h. absurd (cc)), ((λ h. absurd (cc)), ((λ h. absurd (cc)), ((λ h. absurd (cc)), ((λ h. absurd (cc)), ((λ h. absurd (cc)), ((λ h. absurd (cc)), ((λ h. absurd (cc)), ((λ h. absurd (cc)), ((λ h. absurd (cc)), ((λ h. absurd (cc)), tt)))))))))))))))))

known_is_not : (b : Bool) (k : ℕ) (v : Verdict) → (v ≡ Refuse FullSlots → ⊥) → cond b (Duplicate k) v ≡ Refuse FullSlots → ⊥
known_is_not true k v never h = absurd (cc)
known_is_not false k v never h = never h

rules_have_room : (s : Standing) (n : Named) → verdict s n ≡ Refuse FullSlots → ⊥
rules_have_room s n =
    known_is_not (nat_le n.number (s.last n.source)) (s.last n.source) (cond (nat_lt (s.last n.source + 1) n.number) (Refuse (Gap (s.last n.source + 1))) (first_cause (causes s n)))
    (either (nat_lt (s.last n.source + 1) n.number) (Gap (s.last n.source + 1)) (first_cause (causes s n)) (λ h. absurd (cc)) (first_is_not (causes s n) (no_cause s n)))

module _ (source lines : ℕ) (later : List Reading) (on : (u : Table) (d : Content) → length u.sets ≤ u.limit → HasOutcome (λ last end. HasRoom end × FeedsTo source later u d (lines + 1) last end)) where
  answers_end : (v : Verdict) (t : Table) (c : Content) (n : Named) (line : ℕ) → (v ≡ Refuse FullSlots → ⊥) → length t.sets ≤ t.limit
      → HasOutcome (λ last end. HasRoom end × Answers v t c n line (λ u d. FeedsTo source later u d (lines + 1) last end) last end)
  answers_end Accept t c n line never few =
      ⊎_elim
      (λ went. let rest = on went.0 (after c n) went.1.1 in (rest.0, (rest.1.0, (rest.1.1.0, inl (went.0, inl (went.1.0, rest.1.1.1))))))
      (λ full. (c, (Refused line FullSets, ((λ l h. absurd (cc)), inl (full.0, inr (full.1, (refl, refl)))))))
      (asks_end (sets_asked c n.event) t few)
  answers_end (Duplicate k) t c n line never few = on t c few
  answers_end (Refuse r) t c n line never few = (c, (Refused line r, ((λ l h. never (ap (λ (x : Refusal). Refuse x) (cc))), (refl, refl))))

  offered_end : (event : Result Event LineFault) (t : Table) (c : Content) (line : ℕ) → length t.sets ≤ t.limit
      → HasOutcome (λ last end. HasRoom end × IsOffered event source t c lines line (λ u d. FeedsTo source later u d (lines + 1) last end) last end)
  offered_end (Err fault) t c line few = (c, (Bad line, ((λ l h. absurd (cc)), (refl, refl))))
  offered_end (Ok e) t c line few = answers_end (verdict (standing_of c) (sent source lines e)) t c (sent source lines e) line (rules_have_room (standing_of c) (sent source lines e)) few

pub feeds_somewhere : (source : ℕ) (readings : List Reading) (t : Table) (c : Content) (lines : ℕ) → length t.sets ≤ t.limit → HasOutcome (λ last end. HasRoom end × FeedsTo source readings t c lines last end)
feeds_somewhere source [] t c lines few = (c, (Ended, ((λ l h. absurd (cc)), (refl, refl))))
feeds_somewhere source (r ∷ later) t c lines few =
    offered_end source lines later (λ u d within. feeds_somewhere source later u d (lines + 1) within) r.event t c r.line few
