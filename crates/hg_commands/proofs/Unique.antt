-- What feeding a trace text leads to is unique.
use Rattle.std.proofs.Common.{◌≡◌, ℕ, ◌⊎◌, ◌+◌, List, [], ◌∷◌, Some, None, Result, Ok, Err, sym, subst, ◌∙◌, ⊎_elim}
use Rattle.hg_model.specs.declared.event.Event.{Event}
use Rattle.hg_model.specs.declared.event.Named.{Named}
use Rattle.hg_model.specs.declared.verdict.Refusal.TheVariants.{FullSets}
use Rattle.hg_model.specs.declared.verdict.Verdict.{Verdict}
use Rattle.hg_model.specs.declared.verdict.Verdict.TheVariants.{Accept, Duplicate, Refuse}
use Rattle.hg_model.specs.Change.{after}
use Rattle.hg_model.specs.Contents.{Content}
use Rattle.hg_model.specs.Verdicts.{verdict, standing_of}
use Rattle.hg_sets.specs.Interning.{Table}
use Rattle.hg_wire.specs.declared.line.LineFault.{LineFault}
use Rattle.hg_wire.specs.declared.reader.Reading.{Reading}
use Rattle.hg_sets.specs.declared.fault.SetFault.TheVariants.{Full}
use Rattle.hg_detect.specs.Making.{Asks, sets_asked}
use Rattle.hg_detect.proofs.Asking.{asks_not_both, asks_same}
use Rattle.hg_reading.specs.declared.ending.Ending.{Ending}
use Rattle.hg_reading.specs.declared.ending.Ending.TheVariants.{Refused}
use Rattle.hg_commands.specs.Feeding.{Answers, FeedsTo, HasRoom, IsOffered, sent}

abbrev AreSame : (x y : Content) (e f : Ending) → Type 0
AreSame x y e f = (x ≡ y) × (e ≡ f)

-- an event that is accepted, but for the slots
abbrev HasSets : Table → Content → Named → ℕ → (Table → Content → Type 0) → Content → Ending → Type 0
HasSets t c n line later last end =
    (new : Table) × ((Asks t (sets_asked c n.event) None new × later new (after c n)) ⊎ (Asks t (sets_asked c n.event) (Some Full) new × ((last ≡ c) × (end ≡ Refused line FullSets))))

module _ (later other : Table → Content → Type 0) (x y : Content) (first second : Ending) (room : HasRoom first) (space : HasRoom second) (on : (u : Table) (d : Content) → later u d → other u d → AreSame x y first second) where
  both : (t : Table) (c : Content) (n : Named) (line : ℕ) → HasSets t c n line later x first → HasSets t c n line other y second → AreSame x y first second
  both t c n line h k =
      ⊎_elim
      (λ went. ⊎_elim
      (λ again. on k.0 (after c n) (subst (λ (u : Table). later u (after c n)) (asks_same (sets_asked c n.event) t h.0 k.0 went.0 again.0) went.1) again.1)
      (λ full. absurd (asks_not_both (sets_asked c n.event) t h.0 k.0 went.0 full.0))
      k.1)
      (λ full. ⊎_elim
      (λ went. absurd (asks_not_both (sets_asked c n.event) t k.0 h.0 went.0 full.0))
      (λ again. (full.1.0 ∙ sym again.1.0, full.1.1 ∙ sym again.1.1))
      k.1)
      h.1

  answers_same : (v : Verdict) (t : Table) (c : Content) (n : Named) (line : ℕ) → Answers v t c n line later x first → Answers v t c n line other y second → AreSame x y first second
  answers_same Accept t c n line h k =
      ⊎_elim
      (λ a. ⊎_elim (λ b. both t c n line a b) (λ none. absurd (space line none.1)) k)
      (λ none. absurd (room line none.1))
      h
  answers_same (Duplicate k) t c n line h i = on t c h i
  answers_same (Refuse r) t c n line h k = (h.0 ∙ sym k.0, h.1 ∙ sym k.1)

  offered_same : (event : Result Event LineFault) (source : ℕ) (t : Table) (c : Content) (lines line : ℕ) → IsOffered event source t c lines line later x first → IsOffered event source t c lines line other y second → AreSame x y first second
  offered_same (Err fault) source t c lines line h k = (h.0 ∙ sym k.0, h.1 ∙ sym k.1)
  offered_same (Ok e) source t c lines line h k = answers_same (verdict (standing_of c) (sent source lines e)) t c (sent source lines e) line h k

pub feeds_to_one : (source : ℕ) (readings : List Reading) (t : Table) (c : Content) (lines : ℕ) (x y : Content) (first second : Ending) → HasRoom first → HasRoom second → FeedsTo source readings t c lines x first → FeedsTo source readings t c lines y second → (x ≡ y) × (first ≡ second)
feeds_to_one source [] t c lines x y first second room space h k = (h.0 ∙ sym k.0, h.1 ∙ sym k.1)
feeds_to_one source (r ∷ later) t c lines x y first second room space h k =
    offered_same (λ u d. FeedsTo source later u d (lines + 1) x first) (λ u d. FeedsTo source later u d (lines + 1) y second) x y first second room space
    (λ u d. feeds_to_one source later u d (lines + 1) x y first second room space) r.event source t c lines r.line h k
