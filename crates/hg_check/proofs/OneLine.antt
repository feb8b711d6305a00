-- What one line makes of a detector that explains a word.
use Rattle.std.proofs.Common.{◌≡◌, ℕ, true, false, Option, None, Some, Result, Ok, Err, IfErr, [], ◌∷◌, ◌++◌, length, refl, sym, ap, ◌∙◌, subst}
use Rattle.hg_model.specs.declared.event.Event.{Event}
use Rattle.hg_model.specs.declared.verdict.Refusal.{Refusal}
use Rattle.hg_model.specs.declared.verdict.Refusal.TheVariants.{OutOfMemory}
use Rattle.hg_detect.specs.Memory.{content_of}
use Rattle.hg_detect.specs.declared.detector.Detector.{Detector}
use Rattle.hg_cells.specs.declared.paged.PagedWords.{PagedWords}
use Rattle.hg_wire.specs.declared.reader.Reading.{Reading}
use Rattle.hg_reading.specs.declared.ending.Ending.{Ending}
use Rattle.hg_check.specs.Running.{Follows, Steps}
use Rattle.hg_check.specs.declared.explain.explaining.Explaining.{Explaining}
use Rattle.hg_check.specs.Life.{concerns, look_of, told_by}
use Rattle.hg_check.specs.LifeTaking.{IsReady, Looks, PassesLine, TellsEvent}
use Rattle.hg_check.specs.Telling.{Tells}
use Rattle.hg_check.proofs.Told.{accepted_is_event, looks_same, tells_concerned, tells_nothing}

-- a line that has an event which does not concern the word, or none
pub passes_apart : (old new : Explaining) (line : Reading) (r : Result (Option Ending) Refusal)
    → new.asked ≡ old.asked → new.look ≡ old.look → new.more ≡ old.more → new.held.items ≡ old.held.items → IsReady old
    → Steps old.detector (line ∷ []) r new.detector
    → ((e : Event) → line.event ≡ Ok e → r ≡ Ok None → Follows old.detector e new.detector)
    → ((end : Ending) → r ≡ Ok (Some end) → content_of new.detector ≡ content_of old.detector)
    → IfErr r (λ x. x ≡ OutOfMemory)
    → ((e : Event) → line.event ≡ Ok e → concerns old.asked.word e ≡ false)
    → PassesLine old line r new
passes_apart old new line r asked look more held ready steps accepted stays fault apart = record {
  asked = asked;
  steps = steps;
  tells = λ is.
      let found = event is in
      subst (λ (j : ℕ). Tells old.asked.word old.asked.form (content_of old.detector) old.more line (content_of new.detector) j old.held.items new.held.items) (sym more)
      (subst (λ kept. Tells old.asked.word old.asked.form (content_of old.detector) old.more line (content_of new.detector) old.more old.held.items kept) (sym held)
      (tells_nothing old.asked.word old.asked.form (content_of old.detector) old.more line (content_of new.detector) old.held.items found.0 found.1 (accepted found.0 found.1 is).1 (apart found.0 found.1)));
  looks = λ is.
      let found = event is in
      look ∙ (ready.looks ∙ (looks_same old.asked.word (content_of old.detector) (content_of new.detector) found.0 (accepted found.0 found.1 is).1 (apart found.0 found.1)
      ∙ ap (λ q. look_of ((content_of new.detector).words q.word)) (sym asked)));
  stays = λ end is. record { content = stays end is; more = more; text = held; reports = steps.reports };
  fault = fault;
}
  where
    event : r ≡ Ok None → (e : Event) × (line.event ≡ Ok e)
    event is = accepted_is_event line old.detector.sets new.detector.sets (content_of old.detector) (content_of new.detector) (λ later last end h. steps.leads is later last end h)

-- a line that ended the run
pub passes_ended : (old new : Explaining) (line : Reading) (end : Ending)
    → new.asked ≡ old.asked → new.more ≡ old.more → new.held.items ≡ old.held.items
    → Steps old.detector (line ∷ []) (Ok (Some end)) new.detector → content_of new.detector ≡ content_of old.detector
    → PassesLine old line (Ok (Some end)) new
passes_ended old new line end asked more held steps stays = record {
  asked = asked;
  steps = steps;
  tells = λ is. absurd (cc);
  looks = λ is. absurd (cc);
  stays = λ x is. record { content = stays; more = more; text = held; reports = steps.reports };
  fault = tt;
}

-- a line that want of memory broke off
pub passes_broken : (old new : Explaining) (line : Reading) (x : Refusal) → new.asked ≡ old.asked → Steps old.detector (line ∷ []) (Err x) new.detector → x ≡ OutOfMemory → PassesLine old line (Err x) new
passes_broken old new line x asked steps memory = record {
  asked = asked;
  steps = steps;
  tells = λ is. absurd (cc);
  looks = λ is. absurd (cc);
  stays = λ end is. absurd (cc);
  fault = memory;
}

-- an event that concerns the word, told behind the change of the content
pub passes_told : (old mid new : Explaining) (line : Reading) (e : Event) (from : ℕ)
    → mid.asked ≡ old.asked → mid.look ≡ old.look → mid.more ≡ old.more → mid.held.items ≡ old.held.items
    → new.asked ≡ mid.asked → new.detector ≡ mid.detector → IsReady old
    → line.event ≡ Ok e → concerns old.asked.word e ≡ true → from ≡ length (content_of old.detector).reports
    → Steps old.detector (line ∷ []) (Ok None) mid.detector → Follows old.detector e mid.detector
    → TellsEvent mid from line.line e new → Looks new
    → PassesLine old line (Ok None) new
passes_told old mid new line e from asked look more held asked_on detector ready is met counted steps follows tells looks =
    record {
      asked = asked_on ∙ asked;
      steps = subst (λ (d : Detector PagedWords). Steps old.detector (line ∷ []) (Ok None) d) (sym detector) steps;
      tells = λ fine.
          subst (λ (d : Detector PagedWords). Tells old.asked.word old.asked.form (content_of old.detector) old.more line (content_of d) new.more old.held.items new.held.items) (sym detector)
          (tells_concerned old.asked.word old.asked.form (content_of old.detector) old.more line (content_of mid.detector) new.more old.held.items new.held.items e old.look from is follows.1 met ready.looks counted
          (tells.0 ∙ told_text) (tells.1 ∙ told_more));
      looks = λ fine. looks;
      stays = λ end fine. absurd (cc);
      fault = tt;
    }
  where
    told_text : mid.held.items ++ (told_by mid.asked.word mid.asked.form mid.look from (content_of mid.detector) mid.more line.line e).0
        ≡ old.held.items ++ (told_by old.asked.word old.asked.form old.look from (content_of mid.detector) old.more line.line e).0
    told_text = rw (asked, look, more, held) refl

    told_more : (told_by mid.asked.word mid.asked.form mid.look from (content_of mid.detector) mid.more line.line e).1 ≡ (told_by old.asked.word old.asked.form old.look from (content_of mid.detector) old.more line.line e).1
    told_more = rw (asked, look, more) refl
