use Rattle.std.proofs.Common.{◌≡◌, Ok, Err, Result, Option, [], ◌∷◌, false, refl, sym, ap, ◌∙◌, subst}
use Rattle.std.proofs.lemmas.List.{length-map}
use Rattle.std.proofs.lemmas.Result.{err_from_is_err_and}
use Rattle.hg_model.specs.declared.event.Event.{Event}
use Rattle.hg_model.specs.Verdicts.{standing_of}
use Rattle.hg_detect.specs.Memory.{content_of}
use Rattle.hg_detect.specs.declared.detector.Detector.{Detector}
use Rattle.hg_cells.specs.declared.paged.PagedWords.{PagedWords}
use Rattle.hg_detect.specs.Shown.{report_of}
use Rattle.hg_wire.specs.declared.line.LineFault.{LineFault}
use Rattle.hg_reading.specs.declared.ending.Ending.{Ending}
use Rattle.hg_check.specs.Checking.{next_named}
use Rattle.hg_check.specs.Running.{Steps}
use Rattle.hg_check.proofs.Steps.{steps_broken}
use Rattle.hg_check.specs.Life.{concerns}
use Rattle.hg_check.proofs.OneLine.{passes_apart, passes_broken, passes_told}
use Rattle.hg_check.proofs.Told.{actor_is_low, none_stopped}
use Rattle.hg_check.proofs.explain.explaining.Explaining.pass.Goals as goal

event_is : {x y : Event} → ◌≡◌ {A = Result Event LineFault} (Ok x) (Ok y) → x ≡ y
event_is h = cc

pub returns-in_default : goal.returns-in_default
returns-in_default c =
    passes_apart c.args.self.now _ c.args.reading.now c.apply.result refl refl refl refl c.requires.ready c.apply.ensures.steps c.apply.ensures.accepted c.apply.ensures.stays c.apply.ensures.fault
    (λ e is. absurd (c.in_default.not-Ok e is))

pub returns-then-not-concerns : goal.returns-then-not-concerns
returns-then-not-concerns c =
    let apply = c.apply-then-not-concerns in
    passes_apart c.args.self.now _ c.args.reading.now apply.result refl refl refl refl c.requires.ready apply.ensures.steps apply.ensures.accepted apply.ensures.stays apply.ensures.fault
    (λ e is. subst (λ x. concerns c.args.self.now.asked.word x ≡ false) (event_is (sym c.in-Ok.is ∙ is)) (sym c.concerns.ensures ∙ c.if-not-concerns.true))

pub tell_event-requires-clause-actor : goal.tell_event-requires-clause-actor
tell_event-requires-clause-actor c =
    actor_is_low (standing_of (content_of c.args.self.now.detector)) (next_named (content_of c.args.self.now.detector) c.in-Ok.event)
    (c.apply-2.ensures.accepted c.in-Ok.event c.in-Ok.is (c.in_ok-stopped.was ∙ ap (λ (x : Option Ending). Ok x) (none_stopped c.in_ok-stopped.stopped (sym c.is_some.ensures ∙ c.if-is_some.false)))).0

pub returns-in_err-tell_event : goal.returns-in_err-tell_event
returns-in_err-tell_event c =
    let accepted = c.in_ok-stopped.was ∙ ap (λ (x : Option Ending). Ok x) (none_stopped c.in_ok-stopped.stopped (sym c.is_some.ensures ∙ c.if-is_some.false)) in
    let q = err_from_is_err_and c.from_residual-in_err-tell_event.result c.from_residual-in_err-tell_event.ensures.1 in
    rw q.1
    (passes_broken c.args.self.now c.tell_event.new.self c.args.reading.now _ c.tell_event.ensures.asked
    (subst (λ (d : Detector PagedWords). Steps c.args.self.now.detector (c.args.reading.now ∷ []) (Err q.0) d) (sym c.tell_event.ensures.detector)
    (steps_broken c.args.self.now.detector c.apply-2.new.detector (c.args.reading.now ∷ []) _ (subst (λ r. Steps c.args.self.now.detector (c.args.reading.now ∷ []) r c.apply-2.new.detector) accepted c.apply-2.ensures.steps)))
    (q.2 ∙ c.in_err-tell_event.ensures.cause))

pub returns : goal.returns
returns c =
    let accepted = c.in_ok-stopped.was ∙ ap (λ (x : Option Ending). Ok x) (none_stopped c.in_ok-stopped.stopped (sym c.is_some.ensures ∙ c.if-is_some.false)) in
    passes_told c.args.self.now (record c.args.self.now { detector = c.apply-2.new.detector }) c.tell_event.new.self c.args.reading.now c.in-Ok.event c.kept-kept.result refl refl refl refl c.tell_event.ensures.asked c.tell_event.ensures.detector c.requires.ready
    c.in-Ok.is (sym c.concerns.ensures ∙ c.if-not-concerns.false) (c.kept-kept.ensures.count ∙ sym (length-map c.args.self.now.detector.kept (report_of c.args.self.now.detector.sets.sets)))
    (subst (λ r. Steps c.args.self.now.detector (c.args.reading.now ∷ []) r c.apply-2.new.detector) accepted c.apply-2.ensures.steps)
    (c.apply-2.ensures.accepted c.in-Ok.event c.in-Ok.is accepted)
    c.in_ok-tell_event.ensures.tells c.tell_event.ensures.looks
