use Rattle.std.proofs.Common.{◌<◌, Ok, Err, Option, [], ◌∷◌, refl, sym, ap, ◌∙◌, subst}
use Rattle.std.proofs.lemmas.List.{length-map}
use Rattle.std.proofs.lemmas.Result.{err_from_is_err_and}
use Rattle.hg_model.specs.declared.event.Event.{Event}
use Rattle.hg_model.specs.Verdicts.{standing_of}
use Rattle.hg_detect.specs.Memory.{content_of}
use Rattle.hg_detect.specs.declared.detector.Detector.{Detector}
use Rattle.hg_cells.specs.declared.paged.PagedWords.{PagedWords}
use Rattle.hg_detect.specs.Shown.{report_of}
use Rattle.hg_wire.specs.Accesses.{event_of}
use Rattle.hg_reading.specs.declared.ending.Ending.{Ending}
use Rattle.hg_check.specs.Checking.{next_named}
use Rattle.hg_check.specs.Running.{Steps, access_reading}
use Rattle.hg_check.proofs.Steps.{steps_broken}
use Rattle.hg_check.specs.Life.{actor_of}
use Rattle.hg_check.specs.LifeTaking.{TellsEvent}
use Rattle.hg_check.proofs.OneLine.{passes_broken, passes_told}
use Rattle.hg_check.proofs.Told.{actor_is_low, none_stopped}
use Rattle.hg_check.proofs.explain.explaining.Explaining.pass_concerned.Goals as goal

pub tell_event-requires-clause-actor : goal.tell_event-requires-clause-actor
tell_event-requires-clause-actor c =
    let accepted = c.in_ok-stopped.was ∙ ap (λ (x : Option Ending). Ok x) (none_stopped c.in_ok-stopped.stopped (sym c.is_some.ensures ∙ c.if-is_some.false)) in
    subst (λ (e : Event). actor_of e < 1024) (sym c.access_event-event.ensures)
    (actor_is_low (standing_of (content_of c.args.self.now.detector)) (next_named (content_of c.args.self.now.detector) (event_of c.args.found.now)) (c.apply_access.ensures.accepted accepted).0)

pub returns-in_err-tell_event : goal.returns-in_err-tell_event
returns-in_err-tell_event c =
    let accepted = c.in_ok-stopped.was ∙ ap (λ (x : Option Ending). Ok x) (none_stopped c.in_ok-stopped.stopped (sym c.is_some.ensures ∙ c.if-is_some.false)) in
    let q = err_from_is_err_and c.from_residual-in_err-tell_event.result c.from_residual-in_err-tell_event.ensures.1 in
    let line = access_reading c.args.line c.args.found.now in
    rw q.1
    (passes_broken c.args.self.now c.tell_event.new.self line _ c.tell_event.ensures.asked
    (subst (λ (d : Detector PagedWords). Steps c.args.self.now.detector (line ∷ []) (Err q.0) d) (sym c.tell_event.ensures.detector)
    (steps_broken c.args.self.now.detector c.apply_access.new.detector (line ∷ []) _ (subst (λ r. Steps c.args.self.now.detector (line ∷ []) r c.apply_access.new.detector) accepted c.apply_access.ensures.steps)))
    (q.2 ∙ c.in_err-tell_event.ensures.cause))

pub returns : goal.returns
returns c =
    let accepted = c.in_ok-stopped.was ∙ ap (λ (x : Option Ending). Ok x) (none_stopped c.in_ok-stopped.stopped (sym c.is_some.ensures ∙ c.if-is_some.false)) in
    let line = access_reading c.args.line c.args.found.now in
    passes_told c.args.self.now (record c.args.self.now { detector = c.apply_access.new.detector }) c.tell_event.new.self line (event_of c.args.found.now) c.kept-kept.result refl refl refl refl c.tell_event.ensures.asked c.tell_event.ensures.detector c.requires.ready
    refl c.requires.met (c.kept-kept.ensures.count ∙ sym (length-map c.args.self.now.detector.kept (report_of c.args.self.now.detector.sets.sets)))
    (subst (λ r. Steps c.args.self.now.detector (line ∷ []) r c.apply_access.new.detector) accepted c.apply_access.ensures.steps)
    (c.apply_access.ensures.accepted accepted)
    (subst (λ (e : Event). TellsEvent (record c.args.self.now { detector = c.apply_access.new.detector }) c.kept-kept.result c.args.line e c.tell_event.new.self) c.access_event-event.ensures c.in_ok-tell_event.ensures.tells) c.tell_event.ensures.looks
