use Rattle.std.proofs.Common.{◌≡◌, ℕ, Bool, Ok, Result, refl, ◌∙◌, sym, ap, subst, false}
use Rattle.hg_model.specs.declared.event.Event.{Event}
use Rattle.hg_model.specs.History.{overlaps}
use Rattle.hg_wire.specs.Accesses.{event_of}
use Rattle.hg_wire.specs.declared.line.AccessLine.{AccessLine}
use Rattle.hg_wire.specs.declared.line.LineFault.{LineFault}
use Rattle.hg_check.specs.Running.{Follows, access_reading}
use Rattle.hg_check.specs.Life.{concerns}
use Rattle.hg_check.proofs.OneLine.{passes_apart}
use Rattle.hg_check.proofs.Told.{access_concerns}
use Rattle.hg_check.proofs.explain.explaining.Explaining.pass_access.Goals as goal

apart : (w : ℕ) (found : AccessLine) (len : ℕ) (b : Bool) → len ≡ found.access.len → b ≡ overlaps found.access.at len w → concerns w (event_of found) ≡ b
apart w found len b same is = access_concerns w found.is_write found.access ∙ (ap (λ (n : ℕ). overlaps found.access.at n w) (sym same) ∙ sym is)

event_is : {x y : Event} → ◌≡◌ {A = Result Event LineFault} (Ok x) (Ok y) → x ≡ y
event_is h = cc

pub pass_concerned-requires-clause-met : goal.pass_concerned-requires-clause-met
pass_concerned-requires-clause-met c = apart c.args.self.now.asked.word c.args.found.now c.from.result c.overlaps.result c.from.ensures c.overlaps.ensures ∙ c.if-overlaps.true

pub returns : goal.returns
returns c =
    passes_apart c.args.self.now _ (access_reading c.args.line c.args.found.now) c.apply_access.result refl refl refl refl c.requires.ready c.apply_access.ensures.steps
    (λ e is same. subst (λ x. Follows c.args.self.now.detector x c.apply_access.new.detector) (event_is is) (c.apply_access.ensures.accepted same)) c.apply_access.ensures.stays c.apply_access.ensures.fault
    (λ e is. subst (λ x. concerns c.args.self.now.asked.word x ≡ false) (event_is is)
    (apart c.args.self.now.asked.word c.args.found.now c.from.result c.overlaps.result c.from.ensures c.overlaps.ensures ∙ c.if-overlaps.false))
