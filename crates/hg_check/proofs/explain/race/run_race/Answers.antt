use Rattle.std.proofs.Common.{subst, sym, Result, Ok, Err, IfErr}
use Rattle.hg_reading.specs.Whole.{IsKept}
use Rattle.hg_streams.proofs.Fronts.{on_err_weaker}
use Rattle.hg_check.proofs.RaceText.{any_cause, kept_whole}
use Rattle.hg_check.proofs.explain.race.run_race.Goals as goal

if_err_weaker : {X E : Type 0} {P Q : E → Type 0} (r : Result X E) → ((e : E) → P e → Q e) → IfErr r P → IfErr r Q
if_err_weaker (Ok x) f p = tt
if_err_weaker (Err e) f p = f e p

pub returns-clause-front : goal.returns-clause-front
returns-clause-front g c =
    let kept = subst (λ xs. IsKept c.args.input.now.calls c.keep.new.input.calls xs) (sym c.as_slice.ensures.value) c.in_ok-text.ensures.kept in
    on_err_weaker c.tell_race.result
    (λ front. kept_whole c.args.number c.args.form c.as_slice.result.now c.args.input.now.calls c.keep.new.input.calls c.args.output.now.calls c.tell_race.new.output.calls kept front)
    c.tell_race.ensures.front

pub returns-clause-cause : goal.returns-clause-cause
returns-clause-cause g c =
    if_err_weaker c.tell_race.result
    (λ r cause. any_cause c.args.input.now.calls c.keep.new.input.calls c.in_ok-text.text.items c.args.output.now.calls c.tell_race.new.output.calls r c.in_ok-text.ensures.kept cause)
    c.tell_race.ensures.cause
