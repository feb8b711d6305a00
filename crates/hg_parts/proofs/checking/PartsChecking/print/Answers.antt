use Rattle.std.proofs.Common.{[], refl, subst, arith}
use Rattle.hg_streams.specs.Texts.{reports_text}
use Rattle.hg_parts.specs.Taking.{PrintedNext}
use Rattle.hg_parts.proofs.Taking.{all_read, reports_still, rests_on, written_all}
use Rattle.hg_parts.proofs.checking.PartsChecking.print.Goals as goal

pub loop-self-preserved : goal.loop-self-preserved
loop-self-preserved g c =
    let failures = c.in-Ok-true.ensures.fault in
    let before = c.loop-self.invariant.2 in (
      rests_on c.args.self.now c.loop-self.self c.print_next.new.self c.loop-self.invariant.0 c.print_next.ensures.rest,
      λ d reports first h.
          (subst (λ more. PrintedNext more first c.print_next.new.self c.loop-self.self.printed c.print_next.new.output.calls d) c.in-Ok-true.field-0-test
          (c.in-Ok-true.ensures.prints d (reports_still c.args.self.now c.loop-self.self d c.loop-self.invariant.0 reports) first (c.loop-self.invariant.1 d reports first h)).0).1,
      omega (arith, failures, before),
    )

pub returns-in-Ok-false-clause-prints : goal.returns-in-Ok-false-clause-prints
returns-in-Ok-false-clause-prints g c d reports first h =
    let all = subst (λ more. PrintedNext more first c.print_next.new.self c.loop-self.self.printed c.print_next.new.output.calls d) c.in-Ok-false.field-0-test
    (c.in-Ok-false.ensures.prints d (reports_still c.args.self.now c.loop-self.self d c.loop-self.invariant.0 reports) first (c.loop-self.invariant.1 d reports first h)).0 in
    written_all c.write_out.result first c.print_next.new.self _ c.print_next.new.output.calls c.write_out.new.output.calls d all refl refl refl
    (c.write_out.ensures.printed first [] (reports_text 1 d.reports) all.all) (c.write_out.ensures.front first [] (reports_text 1 d.reports) all.all)

pub returns-clause-prints : goal.returns-clause-prints
returns-clause-prints g c d reports first h =
    let ge = c.loop-self-test.false in
    let all = all_read first c.loop-self.self c.loop-self.output.calls d (reports_still c.args.self.now c.loop-self.self d c.loop-self.invariant.0 reports) (omega (arith, ge)) (c.loop-self.invariant.1 d reports first h) in
    written_all c.write_out-2.result first c.loop-self.self _ c.loop-self.output.calls c.write_out-2.new.output.calls d all refl refl refl
    (c.write_out-2.ensures.printed first [] (reports_text 1 d.reports) all.all) (c.write_out-2.ensures.front first [] (reports_text 1 d.reports) all.all)
