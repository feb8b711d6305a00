use Rattle.std.proofs.Common.{◌≡◌, [], Ok, Err, refl, sym, subst, arith}
use Rattle.std.specs.Bool.{⊤}
use Rattle.hg_check.specs.LifeTaking.{ExplainsLines}
use Rattle.hg_check.proofs.LifeSinking.{takes_printed}
use Rattle.hg_check.proofs.explain.explaining.ExplainingSink.settle.Goals as goal

pub returns-in_err-write_held-clause-takes : goal.returns-in_err-write_held-clause-takes
returns-in_err-write_held-clause-takes g c =
    let same : c.from_residual.result ≡ Err c.in_err-write_held.field-0.0 = grind arith in
    let now = record c.args.self.now { held = c.write_held.new.held } in
    subst (λ x. ExplainsLines c.args.self.now c.args.output.now.calls [] x now c.write_held.new.output.calls) (sym same)
    (takes_printed {T = ⊤} c.args.self.now now c.args.output.now.calls c.write_held.new.output.calls (Err c.in_err-write_held.field-0.0) refl refl refl refl c.in_err-write_held.ensures.printed
    c.in_err-write_held.ensures.front c.in_err-write_held.ensures.cause c.in_err-write_held.ensures.fault).1

pub returns-clause-takes : goal.returns-clause-takes
returns-clause-takes g c =
    let now = record c.args.self.now { held = c.write_held.new.held } in
    (takes_printed {T = ⊤} c.args.self.now now c.args.output.now.calls c.write_held.new.output.calls (Ok c.in_ok-write_held.field-0) refl refl refl refl c.in_ok-write_held.ensures.printed
    c.in_ok-write_held.ensures.front c.in_ok-write_held.ensures.cause c.in_ok-write_held.ensures.fault).0
