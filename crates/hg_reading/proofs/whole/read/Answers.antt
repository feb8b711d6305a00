use Rattle.std.proofs.Common.{◌≡◌, Err, sym, subst, inr, arith}
use Rattle.hg_reading.specs.Taking.{Reads}
use Rattle.hg_reading.proofs.Runs.{read_nothing}
use Rattle.hg_reading.proofs.whole.read.Goals as goal

pub returns-in_err-intake : goal.returns-in_err-intake
returns-in_err-intake g c =
    let same : c.from_residual.result ≡ Err c.in_err-intake.field-0.0 = grind arith in
    subst (λ x. Reads g.S.Sink.takes g.S.Sink.settled c.args.input.now.calls c.args.input.now.calls c.args.sink.now c.args.output.now.calls x c.args.sink.now c.args.output.now.calls) (sym same)
    (inr (read_nothing g.S.Sink.takes g.met.S.Sink.on g.S.Sink.settled c.args.input.now.calls c.args.sink.now c.args.output.now.calls c.in_err-intake.field-0.0 c.requires.settled (g.met.S.Sink.none c.args.sink.now c.args.output.now.calls) c.in_err-intake.ensures.cause))
