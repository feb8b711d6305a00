use Rattle.std.proofs.Common.{◌≡◌, ℕ, ◌+◌, ◌-◌, ◌*◌, ◌^◌, length, Err, ap, sym, subst, inr, arith}
use Rattle.std.proofs.lemmas.Result.{err_from_is_err_and}
use Rattle.hg_reading.specs.Taking.{Reads}
use Rattle.hg_reading.proofs.Runs.{read_nothing}
use Rattle.hg_reading.proofs.whole.read_side_by_side.Goals as goal

pub returns-in_err-pieces : goal.returns-in_err-pieces
returns-in_err-pieces g c =
    let q = err_from_is_err_and c.from_residual.result c.from_residual.ensures.1 in
    subst (λ x. Reads g.S.Sink.takes g.S.Sink.settled c.args.input.now.calls c.args.input.now.calls c.args.sink.now c.args.output.now.calls x c.args.sink.now c.args.output.now.calls) (sym q.1)
    (inr (read_nothing g.S.Sink.takes g.met.S.Sink.on g.S.Sink.settled c.args.input.now.calls c.args.sink.now c.args.output.now.calls q.0 c.requires.settled (g.met.S.Sink.none c.args.sink.now c.args.output.now.calls) q.2))

pub read-requires : goal.read-requires
read-requires g c =
    let split : 2 ^ 54 ≡ 2 ^ 48 + (2 ^ 54 - 2 ^ 48) = omega arith in
    record {
      room = g.met.S.Sink.fewer c.args.sink.now (2 ^ 48) (2 ^ 54 - 2 ^ 48) (subst (λ (n : ℕ). g.S.Sink.may_take c.args.sink.now n) split c.requires.room);
      settled = c.requires.settled;
    }

pub returns-in_err-intake : goal.returns-in_err-intake
returns-in_err-intake g c =
    let same : c.from_residual-in_err-intake.result ≡ Err c.in_err-intake.field-0.0 = grind arith in
    subst (λ x. Reads g.S.Sink.takes g.S.Sink.settled c.args.input.now.calls c.args.input.now.calls c.args.sink.now c.args.output.now.calls x c.args.sink.now c.args.output.now.calls) (sym same)
    (inr (read_nothing g.S.Sink.takes g.met.S.Sink.on g.S.Sink.settled c.args.input.now.calls c.args.sink.now c.args.output.now.calls c.in_err-intake.field-0.0 c.requires.settled (g.met.S.Sink.none c.args.sink.now c.args.output.now.calls) c.in_err-intake.ensures.cause))

pub read_groups-requires-clause-room : goal.read_groups-requires-clause-room
read_groups-requires-clause-room g c κs within =
    let size : length c.in_ok-intake.intake.buffer.items * 2 ^ 32 ≡ 2 ^ 53 = ap (λ (n : ℕ). n * 2 ^ 32) c.in_ok-intake.ensures.size in
    let split : 2 ^ 54 ≡ 2 ^ 53 + 2 ^ 53 = omega arith in
    let half = g.met.S.Sink.fewer c.args.sink.now (2 ^ 53) (2 ^ 53) (subst (λ (n : ℕ). g.S.Sink.may_take c.args.sink.now n) split c.requires.room) in
    subst (λ (n : ℕ). g.S.Sink.may_take c.args.sink.now n) (sym size) half
