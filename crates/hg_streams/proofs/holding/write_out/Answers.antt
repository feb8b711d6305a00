use Rattle.std.proofs.Common.{sym, subst}
use Rattle.std.proofs.lemmas.Result.{err_from_is_err_and}
use Rattle.hg_streams.specs.Holding.{IsDue}
use Rattle.hg_streams.proofs.Printed.{due_written, front_by_torn, took_by}
use Rattle.hg_streams.proofs.holding.write_out.Goals as goal

pub returns-in_err-write-clause-front : goal.returns-in_err-write-clause-front
returns-in_err-write-clause-front g c first rest goal p =
    let q = err_from_is_err_and c.from_residual.result c.from_residual.ensures.1 in
    rw q.1 (front_by_torn first c.args.output.now.calls c.write.new.self.calls c.args.held.now.items c.as_slice.result.now rest goal c.in_err-write.ensures.calls c.as_slice.ensures.value p)

pub returns-clause-printed : goal.returns-clause-printed
returns-clause-printed g c first rest goal p =
    subst (λ t. IsDue first c.write.new.self.calls t rest goal) (sym c.clear.ensures.items)
    (due_written first c.args.output.now.calls c.write.new.self.calls c.args.held.now.items rest goal p
    (took_by c.args.output.now.calls c.write.new.self.calls c.as_slice.result.now c.args.held.now.items c.in_ok-write.ensures.calls c.as_slice.ensures.value))
