use Rattle.std.proofs.Common.{arith}
use Rattle.hg_gate.proofs.Gates.{was_ok}
use Rattle.hg_gate.proofs.gated.Gated.write_body.Goals as goal

pub returns-in_err-written-clause-any_moment : goal.returns-in_err-written-clause-any_moment
returns-in_err-written-clause-any_moment g c gate rest h closed = c.replace_body-written.ensures.any_moment gate rest h.durable closed

pub returns-clause-any_moment : goal.returns-clause-any_moment
returns-clause-any_moment g c gate rest h closed = c.replace_body-written.ensures.any_moment gate rest h.durable closed

pub returns-clause-written : goal.returns-clause-written
returns-clause-written g c gate rest h = record { works = grind arith; durable = was_ok c.replace_body-written.result c.in_ok-written.field-0 c.in_ok-written.was (c.replace_body-written.ensures.written gate rest h.durable) }
