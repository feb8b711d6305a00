use Rattle.std.proofs.Common.{sym, subst}
use Rattle.hg_pool.specs.declared.parts.Parts.{Parts}
use Rattle.hg_pool.specs.Reached.{IsReached}
use Rattle.hg_pool.proofs.parts.Parts.put.Goals as goal

pub returns-in_err-write_waiting-in-Some-clause-reached : goal.returns-in_err-write_waiting-in-Some-clause-reached
returns-in_err-write_waiting-in-Some-clause-reached g c reached = subst (λ (x : Parts g.row.D.Denot). IsReached x) (sym c.in_err-write_waiting-in-Some.ensures.refused) reached
