use Rattle.std.proofs.Common.{sym}
use Rattle.hg_model.specs.declared.thread.ThreadState.{ThreadState}
use Rattle.hg_rules.proofs.table.ThreadTable.is_alive.Goals as goal

pub returns-in-Some : goal.returns-in-Some
returns-in-Some c = sym (c.in-Some.ensures.test (λ (x : ThreadState). x.alive))

pub returns-in-None : goal.returns-in-None
returns-in-None c = sym (c.in-None.ensures.test (λ (x : ThreadState). x.alive))
