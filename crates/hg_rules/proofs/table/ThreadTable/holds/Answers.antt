use Rattle.std.proofs.Common.{sym, ◌∙◌}
use Rattle.hg_model.specs.declared.thread.ThreadState.{ThreadState}
use Rattle.hg_model.specs.Locks.{has_lock}
use Rattle.hg_rules.proofs.Uses.{has, none_of_any}
use Rattle.hg_rules.proofs.table.ThreadTable.holds.Goals as goal

pub returns-in-Some : goal.returns-in-Some
returns-in-Some c = c.has.ensures ∙ sym (c.in-Some.ensures.test (λ (x : ThreadState). has_lock x.held c.args.l))

pub returns-in-None : goal.returns-in-None
returns-in-None c = sym (c.in-None.ensures.test (λ (x : ThreadState). has_lock x.held c.args.l))

pub returns-then-not-is_held : goal.returns-then-not-is_held
returns-then-not-is_held c = sym (none_of_any c.args.self.now c.args.t (has c.args.l) (sym c.is_held.ensures ∙ c.if-not-is_held.true))
