use Rattle.std.proofs.Common.{sym, ap, ◌∙◌, nat_lt, length, List}
use Rattle.hg_model.specs.declared.held.HeldLock.{HeldLock}
use Rattle.hg_model.specs.declared.thread.ThreadState.{ThreadState}
use Rattle.hg_rules.proofs.table.ThreadTable.holds_some.Goals as goal

pub returns-in-Some : goal.returns-in-Some
returns-in-Some c = ap (λ (hs : List HeldLock). nat_lt 0 (length hs)) c.as_slice.ensures.value ∙ sym (c.in-Some.ensures.test (λ (x : ThreadState). nat_lt 0 (length x.held)))

pub returns-in-None : goal.returns-in-None
returns-in-None c = sym (c.in-None.ensures.test (λ (x : ThreadState). nat_lt 0 (length x.held)))
