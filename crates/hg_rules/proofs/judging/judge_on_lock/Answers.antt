use Rattle.std.proofs.Common.{ℕ, sym, ap, ◌∙◌}
use Rattle.hg_model.specs.declared.event.HoldKind.{HoldKind}
use Rattle.hg_model.specs.declared.verdict.Verdict.{Verdict}
use Rattle.hg_model.specs.Holding.{event_on}
use Rattle.hg_model.specs.Verdicts.{Standing, causes, first_cause, standing}
use Rattle.hg_rules.proofs.judging.judge_on_lock.Goals as goal

-- the first cause against a hold of this kind
abbrev first_of : Standing → ℕ → ℕ → ℕ → ℕ → HoldKind → Verdict
first_of s source number t l kind = first_cause (causes s (record { source = source; number = number; event = event_on kind t l }))

pub returns-in-Lock : goal.returns-in-Lock
returns-in-Lock c = λ number. c.judge_lock.ensures number ∙ ap (first_of (standing c.args.state.now) c.args.source number c.args.hold.t c.args.hold.l) (sym c.in-Lock.is)

pub returns-in-RdLock : goal.returns-in-RdLock
returns-in-RdLock c = λ number. c.judge_read_lock.ensures number ∙ ap (first_of (standing c.args.state.now) c.args.source number c.args.hold.t c.args.hold.l) (sym c.in-RdLock.is)

pub returns-in-Unlock : goal.returns-in-Unlock
returns-in-Unlock c = λ number. c.judge_unlock.ensures number ∙ ap (first_of (standing c.args.state.now) c.args.source number c.args.hold.t c.args.hold.l) (sym c.in-Unlock.is)
