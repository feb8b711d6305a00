use Rattle.std.proofs.Common.{◌≡◌, ℕ, Bool, true, false, refl, ap, ◌∙◌}
use Rattle.hg_model.specs.declared.event.Access.{Access}
use Rattle.hg_model.specs.declared.event.Event.TheVariants.{Read}
use Rattle.hg_model.specs.Accessing.{access_named}
use Rattle.hg_model.specs.Change.{is_accept}
use Rattle.hg_model.specs.Verdicts.{Standing, standing, verdict}
use Rattle.hg_rules.proofs.judging.admits_access.Goals as goal

-- reads and writes are judged alike
as_a_read : (s : Standing) (source number : ℕ) (write : Bool) (a : Access) → verdict s (record { source = source; number = number; event = Read a }) ≡ verdict s (access_named source number write a)
as_a_read s source number true a = refl
as_a_read s source number false a = refl

pub returns : goal.returns
returns c = λ write. c.is_accepting.ensures ∙ ap is_accept (c.judge_read.ensures ∙ as_a_read (standing c.args.state.now) c.args.source c.args.number write c.args.access.now)
