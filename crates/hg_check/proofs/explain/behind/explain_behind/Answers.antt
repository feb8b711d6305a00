use Rattle.std.proofs.Common.{sym, subst, ◌∙◌}
use Rattle.hg_check.specs.Running.{HasRoom}
use Rattle.hg_check.proofs.RaceText.{never_three}
use Rattle.hg_check.proofs.explain.behind.explain_behind.Goals as goal

pub run_behind-requires-clause-room : goal.run_behind-requires-clause-room
run_behind-requires-clause-room g c = subst HasRoom (sym c.behind-explaining.ensures.detector) c.requires.room

pub returns-in-Ok-clause-fault : goal.returns-in-Ok-clause-fault
returns-in-Ok-clause-fault g c is = absurd (never_three c.in-Ok.end (sym c.status_of_end.ensures ∙ is))

pub returns-in-Ok-clause-front : goal.returns-in-Ok-clause-front
returns-in-Ok-clause-front g c is = absurd (never_three c.in-Ok.end (sym c.status_of_end.ensures ∙ is))

pub returns-clause-fault : goal.returns-clause-fault
returns-clause-fault g c is = (c.in-Err.refusal, (c.in-Err.ensures.cause, c.end_by_fault.ensures.told))
