use Rattle.std.proofs.Common.{◌≡◌, ◌++◌, OnOk, sym, subst}
use Rattle.hg_check.specs.Printing.{last_line}
use Rattle.hg_reading.specs.declared.ending.Ending.{Ending}
use Rattle.hg_streams.specs.Texts.{line_text}
use Rattle.hg_parts.specs.Running.{StandsBy}
use Rattle.hg_parts.proofs.last_line.hold_last_line.Goals as goal

pub returns-in-Ended-clause-ok : goal.returns-in-Ended-clause-ok
returns-in-Ended-clause-ok c d =
    subst (λ (end : Ending). StandsBy end d c.args.judge.now → OnOk c.hold_end.result (c.hold_end.new.held.items ≡ c.args.held.now.items ++ line_text (last_line d end))) (sym c.in-Ended.is) (c.hold_end.ensures.ok d)
