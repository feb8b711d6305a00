use Rattle.hg_parts.proofs.Ending.{end_held}
use Rattle.hg_parts.proofs.last_line.hold_end.Goals as goal

pub returns-clause-ok : goal.returns-clause-ok
returns-clause-ok c d stands =
    end_held c.end_line.result d c.args.judge.now c.args.held.now.items c.put_end_line.new.out.items c.end_line.new.held.items c.events.result c.total.result c.segments.result stands c.events.ensures c.total.ensures c.segments.ensures
    c.in_ok-put_end_line.ensures.ok c.end_line.ensures.ok
