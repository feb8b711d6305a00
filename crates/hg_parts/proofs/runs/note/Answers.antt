use Rattle.std.proofs.Common.{◌-◌, arith}
use Rattle.hg_parts.proofs.Numbers.{noted_new, noted_on}
use Rattle.hg_parts.proofs.runs.note.Goals as goal

pub returns-then-follows : goal.returns-then-follows
returns-then-follows c =
    let count = c.len-count.ensures in
    let some = c.if-count-gt0.true in
    let reached = c.if-follows.ensures in
    noted_on c.args.runs.now.items c.index.result.now (c.len-count.result - 1) c.args.place c.args.line (omega (arith, count, some)) c.index.ensures reached.0 reached.1

pub returns : goal.returns
returns c = noted_new c.args.runs.now.items c.push_reserved.new.self.items c.args.place c.args.line c.push_reserved.ensures.items
