use Rattle.std.proofs.Common.{arith}
use Rattle.hg_parts.proofs.Numbers.{placed_last}
use Rattle.hg_parts.proofs.judging.place_in.Goals as goal

pub prove-unreachable-requires : goal.prove-unreachable-requires
prove-unreachable-requires c =
    let many = placed_last c.args.batch.now.routes c.args.batch.now.lines c.args.batch.now.routed in
    let lt = c.requires in
    let is = c.count-count.ensures in
    let no = c.if-prove.true in
    omega (arith, many, lt, is, no)
