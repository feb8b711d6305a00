use Rattle.std.proofs.Common.{arith}
use Rattle.hg_verbose.proofs.holds.Holds.follow.Goals as goal

pub invariant_of-self-2 : goal.invariant_of-self-2
invariant_of-self-2 c =
    rw c.push.ensures (
      omega (arith, c.self.invariant.0),
      c.if-not-change.ensures.changed c.self.inside.gone c.self.inside.history (omega (arith, c.self.invariant.0)) c.self.invariant.1,
    )
