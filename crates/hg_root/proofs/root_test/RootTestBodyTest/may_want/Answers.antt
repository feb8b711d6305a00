use Rattle.std.proofs.Common.{arith}
use Rattle.hg_root.proofs.root_test.RootTestBodyTest.may_want.Goals as goal

pub returns-then-len : goal.returns-then-len
returns-then-len c refused body size front root = c.may_begin.ensures refused body (front (omega (arith, c.if-len.true))) root
