use Rattle.std.proofs.Common.{arith}
use Rattle.hg_root.proofs.Naming.{all_named, one_more}
use Rattle.hg_root.proofs.root.named_of.Goals as goal

pub loop-t-preserved : goal.loop-t-preserved
loop-t-preserved c = λ segments table. one_more segments c.args.lasts.now table c.loop-t.t c.loop-t-test.true c.loop-t.named.items c.push_if.new.numbers.items c.is_some.result (c.loop-t.invariant segments table) c.in_ok-push_if.ensures c.is_some.ensures

pub returns : goal.returns
returns c = λ segments table. all_named segments c.loop-t.t c.loop-t.named.items (omega arith) (c.loop-t.invariant segments table)
