use Rattle.std.proofs.Common.{arith}
use Rattle.hg_wire.proofs.RunLemmas.{run_on_by_four}
use Rattle.hg_wire.proofs.number.with_four_digits_at.Goals as goal

pub returns : goal.returns
returns c = λ start h. run_on_by_four start c.args.bytes.now c.args.at c.args.number c.in_ok-four.four (omega arith) c.in_ok-four.ensures h
