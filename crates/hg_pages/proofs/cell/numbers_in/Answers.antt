use Rattle.std.proofs.Common.{arith}
use Rattle.hg_pages.proofs.Numbers.{in_text}
use Rattle.hg_pages.proofs.cell.numbers_in.Goals as goal

pub returns-clause-text : goal.returns-clause-text
returns-clause-text c = in_text c.args.bytes.now c.number.result c.number-2.result c.number-3.result c.requires (λ i. omega (arith, c.type_inv.bytes i)) c.number.ensures c.number-2.ensures c.number-3.ensures
