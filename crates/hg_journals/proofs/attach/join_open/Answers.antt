use Rattle.std.proofs.Common.{arith}
use Rattle.hg_journals.proofs.Finding.{none_joins}
use Rattle.hg_journals.proofs.attach.join_open.Goals as goal

pub returns-clause-none : goal.returns-clause-none
returns-clause-none g c one other =
    let first = c.args.first in
    let second = c.args.second in
    none_joins g.D.Disk first.journal second.journal first.base first.last second.base second.last (omega (arith, first.order, first.fits)) (omega (arith, second.order, second.fits)) one other
    (c.goes_on_in.ensures.apart c.if-goes_on_in.false) (c.goes_on_in-2.ensures.apart c.if-goes_on_in-2.false)
