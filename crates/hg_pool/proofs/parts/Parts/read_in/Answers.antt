use Rattle.std.proofs.lemmas.Result.{err_from_is_err_and}
use Rattle.hg_pool.specs.Sound.{shown_of}
use Rattle.hg_pool.proofs.Stepping.{stays_on}
use Rattle.hg_pool.proofs.parts.Parts.read_in.Goals as goal

pub take_in-requires-clause-stands : goal.take_in-requires-clause-stands
take_in-requires-clause-stands g c h i lt = c.in_ok-read.ensures.cells h i lt

pub returns-clause-stays : goal.returns-clause-stays
returns-clause-stays g c = stays_on g.D.Disk (shown_of c.args.self.now) (shown_of c.read.new.self) (shown_of c.take_in.new.self) c.read.ensures.stays c.take_in.ensures.stays

pub returns-in_err-read-clause-whole : goal.returns-in_err-read-clause-whole
returns-in_err-read-clause-whole g c h known =
    let p = err_from_is_err_and c.from_residual.result c.from_residual.ensures.1 in
    rw (p.1, p.2) (c.in_err-read.ensures.whole h known)
