use Rattle.std.proofs.Common.{◌∙◌, arith, sym}
use Rattle.std.proofs.lemmas.Bool.{false≢true}
use Rattle.hg_gate.proofs.Scanning.{not_short, length_fits, head_is, four_bytes}
use Rattle.hg_gate.proofs.scan.parse_head.Goals as goal

pub returns-then-head-lt-HEAD_LEN-clause-damaged : goal.returns-then-head-lt-HEAD_LEN-clause-damaged
returns-then-head-lt-HEAD_LEN-clause-damaged c tail front room bodies is =
    absurd (omega (arith, not_short c.args.head.now tail bodies front c.if-head.false is, c.if-head-lt-HEAD_LEN.true))

pub returns-then-not-fits-clause-damaged : goal.returns-then-not-fits-clause-damaged
returns-then-not-fits-clause-damaged c tail front room bodies is =
    let fits = length_fits c.args.head.now tail bodies c.from_be_bytes-len.result front c.if-head.false c.from_be_bytes-len.ensures is in
    let true_too = c.fits.ensures.1 (fits.0, omega (arith, fits.1, room)) in
    false≢true (sym c.if-not-fits.true ∙ true_too)

pub returns-clause-head : goal.returns-clause-head
returns-clause-head c tail front room =
    let fits = c.fits.ensures.0 c.if-not-fits.false in
    head_is c.args.head.now tail c.from_be_bytes-len.result front c.if-head-lt-HEAD_LEN.false c.if-head.false c.from_be_bytes-len.ensures (four_bytes c.args.head.now c.type_inv.head) fits.0 (omega (arith, fits.1, room))
