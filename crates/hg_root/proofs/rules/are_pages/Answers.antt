use Rattle.hg_root.proofs.Each.{with_slots}
use Rattle.hg_root.proofs.rules.are_pages.Goals as goal

pub returns : goal.returns
returns c =
    let rising = c.pages_rise.ensures.0 c.if-not-pages_rise.false in
    let each = c.each_within.ensures.0 c.if-not-each_within.false in
    with_slots c.args.pages.now c.have_own_slots.result (λ own is. (λ yes. record { rising = rising; each = each; distinct = is.0 yes }, λ have. is.1 have.distinct)) c.have_own_slots.ensures
