use Rattle.hg_verbose.proofs.Holding.{lets_nothing_go, others_held, still_held}
use Rattle.hg_verbose.proofs.holds.change.Goals as goal

pub returns-in-Unlock-clause-changed : goal.returns-in-Unlock-clause-changed
returns-in-Unlock-clause-changed c =
    λ gone earlier since all. rw (c.in-Unlock.is, c.let_go.ensures) (others_held c.in-Unlock.t c.in-Unlock.l gone earlier c.args.list.now.items all)

pub returns-in_default : goal.returns-in_default
returns-in_default c =
    record {
      changed = λ gone earlier since all. still_held c.args.event gone earlier c.args.list.now.items (lets_nothing_go c.args.event c.in_default.not-Unlock) all;
      refused = tt;
    }
