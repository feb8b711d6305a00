use Rattle.std.proofs.Common.{ap, ◌∙◌}
use Rattle.hg_store.specs.Shown.{ShownStore}
use Rattle.hg_store.specs.Store.{Backs}
use Rattle.hg_store.proofs.Backing.{backs_of, counts_all, events_of, newest_of}
use Rattle.hg_store.proofs.store.Store.stands.Goals as goal

pub returns-clause-backs : goal.returns-clause-backs
returns-clause-backs g c honest = let k = c.self.invariant.stands honest in rw (← c.self.view_is) (backs_of g.D.Disk _ k.0 k.1)

pub returns-clause-count : goal.returns-clause-count
returns-clause-count g c honest = let k = c.self.invariant.stands honest in let backs : Backs g.D.Disk c.args.self.now = rw (← c.self.view_is) (backs_of g.D.Disk _ k.0 k.1) in counts_all g.D.Disk c.args.self.now backs

pub returns-clause-sets : goal.returns-clause-sets
returns-clause-sets g c honest = let k = c.self.invariant.stands honest in rw (← c.self.view_is) k.1.state.sets

pub returns-clause-newest : goal.returns-clause-newest
returns-clause-newest g c honest works =
    let k = c.self.invariant.stands honest in
    rw (← c.self.view_is) (newest_of g.D.Disk _ k.0 k.1 (ap (λ (s : ShownStore g.row.D.Denot). s.is_broken) c.self.view_is ∙ works))

pub returns-clause-kept : goal.returns-clause-kept
returns-clause-kept g c honest works =
    let k = c.self.invariant.stands honest in
    rw (← c.self.view_is) (events_of g.D.Disk _ k.0 k.1 (ap (λ (s : ShownStore g.row.D.Denot). s.is_broken) c.self.view_is ∙ works))
