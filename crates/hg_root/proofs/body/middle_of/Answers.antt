use Rattle.hg_root.proofs.body.middle_of.Goals as goal

pub returns : goal.returns
returns c = λ segments table. rw c.in_ok-count.ensures (c.threads_of.ensures segments table)
