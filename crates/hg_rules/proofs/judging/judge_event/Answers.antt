use Rattle.std.proofs.Common.{sym, ap, ◌∙◌}
use Rattle.hg_model.specs.declared.event.Event.{Event}
use Rattle.hg_model.specs.declared.event.Named.{Named}
use Rattle.hg_model.specs.declared.verdict.Verdict.{Verdict}
use Rattle.hg_model.specs.Verdicts.{Standing, causes, first_cause, standing}
use Rattle.hg_rules.proofs.judging.judge_event.Goals as goal

-- the first cause against an event, in the place of the one that stands there
abbrev first_of : Standing → Named → Event → Verdict
first_of s n e = first_cause (causes s (record n { event = e }))

pub returns-in-Fork : goal.returns-in-Fork
returns-in-Fork c = let n = c.args.named.now in c.judge_fork.ensures n.number ∙ ap (first_of (standing c.args.state.now) n) (sym c.in-Fork.is)

pub returns-in-Join : goal.returns-in-Join
returns-in-Join c = let n = c.args.named.now in c.judge_join.ensures n.number ∙ ap (first_of (standing c.args.state.now) n) (sym c.in-Join.is)

pub returns-in-Lock : goal.returns-in-Lock
returns-in-Lock c = let n = c.args.named.now in c.judge_lock.ensures n.number ∙ ap (first_of (standing c.args.state.now) n) (sym c.in-Lock.is)

pub returns-in-RdLock : goal.returns-in-RdLock
returns-in-RdLock c = let n = c.args.named.now in c.judge_read_lock.ensures n.number ∙ ap (first_of (standing c.args.state.now) n) (sym c.in-RdLock.is)

pub returns-in-Unlock : goal.returns-in-Unlock
returns-in-Unlock c = let n = c.args.named.now in c.judge_unlock.ensures n.number ∙ ap (first_of (standing c.args.state.now) n) (sym c.in-Unlock.is)

pub returns-in-Read : goal.returns-in-Read
returns-in-Read c = let n = c.args.named.now in c.judge_access.ensures.read n.number ∙ ap (first_of (standing c.args.state.now) n) (sym c.in-Read.is)

pub returns-in-Write : goal.returns-in-Write
returns-in-Write c = let n = c.args.named.now in c.judge_access-in-Write.ensures.write n.number ∙ ap (first_of (standing c.args.state.now) n) (sym c.in-Write.is)

pub returns-in-Alloc : goal.returns-in-Alloc
returns-in-Alloc c = let n = c.args.named.now in c.judge_block.ensures.alloc n.number ∙ ap (first_of (standing c.args.state.now) n) (sym c.in-Alloc.is)

pub returns-in-Free : goal.returns-in-Free
returns-in-Free c = let n = c.args.named.now in c.judge_block-in-Free.ensures.free n.number ∙ ap (first_of (standing c.args.state.now) n) (sym c.in-Free.is)

pub returns-in-Send : goal.returns-in-Send
returns-in-Send c = let n = c.args.named.now in c.judge_send.ensures n.number ∙ ap (first_of (standing c.args.state.now) n) (sym c.in-Send.is)

pub returns-in-Recv : goal.returns-in-Recv
returns-in-Recv c = let n = c.args.named.now in c.judge_recv.ensures n.number ∙ ap (first_of (standing c.args.state.now) n) (sym c.in-Recv.is)
