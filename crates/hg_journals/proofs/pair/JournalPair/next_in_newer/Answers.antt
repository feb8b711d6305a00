use Rattle.std.proofs.Common.{}
use Rattle.hg_gate.specs.Batches.{base_front}
use Rattle.hg_journals.proofs.Walking.{next_newer, stays_newer}
use Rattle.hg_journals.proofs.pair.JournalPair.next_in_newer.Goals as goal

pub returns-clause-next : goal.returns-clause-next
returns-clause-next g c base events seen honest k h =
    let p = c.args.self.now in
    next_newer g.D.Disk p base events k seen h.0 h.1 h.2 h.4 c.next.new.self c.next.ensures.disk.state c.next.new.reader c.next.result (c.next.ensures.next_behind (base_front p.newer_base) h.1 honest.1 h.3)

pub returns-clause-stays : goal.returns-clause-stays
returns-clause-stays g c base events seen honest k h =
    let p = c.args.self.now in
    stays_newer g.D.Disk p base events k seen h.0 h.1 h.2 h.4 c.next.new.self c.next.ensures.disk.state c.next.new.reader c.next.result (c.next.ensures.damaged_behind (base_front p.newer_base) h.1 honest.1 h.3) (c.next.ensures.again_behind (base_front p.newer_base) h.1 honest.1 h.3)
