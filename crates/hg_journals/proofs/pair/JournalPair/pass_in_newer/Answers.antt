use Rattle.hg_gate.specs.Batches.{base_front}
use Rattle.hg_journals.proofs.Walking.{keeps_passed, more_newer, stays_newer}
use Rattle.hg_journals.proofs.pair.JournalPair.pass_in_newer.Goals as goal

pub returns-clause-passed : goal.returns-clause-passed
returns-clause-passed g c base events seen honest k h =
    let p = c.args.self.now in
    let front = base_front p.newer_base in
    more_newer g.D.Disk p base events k seen h.0 h.1 h.2 h.4 c.pass.new.self c.pass.ensures.disk.state c.pass.new.reader c.pass.result (c.pass.ensures.passed_behind front h.1 honest.1 h.3) (c.pass.ensures.at_end_behind front h.1 honest.1 h.3)

pub returns-clause-stays : goal.returns-clause-stays
returns-clause-stays g c base events seen honest k h =
    let p = c.args.self.now in
    let front = base_front p.newer_base in
    stays_newer g.D.Disk p base events k seen h.0 h.1 h.2 h.4 c.pass.new.self c.pass.ensures.disk.state c.pass.new.reader c.pass.result (c.pass.ensures.damaged_behind front h.1 honest.1 h.3) (c.pass.ensures.again_behind front h.1 honest.1 h.3)

pub returns-clause-keeps : goal.returns-clause-keeps
returns-clause-keeps g c base events seen honest k h =
    let p = c.args.self.now in
    let front = base_front p.newer_base in
    record {
      former = k.former;
      current = k.current;
      older = k.older;
      newer = keeps_passed g.D.Disk front p.newer c.pass.new.self k.current h.1 c.pass.new.reader c.pass.result c.pass.ensures.disk.state k.newer (c.pass.ensures.passed_behind front h.1 honest.1 h.3) (c.pass.ensures.at_end_behind front h.1 honest.1 h.3) (c.pass.ensures.again_behind front h.1 honest.1 h.3);
      whole = k.whole;
      works = k.works;
      begins = k.begins;
      turned_at = k.turned_at;
      ends = k.ends;
    }
