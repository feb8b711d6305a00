use Rattle.std.proofs.Common.{◌≡◌, ◌≤◌, ◌++◌, Bool, inr, Err, IfOk, IfErr, ap, subst, sym, arith}
use Rattle.hg_gate.specs.Batches.{base_front}
use Rattle.hg_journals.specs.Pairs.{Keeps}
use Rattle.hg_journals.specs.Reading.{HasMore, HasStayed, Where}
use Rattle.hg_journals.proofs.Walking.{former_passed, in_older, no_damage, older_true, read_whole, was_older}
use Rattle.hg_journals.proofs.pair.JournalPair.pass.Goals as goal

pub returns-then-reader-clause-passed : goal.returns-then-reader-clause-passed
returns-then-reader-clause-passed g c =
    let r = c.args.reader.now in
    subst (λ (b : Bool). Where b c.args.self.now r.reader c.pass_in_newer.new.self (λ base events seen. IfOk c.pass_in_newer.result (HasMore b c.pass_in_newer.new.self c.pass_in_newer.new.reader events seen))) (sym c.if-reader.true) c.pass_in_newer.ensures.passed

pub returns-then-reader-clause-stays : goal.returns-then-reader-clause-stays
returns-then-reader-clause-stays g c =
    let r = c.args.reader.now in
    subst (λ (b : Bool). Where b c.args.self.now r.reader c.pass_in_newer.new.self (λ base events seen. IfErr c.pass_in_newer.result (HasStayed b c.pass_in_newer.new.self c.pass_in_newer.new.reader seen))) (sym c.if-reader.true) c.pass_in_newer.ensures.stays

pub returns-then-reader-clause-keeps : goal.returns-then-reader-clause-keeps
returns-then-reader-clause-keeps g c =
    let r = c.args.reader.now in
    subst (λ (b : Bool). Where b c.args.self.now r.reader c.pass_in_newer.new.self (λ base events seen. Keeps c.pass_in_newer.new.self base events)) (sym c.if-reader.true) c.pass_in_newer.ensures.keeps

pub returns-in-Err-clause-stays : goal.returns-in-Err-clause-stays
returns-in-Err-clause-stays g c base events seen honest k h =
    let p = c.args.self.now in
    let was = was_older g.D.Disk c.args.reader.now.in_newer c.if-reader.false p c.args.reader.now.reader seen h in
    let front = base_front p.base in (
      λ told. no_damage g.D.Disk p base events k was.0 (c.in-Err.ensures.damaged_behind front seen honest.0 was.1 (ap (λ r. Err r) told)),
      in_older g.D.Disk c.args.reader.now.in_newer c.if-reader.false _ c.pass.new.reader seen was.0 (c.in-Err.ensures.again_behind front seen honest.0 was.1),
    )

pub returns-in-Err-clause-keeps : goal.returns-in-Err-clause-keeps
returns-in-Err-clause-keeps g c base events seen honest k h =
    let p = c.args.self.now in
    let was = was_older g.D.Disk c.args.reader.now.in_newer c.if-reader.false p c.args.reader.now.reader seen h in
    let front = base_front p.base in
    let former =
    former_passed g.D.Disk p base events k c.pass.new.self c.pass.result c.pass.new.reader seen was.0 c.pass.ensures.disk.state (c.pass.ensures.passed_behind front seen honest.0 was.1) (c.pass.ensures.at_end_behind front seen honest.0 was.1)
    (c.pass.ensures.again_behind front seen honest.0 was.1) in
    record {
      former = k.former;
      current = k.current;
      older = former;
      newer = k.newer;
      whole = k.whole;
      works = k.works;
      begins = k.begins;
      turned_at = k.turned_at;
      ends = k.ends;
    }

pub returns-then-count-gt0-clause-passed : goal.returns-then-count-gt0-clause-passed
returns-then-count-gt0-clause-passed g c base events seen honest k h =
    let p = c.args.self.now in
    let was = was_older g.D.Disk c.args.reader.now.in_newer c.if-reader.false p c.args.reader.now.reader seen h in
    let front = base_front p.base in
    let some : 1 ≤ c.in-Ok.count = omega (arith, c.if-count-gt0.true) in
    let more = c.in-Ok.ensures.passed_behind front seen honest.0 was.1 some in
    inr (some, more.0, more.1, in_older g.D.Disk c.args.reader.now.in_newer c.if-reader.false _ c.pass.new.reader (seen ++ more.0) was.0 more.2)

pub returns-then-count-gt0-clause-keeps : goal.returns-then-count-gt0-clause-keeps
returns-then-count-gt0-clause-keeps g c base events seen honest k h =
    let p = c.args.self.now in
    let was = was_older g.D.Disk c.args.reader.now.in_newer c.if-reader.false p c.args.reader.now.reader seen h in
    let front = base_front p.base in
    let former =
    former_passed g.D.Disk p base events k c.pass.new.self c.pass.result c.pass.new.reader seen was.0 c.pass.ensures.disk.state (c.pass.ensures.passed_behind front seen honest.0 was.1) (c.pass.ensures.at_end_behind front seen honest.0 was.1)
    (c.pass.ensures.again_behind front seen honest.0 was.1) in
    record {
      former = k.former;
      current = k.current;
      older = former;
      newer = k.newer;
      whole = k.whole;
      works = k.works;
      begins = k.begins;
      turned_at = k.turned_at;
      ends = k.ends;
    }

pub returns-clause-passed : goal.returns-clause-passed
returns-clause-passed g c base events seen honest k h =
    let p = c.args.self.now in
    let was = was_older g.D.Disk c.args.reader.now.in_newer c.if-reader.false p c.args.reader.now.reader seen h in
    let front = base_front p.base in
    let former =
    former_passed g.D.Disk p base events k c.pass.new.self c.pass.result c.pass.new.reader seen was.0 c.pass.ensures.disk.state (c.pass.ensures.passed_behind front seen (older_true g.D.Disk c.pass.new.self c.pass_behind.new.self c.pass_behind.ensures.reads.other honest) was.1) (c.pass.ensures.at_end_behind front seen (older_true g.D.Disk c.pass.new.self c.pass_behind.new.self c.pass_behind.ensures.reads.other honest) was.1)
    (c.pass.ensures.again_behind front seen (older_true g.D.Disk c.pass.new.self c.pass_behind.new.self c.pass_behind.ensures.reads.other honest) was.1) in
    let none : c.in-Ok.count ≡ 0 = omega (arith, c.if-count-gt0.false) in
    let all = c.in-Ok.ensures.at_end_behind front seen (older_true g.D.Disk c.pass.new.self c.pass_behind.new.self c.pass_behind.ensures.reads.other honest) was.1 none in
    c.pass_behind.ensures.passed base events seen honest
    (record {
      former = k.former;
      current = k.current;
      older = former;
      newer = k.newer;
      whole = k.whole;
      works = k.works;
      begins = k.begins;
      turned_at = k.turned_at;
      ends = k.ends;
    })
    (read_whole g.D.Disk p base events k c.pass.new.self seen was.0 c.pass.ensures.disk.state all)

pub returns-clause-stays : goal.returns-clause-stays
returns-clause-stays g c base events seen honest k h =
    let p = c.args.self.now in
    let was = was_older g.D.Disk c.args.reader.now.in_newer c.if-reader.false p c.args.reader.now.reader seen h in
    let front = base_front p.base in
    let former =
    former_passed g.D.Disk p base events k c.pass.new.self c.pass.result c.pass.new.reader seen was.0 c.pass.ensures.disk.state (c.pass.ensures.passed_behind front seen (older_true g.D.Disk c.pass.new.self c.pass_behind.new.self c.pass_behind.ensures.reads.other honest) was.1) (c.pass.ensures.at_end_behind front seen (older_true g.D.Disk c.pass.new.self c.pass_behind.new.self c.pass_behind.ensures.reads.other honest) was.1)
    (c.pass.ensures.again_behind front seen (older_true g.D.Disk c.pass.new.self c.pass_behind.new.self c.pass_behind.ensures.reads.other honest) was.1) in
    let none : c.in-Ok.count ≡ 0 = omega (arith, c.if-count-gt0.false) in
    let all = c.in-Ok.ensures.at_end_behind front seen (older_true g.D.Disk c.pass.new.self c.pass_behind.new.self c.pass_behind.ensures.reads.other honest) was.1 none in
    c.pass_behind.ensures.stays base events seen honest
    (record {
      former = k.former;
      current = k.current;
      older = former;
      newer = k.newer;
      whole = k.whole;
      works = k.works;
      begins = k.begins;
      turned_at = k.turned_at;
      ends = k.ends;
    })
    (read_whole g.D.Disk p base events k c.pass.new.self seen was.0 c.pass.ensures.disk.state all)

pub returns-clause-keeps : goal.returns-clause-keeps
returns-clause-keeps g c base events seen honest k h =
    let p = c.args.self.now in
    let was = was_older g.D.Disk c.args.reader.now.in_newer c.if-reader.false p c.args.reader.now.reader seen h in
    let front = base_front p.base in
    let former =
    former_passed g.D.Disk p base events k c.pass.new.self c.pass.result c.pass.new.reader seen was.0 c.pass.ensures.disk.state (c.pass.ensures.passed_behind front seen (older_true g.D.Disk c.pass.new.self c.pass_behind.new.self c.pass_behind.ensures.reads.other honest) was.1) (c.pass.ensures.at_end_behind front seen (older_true g.D.Disk c.pass.new.self c.pass_behind.new.self c.pass_behind.ensures.reads.other honest) was.1)
    (c.pass.ensures.again_behind front seen (older_true g.D.Disk c.pass.new.self c.pass_behind.new.self c.pass_behind.ensures.reads.other honest) was.1) in
    let none : c.in-Ok.count ≡ 0 = omega (arith, c.if-count-gt0.false) in
    let all = c.in-Ok.ensures.at_end_behind front seen (older_true g.D.Disk c.pass.new.self c.pass_behind.new.self c.pass_behind.ensures.reads.other honest) was.1 none in
    c.pass_behind.ensures.keeps base events seen honest
    (record {
      former = k.former;
      current = k.current;
      older = former;
      newer = k.newer;
      whole = k.whole;
      works = k.works;
      begins = k.begins;
      turned_at = k.turned_at;
      ends = k.ends;
    })
    (read_whole g.D.Disk p base events k c.pass.new.self seen was.0 c.pass.ensures.disk.state all)
