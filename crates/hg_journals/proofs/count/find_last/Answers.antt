use Rattle.std.proofs.Common.{rules, ◌≡◌, ◌+◌, ◌-◌, ◌++◌, [], length, refl, sym, ◌∙◌, ap, subst, arith}
use Rattle.std.proofs.lemmas.List.{length-append}
use Rattle.hg_disk.specs.State.{DiskState, IsImage}
use Rattle.hg_disk.proofs.Moments.{started}
use Rattle.hg_disk.proofs.Staying.{then}
use Rattle.hg_gate.specs.Batches.{base_front}
use Rattle.hg_gate.specs.declared.based.TheConstants.{MAX_BASE}
use Rattle.hg_journal.specs.Journal.{IsJournalBehind}
use Rattle.hg_journal.specs.Reading.{disk_of}
use Rattle.hg_journal.proofs.Journaling.{more}
use Rattle.hg_journals.proofs.count.find_last.Goals as goal

pub loop-left-init : goal.loop-left-init
loop-left-init g c =
    let whole : c.saturating_sub-left.result ≡ (MAX_BASE + 1) - c.args.base = search rules in
    record {
      works = c.requires.works;
      state = refl;
      moments = started g.D.Disk (disk_of c.args.journal.now) (IsImage (g.D.Disk.state (disk_of c.args.journal.now))) (λ image is. is);
      failures = refl;
      few = omega (arith, whole);
      calls = omega (arith, whole);
      read = λ honest opens. ([], omega (arith, whole), c.in_ok-reader.ensures.first_behind (base_front c.args.base) opens.0 opens.1);
    }

pub loop-left-preserved : goal.loop-left-preserved
loop-left-preserved g c = record {
  works = search rules;
  state = c.pass.ensures.disk.state ∙ c.loop-left.invariant.state;
  moments = then g.D.Disk (disk_of c.args.journal.now) (disk_of c.loop-left.journal) (disk_of c.pass.new.self) c.loop-left.invariant.moments c.pass.ensures.disk.any_moment;
  failures = search rules;
  few = omega (arith, c.loop-left.invariant.few);
  calls = omega (arith, c.loop-left.invariant.calls, c.pass.ensures.disk.calls, c.in_ok-passed.ensures.few, c.if-passed-eq0.false, c.loop-left.invariant.few);
  read = λ honest opens.
      let read = c.loop-left.invariant.read (c.pass.ensures.disk.any_moment.kept honest) opens in
      let more = c.in_ok-passed.ensures.passed_behind (base_front c.args.base) read.0 honest read.2 (omega (arith, c.if-passed-eq0.false)) in
      (read.0 ++ more.0, (let sum : length (read.0 ++ more.0) + (c.loop-left.left - c.in_ok-passed.passed) ≡ (MAX_BASE + 1) - c.args.base = omega (arith, length-append read.0 more.0, read.1, more.1, c.in_ok-passed.ensures.few) in sum), more.2);
}

pub returns-in_err-passed-clause-damaged : goal.returns-in_err-passed-clause-damaged
returns-in_err-passed-clause-damaged g c honest opens told events is few =
    let read = c.loop-left.invariant.read (c.pass.ensures.disk.any_moment.kept honest) opens in
    c.pass.ensures.damaged_behind (base_front c.args.base) read.0 honest read.2 (search rules) events (subst (λ (s : DiskState). IsJournalBehind (base_front c.args.base) s.contents events) (sym c.loop-left.invariant.state) is)

pub returns-in_err-passed-clause-disk : goal.returns-in_err-passed-clause-disk
returns-in_err-passed-clause-disk g c = record {
  state = c.pass.ensures.disk.state ∙ c.loop-left.invariant.state;
  any_moment = then g.D.Disk (disk_of c.args.journal.now) (disk_of c.loop-left.journal) (disk_of c.pass.new.self) c.loop-left.invariant.moments c.pass.ensures.disk.any_moment;
  calls = omega (arith, c.loop-left.invariant.calls, c.pass.ensures.disk.calls);
}

pub returns-then-passed-eq0-clause-disk : goal.returns-then-passed-eq0-clause-disk
returns-then-passed-eq0-clause-disk g c = record {
  state = c.pass.ensures.disk.state ∙ c.loop-left.invariant.state;
  any_moment = then g.D.Disk (disk_of c.args.journal.now) (disk_of c.loop-left.journal) (disk_of c.pass.new.self) c.loop-left.invariant.moments c.pass.ensures.disk.any_moment;
  calls = omega (arith, c.loop-left.invariant.calls, c.pass.ensures.disk.calls);
}

pub returns-clause-damaged : goal.returns-clause-damaged
returns-clause-damaged g c honest opens told events is few =
    let read = c.loop-left.invariant.read honest opens in
    let now = subst (λ (s : DiskState). IsJournalBehind (base_front c.args.base) s.contents events) (sym c.loop-left.invariant.state) is in
    let left = more g.D.Disk (base_front c.args.base) c.loop-left.journal c.loop-left.reader read.0 read.2 events now in
    let sum = ap length left.1 ∙ length-append read.0 left.0 in
    absurd (omega (arith, few, sum, read.1, c.loop-left-test.false))
