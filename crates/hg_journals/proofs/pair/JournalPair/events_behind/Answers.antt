use Rattle.std.proofs.Common.{rules, ◌≡◌, ◌+◌, ◌-◌, ◌++◌, false, List, length, inl, inr, Ok, Err, refl, ◌∙◌, ap, arith, length-append}
use Rattle.hg_model.specs.declared.verdict.Refusal.TheVariants.{Damaged}
use Rattle.hg_model.specs.declared.event.Named.{Named}
use Rattle.hg_journals.specs.Reading.{IsAt}
use Rattle.hg_journals.proofs.Collecting.{no_more, reads_ok, reads_on, reads_refused, some_more, unread_pair}
use Rattle.hg_journals.proofs.Walking.{true_before}
use Rattle.hg_journals.proofs.pair.JournalPair.events_behind.Goals as goal

pub loop-left-init : goal.loop-left-init
loop-left-init g c = record {
  works = c.if-self.false;
  few = c.in_ok-reader.ensures.few;
  reads = unread_pair g.D.Disk _ c.args.self.now (Ok c.in_ok-reader.left) tt refl c.if-self.false;
  read = λ base events honest k. let begun = c.in_ok-reader.ensures.first base events k in (k, begun.0, begun.1, begun.2);
  older = λ late. (refl, c.in_ok-reader.ensures.newer late);
}

pub returns-in_err-passed-clause-damaged : goal.returns-in_err-passed-clause-damaged
returns-in_err-passed-clause-damaged g c base events honest k told =
    let l = c.loop-left in
    let read = l.invariant.read base events (true_before g.D.Disk 1 c.loop-left.self c.pass.new.self c.pass.result c.pass.ensures.reads honest) k in
    let same : c.from_residual-in_err-passed.result ≡ Err c.in_err-passed.field-0.0 = grind arith in
    let is : c.in_err-passed.field-0.0 ≡ Damaged = cc in
    absurd ((c.in_err-passed.ensures.stays base events read.1 honest read.0 read.3).0 is)

pub returns-in_err-passed-clause-keeps : goal.returns-in_err-passed-clause-keeps
returns-in_err-passed-clause-keeps g c base events honest k =
    let read = c.loop-left.invariant.read base events (true_before g.D.Disk 1 c.loop-left.self c.pass.new.self c.pass.result c.pass.ensures.reads honest) k in
    c.in_err-passed.ensures.keeps base events read.1 honest read.0 read.3

pub returns-in_err-passed-clause-reads : goal.returns-in_err-passed-clause-reads
returns-in_err-passed-clause-reads g c =
    let l = c.loop-left in
    let same : c.from_residual-in_err-passed.result ≡ Err c.in_err-passed.field-0.0 = grind arith in
    reads_refused g.D.Disk _ c.args.self.now c.pass.new.self c.in_err-passed.field-0.0 c.from_residual-in_err-passed.result
    (reads_on g.D.Disk _ 1 _ c.args.self.now l.self c.pass.new.self l.left (Err c.in_err-passed.field-0.0) (omega (arith, l.invariant.few, c.loop-left-test.true)) l.invariant.reads c.in_err-passed.ensures.reads c.if-self.false)
    same c.if-self.false

pub returns-then-passed-eq0-clause-damaged : goal.returns-then-passed-eq0-clause-damaged
returns-then-passed-eq0-clause-damaged g c base events honest k told =
    let l = c.loop-left in
    let read = l.invariant.read base events (true_before g.D.Disk 1 c.loop-left.self c.pass.new.self c.pass.result c.pass.ensures.reads honest) k in
    let all = no_more c.in_ok-passed.passed (read.1 ≡ events) (λ (more : List Named). IsAt c.pass.new.self c.pass.new.reader (read.1 ++ more)) c.if-passed-eq0.true (c.in_ok-passed.ensures.passed base events read.1 honest read.0 read.3) in
    inr (omega (arith, read.2, ap length all, k.ends, c.loop-left-test.true))

pub returns-then-passed-eq0-clause-reads : goal.returns-then-passed-eq0-clause-reads
returns-then-passed-eq0-clause-reads g c =
    let l = c.loop-left in
    let works : c.pass.new.self.is_broken ≡ false = search rules in
    let once = reads_on g.D.Disk _ 1 (c.args.count - c.args.self.now.base) c.args.self.now l.self c.pass.new.self l.left (Ok c.in_ok-passed.passed) (omega (arith, l.invariant.few, c.loop-left-test.true)) l.invariant.reads c.in_ok-passed.ensures.reads c.if-self.false in
    reads_on g.D.Disk _ 0 _ c.args.self.now c.pass.new.self c.pass.new.self c.in_ok-passed.passed (Err Damaged) (omega arith) once (unread_pair g.D.Disk 0 c.pass.new.self (Err Damaged) (inl refl) refl works) c.if-self.false

pub loop-left-preserved : goal.loop-left-preserved
loop-left-preserved g c =
    let l = c.loop-left in
    record {
      works = c.in_ok-passed.ensures.reads.same.broken ∙ l.invariant.works;
      few = omega (arith, l.invariant.few);
      reads = reads_ok g.D.Disk _ _ c.args.self.now c.pass.new.self c.in_ok-passed.passed (c.loop-left.left - c.in_ok-passed.passed) (omega (arith, l.invariant.few, c.if-passed-eq0.false, c.in_ok-passed.ensures.few))
          (reads_on g.D.Disk _ 1 (c.args.count - c.args.self.now.base - l.left + 1) c.args.self.now l.self c.pass.new.self l.left (Ok c.in_ok-passed.passed) (omega arith) l.invariant.reads c.in_ok-passed.ensures.reads c.if-self.false) c.if-self.false;
      read = λ base events honest k.
          let read = l.invariant.read base events (true_before g.D.Disk 1 c.loop-left.self c.pass.new.self c.pass.result c.pass.ensures.reads honest) k in
          let more = some_more c.in_ok-passed.passed (read.1 ≡ events) (λ (more : List Named). IsAt c.pass.new.self c.pass.new.reader (read.1 ++ more)) c.if-passed-eq0.false (c.in_ok-passed.ensures.passed base events read.1 honest read.0 read.3) in
          (c.in_ok-passed.ensures.keeps base events read.1 honest read.0 read.3, read.1 ++ more.0, omega (arith, length-append read.1 more.0, read.2, more.1, c.in_ok-passed.ensures.few), more.2);
      older = λ late.
          let before = l.invariant.older late in
          let after = c.in_ok-passed.ensures.older before.1 in
          (after.0 ∙ before.0, after.1);
    }

pub returns-clause-first : goal.returns-clause-first
returns-clause-first g c base events honest k =
    let read = c.loop-left.invariant.read base events honest k in
    (read.1, omega (arith, read.2, c.loop-left-test.false), read.3)

pub returns-clause-keeps : goal.returns-clause-keeps
returns-clause-keeps g c base events honest k = (c.loop-left.invariant.read base events honest k).0
