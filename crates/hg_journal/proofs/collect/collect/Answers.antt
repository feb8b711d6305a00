use Rattle.std.proofs.Common.{rules, inl, inr, ◌++◌, ◌∷◌, [], List, length, ◌∙◌, ap, arith}
use Rattle.std.proofs.lemmas.List.{length-append}
use Rattle.hg_model.specs.declared.event.Named.{Named}
use Rattle.hg_gate.specs.Batches.{header}
use Rattle.hg_journal.specs.Reading.{disk_of}
use Rattle.hg_journal.proofs.Collecting.{at_last, found_more, passed_more, stopped, unless_damaged}
use Rattle.hg_journal.proofs.Journaling.{bytes_now}
use Rattle.hg_disk.proofs.Staying.{then}
use Rattle.hg_journal.proofs.collect.collect.Goals as goal

pub returns-clause-events : goal.returns-clause-events
returns-clause-events g c events honest keeps size =
    let l = c.loop-number in
    stopped g.D.Disk l.journal events (l.invariant.keeps events keeps) c.args.count c.args.from c.args.max size l.reader l.number l.found.items (l.invariant.read events honest keeps) l.invariant.within l.invariant.few (inl (search rules))

pub returns-then-len-max-clause-events : goal.returns-then-len-max-clause-events
returns-then-len-max-clause-events g c events honest keeps size =
    let l = c.loop-number in
    stopped g.D.Disk l.journal events (l.invariant.keeps events keeps) c.args.count c.args.from c.args.max size l.reader l.number l.found.items (l.invariant.read events honest keeps) l.invariant.within l.invariant.few (inr (search rules))

pub returns-in_err-next-clause-whole : goal.returns-in_err-next-clause-whole
returns-in_err-next-clause-whole g c events honest keeps =
    let l = c.loop-number in
    let read = l.invariant.read events (c.next.ensures.disk.any_moment.kept honest) keeps in
    unless_damaged c.from_residual-in_err-next.result
    (λ told. c.next.ensures.damaged read.seen honest read.at (grind arith) events (bytes_now g.D.Disk header l.journal events (l.invariant.keeps events keeps)))

pub returns-in_err-next-clause-disk : goal.returns-in_err-next-clause-disk
returns-in_err-next-clause-disk g c =
    let l = c.loop-number in
    record {
      state = c.next.ensures.disk.state ∙ l.invariant.state;
      any_moment = then g.D.Disk (disk_of c.args.journal.now) (disk_of l.journal) (disk_of c.next.new.self) l.invariant.moments c.next.ensures.disk.any_moment;
      calls = omega (arith, c.next.ensures.disk.calls, l.invariant.calls, c.loop-number-test.true);
    }

pub returns-in-None-clause-disk : goal.returns-in-None-clause-disk
returns-in-None-clause-disk g c =
    let l = c.loop-number in
    record {
      state = c.next.ensures.disk.state ∙ l.invariant.state;
      any_moment = then g.D.Disk (disk_of c.args.journal.now) (disk_of l.journal) (disk_of c.next.new.self) l.invariant.moments c.next.ensures.disk.any_moment;
      calls = omega (arith, c.next.ensures.disk.calls, l.invariant.calls, c.loop-number-test.true);
    }

pub returns-in_err-note-in-Some-clause-disk : goal.returns-in_err-note-in-Some-clause-disk
returns-in_err-note-in-Some-clause-disk g c =
    let l = c.loop-number in
    record {
      state = c.next.ensures.disk.state ∙ l.invariant.state;
      any_moment = then g.D.Disk (disk_of c.args.journal.now) (disk_of l.journal) (disk_of c.next.new.self) l.invariant.moments c.next.ensures.disk.any_moment;
      calls = omega (arith, c.next.ensures.disk.calls, l.invariant.calls, c.loop-number-test.true);
    }

pub returns-in-None-clause-events : goal.returns-in-None-clause-events
returns-in-None-clause-events g c events honest keeps size =
    let l = c.loop-number in
    let read = l.invariant.read events (c.next.ensures.disk.any_moment.kept honest) keeps in
    at_last g.D.Disk l.journal events (l.invariant.keeps events keeps) c.args.count c.args.from c.args.max size c.next.new.self read.seen l.found.items
    (rw c.in-None.is at (c.in_ok-next.ensures.next read.seen honest read.at)) (c.next.ensures.keeps events (l.invariant.keeps events keeps)) read.has l.invariant.few

pub loop-number-preserved : goal.loop-number-preserved
loop-number-preserved g c =
    let l = c.loop-number in
    record {
      works = search rules;
      state = c.next.ensures.disk.state ∙ l.invariant.state;
      moments = then g.D.Disk (disk_of c.args.journal.now) (disk_of l.journal) (disk_of c.next.new.self) l.invariant.moments c.next.ensures.disk.any_moment;
      calls = let one = c.next.ensures.disk.calls in let before = l.invariant.calls in omega (arith, one, before);
      failures = search rules;
      keeps = λ events keeps. c.next.ensures.keeps events (l.invariant.keeps events keeps);
      within = search rules;
      few = search rules;
      read = λ events honest keeps.
          let read = l.invariant.read events (c.next.ensures.disk.any_moment.kept honest) keeps in
          record {
            seen = read.seen ++ c.in-Some.named ∷ [];
            at = rw c.in-Some.is at (c.in_ok-next.ensures.next read.seen honest read.at);
            count = omega (arith, length-append read.seen (c.in-Some.named ∷ []), read.count);
            has = passed_more read.seen c.in-Some.named l.number c.args.from l.found.items read.count (search rules) read.has;
          };
    }

pub loop-number-preserved-in-Continue-branch-4 : goal.loop-number-preserved-in-Continue-branch-4
loop-number-preserved-in-Continue-branch-4 g c =
    let l = c.loop-number in
    record {
      works = search rules;
      state = c.next.ensures.disk.state ∙ l.invariant.state;
      moments = then g.D.Disk (disk_of c.args.journal.now) (disk_of l.journal) (disk_of c.next.new.self) l.invariant.moments c.next.ensures.disk.any_moment;
      calls = let one = c.next.ensures.disk.calls in let before = l.invariant.calls in omega (arith, one, before);
      failures = search rules;
      keeps = λ events keeps. c.next.ensures.keeps events (l.invariant.keeps events keeps);
      within = search rules;
      few = omega (arith, ap (λ (xs : List Named). length xs) c.in_ok-note-in-Some.ensures.items, length-append l.found.items (c.in-Some.named ∷ []), c.if-len-max.false, c.len.ensures);
      read = λ events honest keeps.
          let read = l.invariant.read events (c.next.ensures.disk.any_moment.kept honest) keeps in
          record {
            seen = read.seen ++ c.in-Some.named ∷ [];
            at = rw c.in-Some.is at (c.in_ok-next.ensures.next read.seen honest read.at);
            count = omega (arith, length-append read.seen (c.in-Some.named ∷ []), read.count);
            has = c.in_ok-note-in-Some.ensures.items ∙ found_more read.seen c.in-Some.named l.number c.args.from l.found.items read.count (search rules) read.has;
          };
    }
