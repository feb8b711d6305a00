use Rattle.std.specs.Global.{Vec}
use Rattle.std.proofs.Common.{◌≡◌, ◌≢◌, ◌+◌, ◌-◌, ◌++◌, ◌∷◌, ℕ, [], List, length, inr, Option, Result, Ok, Err, IfErr, refl, sym, ◌∙◌, subst, arith}
use Rattle.hg_model.specs.declared.event.Named.{Named}
use Rattle.hg_model.specs.declared.verdict.Refusal.{Refusal}
use Rattle.hg_model.specs.declared.verdict.Refusal.TheVariants.{Damaged, OutOfMemory}
use Rattle.hg_journals.specs.Reading.{HasNext, IsAt}
use Rattle.hg_journals.proofs.Collecting.{found_all, found_enough, one_more, reads_ok, reads_on, reads_refused, size_more, unread_pair}
use Rattle.hg_journals.proofs.Walking.{front_read, true_before}
use Rattle.hg_journals.proofs.pair.JournalPair.take.Goals as goal

pub returns-in_err-named-clause-whole : goal.returns-in_err-named-clause-whole
returns-in_err-named-clause-whole g c base events seen honest k h =
    let l = c.loop-left in
    let same : c.from_residual.result ≡ Err c.in_err-named.field-0.0 = grind arith in
    let stayed = c.in_err-named.ensures.stays base events (seen ++ l.found.items) honest (l.invariant.keeps base events k) (l.invariant.read base events seen (true_before g.D.Disk 1 l.self c.next.new.self c.next.result c.next.ensures.reads honest) k h) in
    subst (λ (r : Result (Vec Named) Refusal). IfErr r (λ e. e ≢ Damaged)) (sym same) stayed.0

pub returns-in_err-named-clause-keeps : goal.returns-in_err-named-clause-keeps
returns-in_err-named-clause-keeps g c base events k = c.next.ensures.keeps base events (c.loop-left.invariant.keeps base events k)

pub returns-in_err-named-clause-reads : goal.returns-in_err-named-clause-reads
returns-in_err-named-clause-reads g c =
    let l = c.loop-left in
    let same : c.from_residual.result ≡ Err c.in_err-named.field-0.0 = grind arith in
    reads_refused g.D.Disk _ c.args.self.now c.next.new.self c.in_err-named.field-0.0 c.from_residual.result
    (reads_on g.D.Disk _ 1 _ c.args.self.now l.self c.next.new.self l.left (Err c.in_err-named.field-0.0) (omega (arith, l.invariant.size, c.loop-left-test.true)) l.invariant.reads c.in_err-named.ensures.reads c.requires.works)
    same c.requires.works

pub returns-in_default-clause-found : goal.returns-in_default-clause-found
returns-in_default-clause-found g c base events seen honest k h =
    let l = c.loop-left in
    let read = l.invariant.read base events seen (true_before g.D.Disk 1 l.self c.next.new.self c.next.result c.next.ensures.reads honest) k h in
    let all : seen ++ l.found.items ≡ events =
    subst (λ (found : Option Named). HasNext c.next.new.reader.in_newer c.next.new.self c.next.new.reader.reader events (seen ++ l.found.items) found) c.in_default.is
    (c.in_ok-named.ensures.next base events (seen ++ l.found.items) honest (l.invariant.keeps base events k) read) in
    found_all seen l.found.items events c.args.count all (omega (arith, l.invariant.size))

pub returns-in_default-clause-keeps : goal.returns-in_default-clause-keeps
returns-in_default-clause-keeps g c base events k = c.next.ensures.keeps base events (c.loop-left.invariant.keeps base events k)

pub returns-in_default-clause-reads : goal.returns-in_default-clause-reads
returns-in_default-clause-reads g c =
    let l = c.loop-left in
    let n = length l.found.items in
    reads_ok g.D.Disk (n + 1) _ c.args.self.now c.next.new.self c.in_ok-named.field-0 l.found (omega (arith, l.invariant.size, c.loop-left-test.true))
    (reads_on g.D.Disk n 1 (n + 1) c.args.self.now l.self c.next.new.self l.left (Ok c.in_ok-named.field-0) (omega arith) l.invariant.reads c.in_ok-named.ensures.reads c.requires.works) c.requires.works

pub returns-in_err-push-clause-keeps : goal.returns-in_err-push-clause-keeps
returns-in_err-push-clause-keeps g c base events k = c.next.ensures.keeps base events (c.loop-left.invariant.keeps base events k)

pub returns-in_err-push-clause-reads : goal.returns-in_err-push-clause-reads
returns-in_err-push-clause-reads g c =
    let l = c.loop-left in
    let n = length l.found.items in
    let same : c.from_residual-in_err-push.result ≡ Err OutOfMemory = grind arith in
    let once = reads_on g.D.Disk n 1 (n + 1) c.args.self.now l.self c.next.new.self l.left (Ok c.in_ok-named.field-0) (omega arith) l.invariant.reads c.in_ok-named.ensures.reads c.requires.works in
    let none = unread_pair g.D.Disk {T = ℕ} 0 c.next.new.self (Err OutOfMemory) (inr (inr refl)) refl (c.in_ok-named.ensures.reads.same.broken ∙ l.invariant.works) in
    reads_refused g.D.Disk _ c.args.self.now c.next.new.self OutOfMemory c.from_residual-in_err-push.result
    (reads_on g.D.Disk (n + 1) 0 _ c.args.self.now c.next.new.self c.next.new.self c.in_ok-named.field-0 (Err OutOfMemory) (omega (arith, l.invariant.size, c.loop-left-test.true)) once none c.requires.works) same c.requires.works

pub loop-left-preserved : goal.loop-left-preserved
loop-left-preserved g c =
    let l = c.loop-left in
    let n = length l.found.items in
    let size : length c.push.new.self.items ≡ n + 1 = size_more l.found.items c.push.new.self.items c.in-Some.named c.in_ok-push.ensures.items in
    record {
      works = c.in_ok-named.ensures.reads.same.broken ∙ l.invariant.works;
      size = omega (arith, size, l.invariant.size, c.loop-left-test.true);
      reads = reads_ok g.D.Disk (n + 1) _ c.args.self.now c.next.new.self c.in_ok-named.field-0 (l.left - 1) (omega (arith, size))
          (reads_on g.D.Disk n 1 (n + 1) c.args.self.now l.self c.next.new.self l.left (Ok c.in_ok-named.field-0) (omega arith) l.invariant.reads c.in_ok-named.ensures.reads c.requires.works) c.requires.works;
      keeps = λ base events k. c.next.ensures.keeps base events (l.invariant.keeps base events k);
      read = λ base events seen honest k h.
          let more : IsAt c.next.new.self c.next.new.reader ((seen ++ l.found.items) ++ c.in-Some.named ∷ []) =
          subst (λ (found : Option Named). HasNext c.next.new.reader.in_newer c.next.new.self c.next.new.reader.reader events (seen ++ l.found.items) found) c.in-Some.is
          (c.in_ok-named.ensures.next base events (seen ++ l.found.items) honest (l.invariant.keeps base events k) (l.invariant.read base events seen (true_before g.D.Disk 1 l.self c.next.new.self c.next.result c.next.ensures.reads honest) k h)) in
          subst (λ (xs : List Named). IsAt c.next.new.self c.next.new.reader xs) (one_more seen l.found.items c.push.new.self.items c.in-Some.named c.in_ok-push.ensures.items) more;
      older = λ in_newer.
          let before = l.invariant.older in_newer in
          let after = c.in_ok-named.ensures.older before.1 in
          (after.0 ∙ before.0, after.1);
    }

pub returns-clause-found : goal.returns-clause-found
returns-clause-found g c base events seen honest k h =
    let l = c.loop-left in
    let read = l.invariant.read base events seen honest k h in
    let left = front_read g.D.Disk l.self base events (l.invariant.keeps base events k) l.reader.in_newer l.reader.reader (seen ++ l.found.items) read in
    found_enough seen l.found.items left.0 events c.args.count left.1 (omega (arith, l.invariant.size, c.loop-left-test.false))
