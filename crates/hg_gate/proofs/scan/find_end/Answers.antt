use Rattle.std.proofs.Common.{◌≡◌, ◌-◌, ◌∙◌, ℕ, List, [], Bool, refl, MatchBool, Ok, Err, true, false, sym, length, drop, subst, ap, arith}
use Rattle.hg_disk.specs.Calls.{CallsAtMost}
use Rattle.hg_disk.specs.State.{DiskState, IsImage}
use Rattle.hg_disk.proofs.Moments.{started}
use Rattle.hg_gate.specs.declared.fault.GateFault.TheVariants.{Damaged}
use Rattle.hg_gate.specs.declared.reader.LogReader.{LogReader}
use Rattle.hg_gate.specs.Batches.{IsClosed}
use Rattle.hg_gate.specs.Scan.{EndsAt, IsTail, Walked}
use Rattle.hg_gate.specs.Turning.{EndsWithin, HasAhead, PassesBatch, ahead_of}
use Rattle.hg_gate.proofs.Turning.{none_of_it}
use Rattle.hg_gate.proofs.Walking.{ends, few_walked, read_on, walk_on, walk_counts, no_tail}
use Rattle.hg_gate.proofs.scan.find_end.Goals as goal

pub loop-reader-init : goal.loop-reader-init
loop-reader-init g c =
    let bytes = drop c.args.begins (g.D.Disk.state c.args.disk.now).contents in
    let begins = c.new-reader.ensures.begins in
    let none : length (ahead_of c.new-reader.result) ≡ 0 = ap length c.new-reader.ensures.unread in
    record {
      within = omega (arith, begins, none);
      calls = omega arith;
      counted = λ honest. (record { bodies = []; place = begins; first = sym (ap (λ (n : ℕ). drop n bytes) begins); each = tt }, omega arith);
      ahead = λ honest. none_of_it bytes c.new-reader.result c.new-reader.ensures.unread;
      state = refl;
      failures = refl;
      any_moment = started g.D.Disk c.args.disk.now (IsImage (g.D.Disk.state c.args.disk.now)) (λ image is. is);
    }

pub go_on-requires-clause-within : goal.go_on-requires-clause-within
go_on-requires-clause-within g c = omega (arith, c.requires.within, c.loop-reader.invariant.within, ap (λ (s : DiskState). length s.contents) c.loop-reader.invariant.state)

pub go_on-requires-clause-fits : goal.go_on-requires-clause-fits
go_on-requires-clause-fits g c = omega (arith, c.requires.within, c.loop-reader.invariant.within, c.requires.small)

pub returns-in_err-go_on-clause-damaged : goal.returns-in_err-go_on-clause-damaged
returns-in_err-go_on-clause-damaged g c honest is =
    let same : c.in_err-go_on.field-0.0 ≡ Damaged = grind arith in
    let at = c.loop-reader.reader.next in
    no_tail (drop c.args.begins (g.D.Disk.state c.args.disk.now).contents) at (c.loop-reader.invariant.counted (c.go_on.ensures.reads.any_moment.kept honest)).0 (λ bodies tail.
    c.in_err-go_on.ensures.whole honest (λ i. Err (same i)) bodies (subst (λ (s : DiskState). IsTail (drop at (drop c.args.begins s.contents)) bodies) (sym c.loop-reader.invariant.state) tail))

pub returns-in_err-go_on-clause-reads : goal.returns-in_err-go_on-clause-reads
returns-in_err-go_on-clause-reads g c = record {
  state = c.go_on.ensures.reads.state ∙ c.loop-reader.invariant.state;
  any_moment = read_on g.D.Disk c.args.disk.now c.loop-reader.disk c.go_on.new.disk c.loop-reader.invariant.any_moment c.loop-reader.invariant.state c.go_on.ensures.reads.any_moment;
  calls = omega (arith, c.go_on.ensures.reads.calls, c.loop-reader.invariant.calls, c.loop-reader.invariant.within);
}

pub returns-clause-reads : goal.returns-clause-reads
returns-clause-reads g c = record {
  state = c.go_on.ensures.reads.state ∙ c.loop-reader.invariant.state;
  any_moment = read_on g.D.Disk c.args.disk.now c.loop-reader.disk c.go_on.new.disk c.loop-reader.invariant.any_moment c.loop-reader.invariant.state c.go_on.ensures.reads.any_moment;
  calls = omega (arith, c.go_on.ensures.reads.calls, c.loop-reader.invariant.calls, c.loop-reader.invariant.within);
}

pub returns-in_err-go_on-clause-one_a_batch : goal.returns-in_err-go_on-clause-one_a_batch
returns-in_err-go_on-clause-one_a_batch g c honest bodies has =
    let so_far = c.loop-reader.invariant.counted (c.go_on.ensures.reads.any_moment.kept honest) in
    let one = c.go_on.ensures.reads.calls in
    omega (arith, one, so_far.1, few_walked (drop c.args.begins (g.D.Disk.state c.args.disk.now).contents) c.loop-reader.reader.next bodies so_far.0 has)

pub returns-clause-one_a_batch : goal.returns-clause-one_a_batch
returns-clause-one_a_batch g c honest bodies has =
    let so_far = c.loop-reader.invariant.counted (c.go_on.ensures.reads.any_moment.kept honest) in
    let one = c.go_on.ensures.reads.calls in
    omega (arith, one, so_far.1, few_walked (drop c.args.begins (g.D.Disk.state c.args.disk.now).contents) c.loop-reader.reader.next bodies so_far.0 has)

pub returns-clause-found : goal.returns-clause-found
returns-clause-found g c honest =
    let file = drop c.args.begins (g.D.Disk.state c.args.disk.now).contents in
    let old = c.loop-reader.reader in
    let bytes = ap (λ (s : DiskState). drop c.args.begins s.contents) c.loop-reader.invariant.state in
    let told : c.go_on.result ≡ Ok false = grind arith in
    let walks = c.in_ok-go_on.ensures.walks honest (subst (λ (l : List ℕ). HasAhead l old) (sym bytes) (c.loop-reader.invariant.ahead (c.go_on.ensures.reads.any_moment.kept honest))) in
    let closed = subst (λ (more : Bool). MatchBool more (PassesBatch (drop c.args.begins (g.D.Disk.state c.loop-reader.disk).contents) old c.go_on.new.reader)
    (IsClosed (drop old.next (drop c.args.begins (g.D.Disk.state c.loop-reader.disk).contents)))) c.if-branch.false walks in
    subst (λ (r : LogReader). EndsAt file r.next) (sym (c.go_on.ensures.stays told))
    (ends file old.next (c.loop-reader.invariant.counted (c.go_on.ensures.reads.any_moment.kept honest)).0 (subst (λ (l : List ℕ). IsClosed (drop old.next l)) bytes closed))

pub returns-clause-fits : goal.returns-clause-fits
returns-clause-fits g c =
    let told : c.go_on.result ≡ Ok false = grind arith in
    omega (arith, c.requires.within, c.requires.small, c.loop-reader.invariant.within, ap (λ (r : LogReader). r.next) (c.go_on.ensures.stays told))

pub loop-reader-smaller : goal.loop-reader-smaller
loop-reader-smaller g c =
    let told : c.go_on.result ≡ Ok true = grind arith in
    let size = ap (λ (s : DiskState). length s.contents) c.loop-reader.invariant.state in
    let again = ap (λ (s : DiskState). length s.contents) c.go_on.ensures.reads.state in
    let inside : EndsWithin (length (g.D.Disk.state c.loop-reader.disk).contents - c.args.begins) c.loop-reader.reader = omega (arith, c.loop-reader.invariant.within, size) in
    let went = c.go_on.ensures.within inside told in
    omega (arith, went.0, went.1, again)

pub loop-reader-preserved : goal.loop-reader-preserved
loop-reader-preserved g c =
    let file = drop c.args.begins (g.D.Disk.state c.args.disk.now).contents in
    let now = drop c.args.begins (g.D.Disk.state c.loop-reader.disk).contents in
    let old = c.loop-reader.reader in
    let new = c.go_on.new.reader in
    let told : c.go_on.result ≡ Ok true = grind arith in
    let bytes : now ≡ file = ap (λ (s : DiskState). drop c.args.begins s.contents) c.loop-reader.invariant.state in
    let size = ap (λ (s : DiskState). length s.contents) c.loop-reader.invariant.state in
    let inside : EndsWithin (length (g.D.Disk.state c.loop-reader.disk).contents - c.args.begins) c.loop-reader.reader = omega (arith, c.loop-reader.invariant.within, size) in
    let went = c.go_on.ensures.within inside told in
    let one = c.go_on.ensures.reads.calls in
    record {
      within = omega (arith, went.1, size);
      calls = omega (arith, one, c.loop-reader.invariant.calls, went.0);
      counted = λ honest.
          let walks = c.in_ok-go_on.ensures.walks honest (subst (λ (l : List ℕ). HasAhead l old) (sym bytes) (c.loop-reader.invariant.ahead (c.go_on.ensures.reads.any_moment.kept honest))) in
          let passed = subst (λ (l : List ℕ). PassesBatch l old new) bytes
          (subst (λ (more : Bool). MatchBool more (PassesBatch now old new) (IsClosed (drop old.next now))) c.if-branch.true walks) in
          let so_far = c.loop-reader.invariant.counted (c.go_on.ensures.reads.any_moment.kept honest) in
          subst (λ (at : ℕ). (w : Walked file at) × CallsAtMost g.D.Disk (length w.bodies) c.args.disk.now c.go_on.new.disk) (sym passed.place)
          (walk_on file old.next passed.len so_far.0 passed.begins, omega (arith, one, so_far.1, walk_counts file old.next passed.len so_far.0 passed.begins));
      ahead = λ honest.
          let walks = c.in_ok-go_on.ensures.walks honest (subst (λ (l : List ℕ). HasAhead l old) (sym bytes) (c.loop-reader.invariant.ahead (c.go_on.ensures.reads.any_moment.kept honest))) in
          let passed = subst (λ (l : List ℕ). PassesBatch l old new) bytes
          (subst (λ (more : Bool). MatchBool more (PassesBatch now old new) (IsClosed (drop old.next now))) c.if-branch.true walks) in
          passed.ahead;
      state = c.go_on.ensures.reads.state ∙ c.loop-reader.invariant.state;
      failures = c.in_ok-go_on.ensures.device ∙ c.loop-reader.invariant.failures;
      any_moment = read_on g.D.Disk c.args.disk.now c.loop-reader.disk c.go_on.new.disk c.loop-reader.invariant.any_moment c.loop-reader.invariant.state c.go_on.ensures.reads.any_moment;
    }
