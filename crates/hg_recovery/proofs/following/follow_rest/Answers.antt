use Rattle.std.proofs.Common.{rules, ◌≡◌, inl, inr, ◌+◌, ◌++◌, ◌∷◌, [], Option, Result, Ok, Err, refl, sym, ◌∙◌, subst, arith}
use Rattle.std.specs.Prelude.{IfErr}
use Rattle.std.proofs.lemmas.Bool.{true≢false}
use Rattle.hg_model.specs.declared.event.Named.{Named}
use Rattle.hg_model.specs.declared.verdict.Refusal.{Refusal}
use Rattle.hg_model.specs.declared.verdict.Refusal.TheVariants as refusal
use Rattle.hg_journals.specs.Pairs.{failures}
use Rattle.hg_journals.specs.Reading.{HasNext, IsAt}
use Rattle.hg_journals.proofs.Walking.{true_of}
use Rattle.hg_pool.specs.OfWords.{went_nowhere, went_on}
use Rattle.hg_recovery.specs.Answers.{IsOfRecovery, failed_in}
use Rattle.hg_recovery.specs.Replaying.{CountsReplay, failures_in}
use Rattle.hg_recovery.proofs.Telling.{of_next, of_reading, reading_asks_none, reading_failed, reading_takes_none}
use Rattle.hg_recovery.proofs.Replaying.{called, content_in, counted, no_content, no_more_than, read_more, read_none, read_on, too_small, unread_pair, was_read}
use Rattle.hg_recovery.proofs.following.follow_rest.Goals as goal

pub loop-number-init : goal.loop-number-init
loop-number-init g c = record {
  files = unread_pair g.D.Disk c.args.journals.now;
  keeps = λ base events k. k;
  lawful = search rules;
  unbroken = search rules;
  faithful = λ f. f;
  went = went_nowhere g.D.Disk c.args.detector.now.words;
  failures = refl;
  read = λ base events seen honest k at faithful. read_none g.D.Disk c.args.journals.now c.args.reader.now seen c.args.detector.now at faithful;
  few = λ f. (omega arith, inl refl);
}

pub returns-in_err-named-clause-damaged : goal.returns-in_err-named-clause-damaged
returns-in_err-named-clause-damaged g c base events seen honest k at faithful told count lawful d lead =
    let l = c.loop-number in
    let read = l.invariant.read base events seen honest k at faithful in
    let same : c.from_residual.result ≡ Err c.in_err-named.field-0.0 = grind arith in
    let is : c.in_err-named.field-0.0 ≡ refusal.Damaged = cc in
    absurd ((c.in_err-named.ensures.stays base events (seen ++ read.since) (true_of g.D.Disk g.met.D.Disk.honest_reads honest c.next.new.self) (l.invariant.keeps base events k) read.at).0 is)

pub returns-in_err-follow-in-Some-clause-damaged : goal.returns-in_err-follow-in-Some-clause-damaged
returns-in_err-follow-in-Some-clause-damaged g c base events seen honest k at faithful told count lawful d lead =
    let l = c.loop-number in
    let read = l.invariant.read base events seen honest k at faithful in
    let kept = l.invariant.keeps base events k in
    let more : IsAt c.next.new.self c.next.new.reader ((seen ++ read.since) ++ c.in-Some.named ∷ []) =
    subst (λ (found : Option Named). HasNext c.next.new.reader.in_newer c.next.new.self c.next.new.reader.reader events (seen ++ read.since) found) c.in-Some.is (c.in_ok-named.ensures.next base events (seen ++ read.since) (true_of g.D.Disk g.met.D.Disk.honest_reads honest c.next.new.self) kept read.at) in
    no_content g.D.Disk l.journals l.reader seen c.args.detector.now l.detector read c.next.new.self c.next.new.reader base events (c.next.ensures.keeps base events kept) c.in-Some.named more
    count (c.follow.ensures.damaged (l.invariant.faithful faithful) (read.lawful lawful) (search rules)) d lead

pub returns-in_err-follow-in-Some-clause-full : goal.returns-in_err-follow-in-Some-clause-full
returns-in_err-follow-in-Some-clause-full g c base events seen honest k at faithful told count =
    let l = c.loop-number in
    let read = l.invariant.read base events seen honest k at faithful in
    let kept = l.invariant.keeps base events k in
    let more : IsAt c.next.new.self c.next.new.reader ((seen ++ read.since) ++ c.in-Some.named ∷ []) =
    subst (λ (found : Option Named). HasNext c.next.new.reader.in_newer c.next.new.self c.next.new.reader.reader events (seen ++ read.since) found) c.in-Some.is (c.in_ok-named.ensures.next base events (seen ++ read.since) (true_of g.D.Disk g.met.D.Disk.honest_reads honest c.next.new.self) kept read.at) in
    let full = c.follow.ensures.full (l.invariant.faithful faithful) (search rules) in
    too_small g.D.Disk l.journals l.reader seen c.args.detector.now l.detector read c.next.new.self c.next.new.reader base events (c.next.ensures.keeps base events kept) c.in-Some.named more count _ full.0 full.1

pub returns-in-None-clause-followed : goal.returns-in-None-clause-followed
returns-in-None-clause-followed g c base events seen honest k at faithful =
    let l = c.loop-number in
    let read = l.invariant.read base events seen honest k at faithful in
    let all : seen ++ read.since ≡ events =
    subst (λ (found : Option Named). HasNext c.next.new.reader.in_newer c.next.new.self c.next.new.reader.reader events (seen ++ read.since) found) c.in-None.is (c.in_ok-named.ensures.next base events (seen ++ read.since) (true_of g.D.Disk g.met.D.Disk.honest_reads honest c.next.new.self) (l.invariant.keeps base events k) read.at) in
    (read.since, all, read.gives, read.fills)

pub returns-in_err-follow-in-Some-clause-went : goal.returns-in_err-follow-in-Some-clause-went
returns-in_err-follow-in-Some-clause-went g c = went_on g.D.Disk c.args.detector.now.words c.loop-number.detector.words c.follow.new.detector.words c.loop-number.invariant.went c.follow.ensures.went

pub returns-in_err-follow-in-Some-clause-slots : goal.returns-in_err-follow-in-Some-clause-slots
returns-in_err-follow-in-Some-clause-slots g c told = c.follow.ensures.slots (search rules)

pub returns-in_err-follow-in-Some-clause-unbroken : goal.returns-in_err-follow-in-Some-clause-unbroken
returns-in_err-follow-in-Some-clause-unbroken g c other = c.follow.ensures.unbroken (λ fault. other (search rules))

pub loop-number-preserved : goal.loop-number-preserved
loop-number-preserved g c =
    let l = c.loop-number in
    let n = l._number in
    let once = read_on g.D.Disk n 1 (n + 1) c.args.journals.now l.journals c.next.new.self (omega arith) l.invariant.files (was_read g.D.Disk 1 1 l.journals c.next.new.self (Ok c.in_ok-named.field-0) (omega arith) c.in_ok-named.ensures.reads) in
    record {
      files = once;
      keeps = λ base events k. c.next.ensures.keeps base events (l.invariant.keeps base events k);
      lawful = search rules;
      unbroken = c.follow.ensures.unbroken (λ fault. absurd (search rules));
      faithful = λ f. c.follow.ensures.faithful (l.invariant.faithful f);
      went = went_on g.D.Disk c.args.detector.now.words l.detector.words c.follow.new.detector.words l.invariant.went c.follow.ensures.went;
      failures = search rules;
      read = λ base events seen honest k at faithful.
          let read = l.invariant.read base events seen honest k at faithful in
          let kept = l.invariant.keeps base events k in
          let was = l.invariant.faithful faithful in
          let more : IsAt c.next.new.self c.next.new.reader ((seen ++ read.since) ++ c.in-Some.named ∷ []) =
          subst (λ (found : Option Named). HasNext c.next.new.reader.in_newer c.next.new.self c.next.new.reader.reader events (seen ++ read.since) found) c.in-Some.is (c.in_ok-named.ensures.next base events (seen ++ read.since) (true_of g.D.Disk g.met.D.Disk.honest_reads honest c.next.new.self) kept read.at) in
          read_more g.D.Disk l.journals l.reader seen c.args.detector.now l.detector read c.next.new.self c.next.new.reader base events (c.next.ensures.keeps base events kept) c.in-Some.named more
          c.follow.new.detector c.in_ok-follow-in-Some.ensures.accepted (c.in_ok-follow-in-Some.ensures.content was) (c.in_ok-follow-in-Some.ensures.asked was) (c.follow.ensures.faithful was);
      few = λ f.
          let was = l.invariant.few f in
          let first = content_in g.D.Disk c.args.detector.now in
          let before = content_in g.D.Disk l.detector in
          let after = content_in g.D.Disk c.follow.new.detector in
          let now : after.events ≡ first.events + (n + 1) =
          counted before after c.in-Some.named first.events n was.0 c.in_ok-follow-in-Some.ensures.accepted (c.in_ok-follow-in-Some.ensures.content (l.invariant.faithful f)) in
          let less = c.in_ok-follow-in-Some.ensures.few in
          (now, inr (omega (arith, now, was.0, less)));
    }

pub returns-in_err-named-clause-keeps : goal.returns-in_err-named-clause-keeps
returns-in_err-named-clause-keeps g c base events k = c.next.ensures.keeps base events (c.loop-number.invariant.keeps base events k)

pub returns-in_err-follow-in-Some-clause-keeps : goal.returns-in_err-follow-in-Some-clause-keeps
returns-in_err-follow-in-Some-clause-keeps g c base events k = c.next.ensures.keeps base events (c.loop-number.invariant.keeps base events k)

pub returns-in-None-clause-keeps : goal.returns-in-None-clause-keeps
returns-in-None-clause-keeps g c base events k = c.next.ensures.keeps base events (c.loop-number.invariant.keeps base events k)

pub returns-in_err-named-clause-files : goal.returns-in_err-named-clause-files
returns-in_err-named-clause-files g c =
    let l = c.loop-number in
    read_on g.D.Disk l._number 1 _ c.args.journals.now l.journals c.next.new.self (omega (arith, c.loop-number-test.true)) l.invariant.files
    (was_read g.D.Disk 1 1 l.journals c.next.new.self (Err c.in_err-named.field-0.0) (omega arith) c.in_err-named.ensures.reads)

pub returns-in_err-follow-in-Some-clause-files : goal.returns-in_err-follow-in-Some-clause-files
returns-in_err-follow-in-Some-clause-files g c =
    let l = c.loop-number in
    read_on g.D.Disk l._number 1 _ c.args.journals.now l.journals c.next.new.self (omega (arith, c.loop-number-test.true)) l.invariant.files
    (was_read g.D.Disk 1 1 l.journals c.next.new.self (Ok c.in_ok-named.field-0) (omega arith) c.in_ok-named.ensures.reads)

pub returns-in-None-clause-files : goal.returns-in-None-clause-files
returns-in-None-clause-files g c =
    let l = c.loop-number in
    read_on g.D.Disk l._number 1 _ c.args.journals.now l.journals c.next.new.self (omega (arith, c.loop-number-test.true)) l.invariant.files
    (was_read g.D.Disk 1 1 l.journals c.next.new.self (Ok c.in_ok-named.field-0) (omega arith) c.in_ok-named.ensures.reads)

pub returns-clause-files : goal.returns-clause-files
returns-clause-files g c =
    let l = c.loop-number in
    read_on g.D.Disk l._number 0 _ c.args.journals.now l.journals l.journals (omega (arith, c.loop-number.auto)) l.invariant.files (unread_pair g.D.Disk l.journals)

pub returns-in_err-named-clause-calls : goal.returns-in_err-named-clause-calls
returns-in_err-named-clause-calls g c base events seen honest k at faithful =
    let l = c.loop-number in
    let n = l._number in
    let few = no_more_than g.D.Disk l.journals l.reader seen c.args.detector.now l.detector (l.invariant.read base events seen honest k at faithful) base events (l.invariant.keeps base events k) n (l.invariant.few faithful).0 in
    called g.D.Disk (n + 1) _ c.args.journals.now c.next.new.self (omega (arith, few))
    (read_on g.D.Disk n 1 (n + 1) c.args.journals.now l.journals c.next.new.self (omega arith) l.invariant.files
    (was_read g.D.Disk 1 1 l.journals c.next.new.self (Err c.in_err-named.field-0.0) (omega arith) c.in_err-named.ensures.reads))

pub returns-in_err-follow-in-Some-clause-calls : goal.returns-in_err-follow-in-Some-clause-calls
returns-in_err-follow-in-Some-clause-calls g c base events seen honest k at faithful =
    let l = c.loop-number in
    let n = l._number in
    let few = no_more_than g.D.Disk l.journals l.reader seen c.args.detector.now l.detector (l.invariant.read base events seen honest k at faithful) base events (l.invariant.keeps base events k) n (l.invariant.few faithful).0 in
    called g.D.Disk (n + 1) _ c.args.journals.now c.next.new.self (omega (arith, few))
    (read_on g.D.Disk n 1 (n + 1) c.args.journals.now l.journals c.next.new.self (omega arith) l.invariant.files
    (was_read g.D.Disk 1 1 l.journals c.next.new.self (Ok c.in_ok-named.field-0) (omega arith) c.in_ok-named.ensures.reads))

pub returns-in-None-clause-calls : goal.returns-in-None-clause-calls
returns-in-None-clause-calls g c base events seen honest k at faithful =
    let l = c.loop-number in
    let n = l._number in
    let few = no_more_than g.D.Disk l.journals l.reader seen c.args.detector.now l.detector (l.invariant.read base events seen honest k at faithful) base events (l.invariant.keeps base events k) n (l.invariant.few faithful).0 in
    called g.D.Disk (n + 1) _ c.args.journals.now c.next.new.self (omega (arith, few))
    (read_on g.D.Disk n 1 (n + 1) c.args.journals.now l.journals c.next.new.self (omega arith) l.invariant.files
    (was_read g.D.Disk 1 1 l.journals c.next.new.self (Ok c.in_ok-named.field-0) (omega arith) c.in_ok-named.ensures.reads))

pub returns-clause-calls : goal.returns-clause-calls
returns-clause-calls g c base events seen honest k at faithful =
    let l = c.loop-number in
    let n = l._number in
    let few = no_more_than g.D.Disk l.journals l.reader seen c.args.detector.now l.detector (l.invariant.read base events seen honest k at faithful) base events (l.invariant.keeps base events k) n (l.invariant.few faithful).0 in
    called g.D.Disk n _ c.args.journals.now l.journals (omega (arith, few)) l.invariant.files

pub returns-in_err-named-clause-device : goal.returns-in_err-named-clause-device
returns-in_err-named-clause-device g c =
    let l = c.loop-number in
    let e = c.in_err-named.field-0.0 in
    let same : c.from_residual.result ≡ Err e = grind arith in
    let told = reading_failed e (failures l.journals) in
    let now = c.in_err-named.ensures.reads.device in
    let is : failures_in c.next.new.self l.detector ≡ failed_in e + failures_in c.args.journals.now c.args.detector.now = omega (arith, l.invariant.failures, told, now) in
    subst (λ (r : Result _ Refusal). CountsReplay c.args.journals.now c.args.detector.now c.next.new.self l.detector r) (sym same) is

pub returns-in_err-named-clause-refusal : goal.returns-in_err-named-clause-refusal
returns-in_err-named-clause-refusal g c =
    let l = c.loop-number in
    let e = c.in_err-named.field-0.0 in
    let same : c.from_residual.result ≡ Err e = grind arith in
    let works = l.invariant.files.same.broken ∙ c.requires.works in
    let reading = of_next e c.in_err-named.ensures.reads.fault (λ broken. true≢false (sym (c.in_err-named.ensures.reads.broken broken) ∙ works)) in
    subst (λ (r : Result _ Refusal). IfErr r IsOfRecovery) (sym same) (of_reading e reading)

pub returns-in_err-named-clause-slots : goal.returns-in_err-named-clause-slots
returns-in_err-named-clause-slots g c told =
    let l = c.loop-number in
    let e = c.in_err-named.field-0.0 in
    let works = l.invariant.files.same.broken ∙ c.requires.works in
    let reading = of_next e c.in_err-named.ensures.reads.fault (λ broken. true≢false (sym (c.in_err-named.ensures.reads.broken broken) ∙ works)) in
    reading_takes_none e reading (search rules)

pub returns-in_err-named-clause-full : goal.returns-in_err-named-clause-full
returns-in_err-named-clause-full g c base events seen honest k at faithful told count =
    let l = c.loop-number in
    let e = c.in_err-named.field-0.0 in
    let works = l.invariant.files.same.broken ∙ c.requires.works in
    let reading = of_next e c.in_err-named.ensures.reads.fault (λ broken. true≢false (sym (c.in_err-named.ensures.reads.broken broken) ∙ works)) in
    reading_asks_none e reading (search rules)

pub returns-in_err-named-clause-went : goal.returns-in_err-named-clause-went
returns-in_err-named-clause-went g c = c.loop-number.invariant.went

pub returns-in_err-named-clause-unbroken : goal.returns-in_err-named-clause-unbroken
returns-in_err-named-clause-unbroken g c other = c.loop-number.invariant.unbroken
