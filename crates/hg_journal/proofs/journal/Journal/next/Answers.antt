use Rattle.std.proofs.Common.{◌≡◌, ◌≤◌, Bool, MatchBool, arith, length, subst, sym}
use Rattle.hg_model.specs.declared.verdict.Refusal.TheVariants.{Damaged}
use Rattle.hg_disk.specs.State.{DiskState}
use Rattle.hg_gate.specs.Batches.{header}
use Rattle.hg_journal.specs.Journal.{IsJournalBehind}
use Rattle.hg_journal.specs.Reading.{IsAtBehind, KeepsBehind, rest_of}
use Rattle.hg_journal.proofs.Journaling.{none_of, step}
use Rattle.hg_journal.proofs.journal.Journal.next.Goals as goal

pub returns-in_err-find-clause-damaged_behind : goal.returns-in_err-find-clause-damaged_behind
returns-in_err-find-clause-damaged_behind g c lead seen honest h same =
    let is : c.in_err-find.field-0.0 ≡ Damaged = grind arith in
    absurd (c.in_err-find.ensures.whole lead seen honest h is)

pub returns-in_err-find-clause-damaged : goal.returns-in_err-find-clause-damaged
returns-in_err-find-clause-damaged g c = returns-in_err-find-clause-damaged_behind g c header

pub returns-in-Some-clause-next_behind : goal.returns-in-Some-clause-next_behind
returns-in-Some-clause-next_behind g c lead seen honest h =
    let found = subst (λ (more : Bool). MatchBool more (IsAtBehind lead c.find.new.self c.find.new.reader seen × (1 ≤ length (rest_of c.find.new.reader))) (KeepsBehind lead c.find.new.self seen)) c.if-not-branch.false (c.in_ok-find.ensures.found lead seen honest h) in
    step g.D.Disk lead c.find.new.self c.find.new.reader seen found.0 c.take.new.self c.in-Some.named c.in-Some.ensures.some c.take.ensures.stays

pub returns-in-Some-clause-next : goal.returns-in-Some-clause-next
returns-in-Some-clause-next g c = returns-in-Some-clause-next_behind g c header

pub returns-in-None-clause-damaged_behind : goal.returns-in-None-clause-damaged_behind
returns-in-None-clause-damaged_behind g c lead seen honest h same events is =
    let found = subst (λ (more : Bool). MatchBool more (IsAtBehind lead c.find.new.self c.find.new.reader seen × (1 ≤ length (rest_of c.find.new.reader))) (KeepsBehind lead c.find.new.self seen)) c.if-not-branch.false (c.in_ok-find.ensures.found lead seen honest h) in
    none_of g.D.Disk lead c.find.new.self c.find.new.reader seen found.0 found.1 c.in-None.ensures.none events (subst (λ (s : DiskState). IsJournalBehind lead s.contents events) (sym c.find.ensures.disk.state) is)

pub returns-in-None-clause-damaged : goal.returns-in-None-clause-damaged
returns-in-None-clause-damaged g c = returns-in-None-clause-damaged_behind g c header
