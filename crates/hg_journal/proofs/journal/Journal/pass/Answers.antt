use Rattle.std.proofs.Common.{◌≡◌, ◌≤◌, ℕ, List, Bool, MatchBool, arith, length, subst, sym}
use Rattle.hg_model.specs.declared.verdict.Refusal.TheVariants.{Damaged}
use Rattle.hg_disk.specs.State.{DiskState}
use Rattle.hg_gate.specs.Batches.{header}
use Rattle.hg_journal.specs.Journal.{IsJournalBehind}
use Rattle.hg_journal.specs.Reading.{IsAtBehind, KeepsBehind, Passes, rest_of}
use Rattle.hg_records.specs.Records.{BeginsWith}
use Rattle.hg_journal.proofs.Journaling.{no_more, none_of, steps}
use Rattle.hg_journal.proofs.journal.Journal.pass.Goals as goal

pub returns-in_err-find-clause-damaged_behind : goal.returns-in_err-find-clause-damaged_behind
returns-in_err-find-clause-damaged_behind g c lead seen honest h same =
    let is : c.in_err-find.field-0.0 ≡ Damaged = grind arith in
    absurd (c.in_err-find.ensures.whole lead seen honest h is)

pub returns-in_err-find-clause-damaged : goal.returns-in_err-find-clause-damaged
returns-in_err-find-clause-damaged g c = returns-in_err-find-clause-damaged_behind g c header

pub returns-then-count-eq0-clause-damaged_behind : goal.returns-then-count-eq0-clause-damaged_behind
returns-then-count-eq0-clause-damaged_behind g c lead seen honest h same events is =
    let found = subst (λ (more : Bool). MatchBool more (IsAtBehind lead c.find.new.self c.find.new.reader seen × (1 ≤ length (rest_of c.find.new.reader))) (KeepsBehind lead c.find.new.self seen)) c.if-not-branch.false (c.in_ok-find.ensures.found lead seen honest h) in
    let still : rest_of c.pass-count.new.self ≡ rest_of c.find.new.reader = subst (λ (n : ℕ). Passes n (rest_of c.find.new.reader) (rest_of c.pass-count.new.self)) c.if-count-eq0.true c.pass-count.ensures.passed in
    none_of g.D.Disk lead c.find.new.self c.find.new.reader seen found.0 found.1
    (λ named rest begins. c.pass-count.ensures.none (omega (arith, c.if-count-eq0.true, c.requires.some)) named rest (subst (λ (bytes : List ℕ). BeginsWith bytes named rest) (sym still) begins))
    events (subst (λ (s : DiskState). IsJournalBehind lead s.contents events) (sym c.find.ensures.disk.state) is)

pub returns-then-count-eq0-clause-damaged : goal.returns-then-count-eq0-clause-damaged
returns-then-count-eq0-clause-damaged g c = returns-then-count-eq0-clause-damaged_behind g c header

pub returns-clause-passed_behind : goal.returns-clause-passed_behind
returns-clause-passed_behind g c lead seen honest h some =
    let found = subst (λ (more : Bool). MatchBool more (IsAtBehind lead c.find.new.self c.find.new.reader seen × (1 ≤ length (rest_of c.find.new.reader))) (KeepsBehind lead c.find.new.self seen)) c.if-not-branch.false (c.in_ok-find.ensures.found lead seen honest h) in
    steps g.D.Disk lead c.find.new.self c.find.new.reader seen found.0 c.pass-count.new.self c.pass-count.result c.pass-count.ensures.passed c.pass-count.ensures.stays

pub returns-clause-passed : goal.returns-clause-passed
returns-clause-passed g c = returns-clause-passed_behind g c header

pub returns-then-count-eq0-clause-again_behind : goal.returns-then-count-eq0-clause-again_behind
returns-then-count-eq0-clause-again_behind g c lead seen honest h =
    let found = subst (λ (more : Bool). MatchBool more (IsAtBehind lead c.find.new.self c.find.new.reader seen × (1 ≤ length (rest_of c.find.new.reader))) (KeepsBehind lead c.find.new.self seen)) c.if-not-branch.false (c.in_ok-find.ensures.found lead seen honest h) in
    let none : Passes 0 (rest_of c.find.new.reader) (rest_of c.pass-count.new.self) = subst (λ (n : ℕ). Passes n (rest_of c.find.new.reader) (rest_of c.pass-count.new.self)) c.if-count-eq0.true c.pass-count.ensures.passed in
    let more = steps g.D.Disk lead c.find.new.self c.find.new.reader seen found.0 c.pass-count.new.self 0 none c.pass-count.ensures.stays in
    no_more lead c.find.new.self c.pass-count.new.self seen more.0 more.1 more.2

pub returns-then-count-eq0-clause-again : goal.returns-then-count-eq0-clause-again
returns-then-count-eq0-clause-again g c = returns-then-count-eq0-clause-again_behind g c header
