use Rattle.std.proofs.Common.{◌++◌, ◌∷◌, [], Bool, Err, Option, MatchOption, IfOk, IfErr, ap, subst, sym}
use Rattle.hg_model.specs.declared.event.Named.{Named}
use Rattle.hg_gate.specs.Batches.{base_front}
use Rattle.hg_journal.specs.Reading.{IsAtBehind, KeepsBehind}
use Rattle.hg_journals.specs.Reading.{HasNext, HasStayed, Where}
use Rattle.hg_journals.proofs.Walking.{former_stays, in_older, no_damage, older_true, read_whole, was_older}
use Rattle.hg_journals.proofs.pair.JournalPair.next.Goals as goal

pub returns-then-reader-clause-next : goal.returns-then-reader-clause-next
returns-then-reader-clause-next g c =
    let r = c.args.reader.now in
    subst (λ (b : Bool). Where b c.args.self.now r.reader c.next_in_newer.new.self (λ base events seen. IfOk c.next_in_newer.result (HasNext b c.next_in_newer.new.self c.next_in_newer.new.reader events seen))) (sym c.if-reader.true) c.next_in_newer.ensures.next

pub returns-then-reader-clause-stays : goal.returns-then-reader-clause-stays
returns-then-reader-clause-stays g c =
    let r = c.args.reader.now in
    subst (λ (b : Bool). Where b c.args.self.now r.reader c.next_in_newer.new.self (λ base events seen. IfErr c.next_in_newer.result (HasStayed b c.next_in_newer.new.self c.next_in_newer.new.reader seen))) (sym c.if-reader.true) c.next_in_newer.ensures.stays

pub returns-in-Ok-Some-clause-next : goal.returns-in-Ok-Some-clause-next
returns-in-Ok-Some-clause-next g c base events seen honest k h =
    let p = c.args.self.now in
    let was = was_older g.D.Disk c.args.reader.now.in_newer c.if-reader.false p c.args.reader.now.reader seen h in
    let front = base_front p.base in
    let at : IsAtBehind front c.next.new.self c.next.new.reader (seen ++ c.in-Ok-Some.named ∷ []) =
    subst (λ (found : Option Named). MatchOption found (KeepsBehind front c.next.new.self seen) (λ named. IsAtBehind front c.next.new.self c.next.new.reader (seen ++ named ∷ []))) c.in-Ok-Some.field-0-is (c.in-Ok-Some.ensures.next_behind front seen honest.0 was.1) in
    in_older g.D.Disk c.args.reader.now.in_newer c.if-reader.false _ c.next.new.reader (seen ++ c.in-Ok-Some.named ∷ []) was.0 at

pub returns-in-Err-clause-stays : goal.returns-in-Err-clause-stays
returns-in-Err-clause-stays g c base events seen honest k h =
    let p = c.args.self.now in
    let was = was_older g.D.Disk c.args.reader.now.in_newer c.if-reader.false p c.args.reader.now.reader seen h in
    let front = base_front p.base in (
      λ told. no_damage g.D.Disk p base events k was.0 (c.in-Err.ensures.damaged_behind front seen honest.0 was.1 (ap (λ r. Err r) told)),
      in_older g.D.Disk c.args.reader.now.in_newer c.if-reader.false _ c.next.new.reader seen was.0 (c.in-Err.ensures.again_behind front seen honest.0 was.1),
    )

pub returns-in-Ok-None-clause-keeps : goal.returns-in-Ok-None-clause-keeps
returns-in-Ok-None-clause-keeps g c base events k =
    let p = c.args.self.now in
    c.next_behind.ensures.keeps base events
    (record {
      former = k.former;
      current = k.current;
      older = former_stays g.D.Disk p.has_spare p.older c.next.new.self base k.former c.next.ensures.disk.state c.next.ensures.broken_or_not c.next.ensures.keeps_behind k.older;
      newer = k.newer;
      whole = k.whole;
      works = k.works;
      begins = k.begins;
      turned_at = k.turned_at;
      ends = k.ends;
    })

pub returns-in-Ok-None-clause-next : goal.returns-in-Ok-None-clause-next
returns-in-Ok-None-clause-next g c base events seen honest k h =
    let p = c.args.self.now in
    let was = was_older g.D.Disk c.args.reader.now.in_newer c.if-reader.false p c.args.reader.now.reader seen h in
    let front = base_front p.base in
    let all : KeepsBehind front c.next.new.self seen =
    subst (λ (found : Option Named). MatchOption found (KeepsBehind front c.next.new.self seen) (λ named. IsAtBehind front c.next.new.self c.next.new.reader (seen ++ named ∷ []))) c.in-Ok-None.field-0-is (c.in-Ok-None.ensures.next_behind front seen (older_true g.D.Disk c.next.new.self c.next_behind.new.self c.next_behind.ensures.reads.other honest) was.1) in
    c.next_behind.ensures.next base events seen honest
    (record {
      former = k.former;
      current = k.current;
      older = former_stays g.D.Disk p.has_spare p.older c.next.new.self base k.former c.next.ensures.disk.state c.next.ensures.broken_or_not c.next.ensures.keeps_behind k.older;
      newer = k.newer;
      whole = k.whole;
      works = k.works;
      begins = k.begins;
      turned_at = k.turned_at;
      ends = k.ends;
    })
    (read_whole g.D.Disk p base events k c.next.new.self seen was.0 c.next.ensures.disk.state all)

pub returns-in-Ok-None-clause-stays : goal.returns-in-Ok-None-clause-stays
returns-in-Ok-None-clause-stays g c base events seen honest k h =
    let p = c.args.self.now in
    let was = was_older g.D.Disk c.args.reader.now.in_newer c.if-reader.false p c.args.reader.now.reader seen h in
    let front = base_front p.base in
    let all : KeepsBehind front c.next.new.self seen =
    subst (λ (found : Option Named). MatchOption found (KeepsBehind front c.next.new.self seen) (λ named. IsAtBehind front c.next.new.self c.next.new.reader (seen ++ named ∷ []))) c.in-Ok-None.field-0-is (c.in-Ok-None.ensures.next_behind front seen (older_true g.D.Disk c.next.new.self c.next_behind.new.self c.next_behind.ensures.reads.other honest) was.1) in
    c.next_behind.ensures.stays base events seen honest
    (record {
      former = k.former;
      current = k.current;
      older = former_stays g.D.Disk p.has_spare p.older c.next.new.self base k.former c.next.ensures.disk.state c.next.ensures.broken_or_not c.next.ensures.keeps_behind k.older;
      newer = k.newer;
      whole = k.whole;
      works = k.works;
      begins = k.begins;
      turned_at = k.turned_at;
      ends = k.ends;
    })
    (read_whole g.D.Disk p base events k c.next.new.self seen was.0 c.next.ensures.disk.state all)
