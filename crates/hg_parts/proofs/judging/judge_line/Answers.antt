use Rattle.std.proofs.Common.{◌+◌, [], ◌∷◌, ap, subst}
use Rattle.hg_shards.specs.Judging.{Judges}
use Rattle.hg_parts.proofs.Offering.{line_no_duplicate, line_passed, line_stopped}
use Rattle.hg_parts.proofs.judging.judge_line.Goals as goal

pub refused_by-requires : goal.refused_by-requires
refused_by-requires g c =
    let number = c.events.result + 1 in
    let judged = subst (λ s. Judges c.args.judge.now (record { source = 0; number = number; event = c.args.event.now } ∷ []) s c.offer_all.new.self) c.in-Some.is c.in_ok-offer_all.ensures.judged in
    record { cause = line_no_duplicate c.args.judge.now c.offer_all.new.self c.args.event.now c.args.line number c.in-Some.stop judged (ap (λ n. n + 1) c.events.ensures) c.requires.somewhere }

pub returns-in-None-clause-goes : goal.returns-in-None-clause-goes
returns-in-None-clause-goes g c =
    let number = c.events.result + 1 in
    let judged = subst (λ s. Judges c.args.judge.now (record { source = 0; number = number; event = c.args.event.now } ∷ []) s c.offer_all.new.self) c.in-None.is c.in_ok-offer_all.ensures.judged in
    line_passed c.args.judge.now c.offer_all.new.self c.args.event.now c.args.line number judged (ap (λ n. n + 1) c.events.ensures)

pub returns-in-Some-clause-goes : goal.returns-in-Some-clause-goes
returns-in-Some-clause-goes g c =
    let number = c.events.result + 1 in
    let judged = subst (λ s. Judges c.args.judge.now (record { source = 0; number = number; event = c.args.event.now } ∷ []) s c.offer_all.new.self) c.in-Some.is c.in_ok-offer_all.ensures.judged in
    line_stopped c.args.judge.now c.offer_all.new.self c.args.event.now c.args.line number c.in-Some.stop c.refused_by.result judged (ap (λ n. n + 1) c.events.ensures) c.requires.somewhere c.refused_by.ensures
