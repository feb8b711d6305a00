use Rattle.std.proofs.Common.{◌+◌, ap, subst}
use Rattle.hg_shards.specs.Judging.{JudgesRoutes}
use Rattle.hg_parts.proofs.Offering.{batch_passed, batch_stopped, stop_no_duplicate, stop_within}
use Rattle.hg_parts.proofs.judging.judge_batch.Goals as goal

pub ending_of-requires-clause-within : goal.ending_of-requires-clause-within
ending_of-requires-clause-within g c =
    let b = c.args.batch.now in
    let first = c.events-first.result + 1 in
    let judged = subst (λ s. JudgesRoutes c.args.judge.now 0 first b.routes s c.offer_routes.new.self) c.in-Some.is c.in_ok-offer_routes.ensures.judged in
    stop_within c.args.judge.now c.offer_routes.new.self b.routes b.lines c.in-Some.stop first judged b.routed (ap (λ n. n + 1) c.events-first.ensures) c.requires.room c.requires.somewhere

pub ending_of-requires-clause-cause : goal.ending_of-requires-clause-cause
ending_of-requires-clause-cause g c =
    let b = c.args.batch.now in
    let first = c.events-first.result + 1 in
    let judged = subst (λ s. JudgesRoutes c.args.judge.now 0 first b.routes s c.offer_routes.new.self) c.in-Some.is c.in_ok-offer_routes.ensures.judged in
    stop_no_duplicate c.args.judge.now c.offer_routes.new.self b.routes b.lines c.in-Some.stop first b.runs.items b.greatest judged b.routed (ap (λ n. n + 1) c.events-first.ensures) c.requires.room b.numbered c.requires.somewhere

pub returns-in-None-clause-goes : goal.returns-in-None-clause-goes
returns-in-None-clause-goes g c =
    let b = c.args.batch.now in
    let first = c.events-first.result + 1 in
    let judged = subst (λ s. JudgesRoutes c.args.judge.now 0 first b.routes s c.offer_routes.new.self) c.in-None.is c.in_ok-offer_routes.ensures.judged in
    batch_passed c.args.judge.now c.offer_routes.new.self b.routes b.lines c.args.lines first judged b.routed (ap (λ n. n + 1) c.events-first.ensures) c.requires.room

pub returns-in-Some-clause-goes : goal.returns-in-Some-clause-goes
returns-in-Some-clause-goes g c =
    let b = c.args.batch.now in
    let first = c.events-first.result + 1 in
    let judged = subst (λ s. JudgesRoutes c.args.judge.now 0 first b.routes s c.offer_routes.new.self) c.in-Some.is c.in_ok-offer_routes.ensures.judged in
    batch_stopped c.args.judge.now c.offer_routes.new.self b.routes b.lines c.in-Some.stop c.args.lines first b.runs.items b.greatest c.ending_of.result judged b.routed (ap (λ n. n + 1) c.events-first.ensures) c.requires.room b.numbered
    c.requires.somewhere c.ending_of.ensures
