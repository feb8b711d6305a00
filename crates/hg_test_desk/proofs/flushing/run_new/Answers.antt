use Rattle.hg_model.specs.Contents.{Content}
use Rattle.std.proofs.Common.{rules, ap}
use Rattle.hg_test_desk.proofs.flushing.run_new.Goals as goal

pub run_over-requires-clause-opening : goal.run_over-requires-clause-opening
run_over-requires-clause-opening g c =
    let events = ap (λ (content : Content). content.events) c.in-Some.ensures.has in
    search (events, rules)
