use Rattle.std.proofs.Common.{◌≡◌, [], ◌∷◌, None, Ok, sym, subst, arith}
use Rattle.hg_reading.proofs.Runs.{last_settled}
use Rattle.hg_reading.proofs.whole.finish.Goals as goal

pub returns-clause-takes : goal.returns-clause-takes
returns-clause-takes g c =
    let none : c.in_ok-end.field-0 ≡ None = grind arith in
    let passed = subst (λ x. g.S.Sink.takes c.args.sink.now c.args.output.now.calls (c.in-Some.reading ∷ []) (Ok x) c.offer.new.self c.offer.new.output.calls) none c.in_ok-end.ensures.takes in
    subst (λ xs. g.S.Sink.takes c.args.sink.now c.args.output.now.calls xs c.settle.result c.settle.new.self c.settle.new.output.calls) (sym c.in-Some.ensures)
    (last_settled g.S.Sink.takes g.met.S.Sink.on c.args.sink.now c.offer.new.self c.settle.new.self c.args.output.now.calls c.offer.new.output.calls c.settle.new.output.calls (c.in-Some.reading ∷ []) c.settle.result
    passed c.settle.ensures.takes)
