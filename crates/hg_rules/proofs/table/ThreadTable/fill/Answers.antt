use Rattle.std.proofs.Common.{refl, sym, ◌∙◌, arith}
use Rattle.hg_rules.proofs.Restoring.{all_restored, none_restored, one_restored}
use Rattle.hg_rules.proofs.table.ThreadTable.fill.Goals as goal

pub loop-thread-init : goal.loop-thread-init
loop-thread-init c = none_restored c.args.threads.now c.args.self.now c.requires.empty

pub loop-thread-preserved : goal.loop-thread-preserved
loop-thread-preserved c =
    one_restored c.args.threads.now c.loop-thread.self c.add.new.self c.loop-thread.thread-index c.thread-item.result c.loop-thread.invariant c.loop-thread-test.true c.thread-item.is (sym c.if-not-add.false ∙ c.add.ensures.answer) (c.add.ensures.added c.if-not-add.false)

pub returns-clause-answer : goal.returns-clause-answer
returns-clause-answer c =
    let all = all_restored c.args.threads.now c.loop-thread.self c.loop-thread.thread-index c.loop-thread.invariant (omega (arith, c.loop-thread-test.false)) in
    (λ yes. all.1, λ are. refl)

pub returns-clause-filled : goal.returns-clause-filled
returns-clause-filled c = λ yes. (all_restored c.args.threads.now c.loop-thread.self c.loop-thread.thread-index c.loop-thread.invariant (omega (arith, c.loop-thread-test.false))).0
