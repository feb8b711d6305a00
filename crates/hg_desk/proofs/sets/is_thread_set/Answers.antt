use Rattle.std.proofs.Common.{◌+◌, inl, inr, drop, get_or, arith}
use Rattle.std.proofs.lemmas.List.{drop_all, drop_more}
use Rattle.hg_model.specs.ThreadSets.{IsThreadSet}
use Rattle.hg_desk.proofs.Rising.{rises_all, rises_not, rises_on}
use Rattle.hg_desk.proofs.sets.is_thread_set.Goals as goal
use Rattle.hg_desk.proofs.sets.is_thread_set.Goals.{then-number-least-via-then-number-least, then-number-least-via-else-number-least+then-number-gt-GREATEST_THREAD}

pub loop-number-preserved : goal.loop-number-preserved
loop-number-preserved c =
    let xs = c.args.numbers.now in
    let i = c.loop-number.number-index in
    record {
      least = omega (arith, c.if-number-gt-GREATEST_THREAD.false);
      rises = rises_on (IsThreadSet xs) c.loop-number.least (drop i xs) c.loop-number.invariant.rises (get_or xs i 0) (drop (i + 1) xs) (drop_more xs i 0 c.loop-number-test.true) c.if-number-least.false c.if-number-gt-GREATEST_THREAD.false;
    }

pub returns-then-number-least : goal.returns-then-number-least
returns-then-number-least c =
    let xs = c.args.numbers.now in
    let i = c.loop-number.number-index in
    rises_not (IsThreadSet xs) c.loop-number.least (drop i xs) c.loop-number.invariant.rises (get_or xs i 0) (drop (i + 1) xs) (drop_more xs i 0 c.loop-number-test.true)
    (elim c.then-number-least.branch [
      | then-number-least-via-then-number-least w ↦ inl w.if-number-least.true
      | then-number-least-via-else-number-least+then-number-gt-GREATEST_THREAD w ↦ inr w.if-number-gt-GREATEST_THREAD.true
    ])

pub returns : goal.returns
returns c =
    let xs = c.args.numbers.now in
    let i = c.loop-number.number-index in
    rises_all (IsThreadSet xs) c.loop-number.least (drop i xs) c.loop-number.invariant.rises (drop_all i xs c.loop-number-test.false)
