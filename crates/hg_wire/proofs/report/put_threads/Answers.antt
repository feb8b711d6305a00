use Rattle.std.proofs.Common.{◌∙◌, ◌++◌, ◌∷◌, length, ap, arith}
use Rattle.std.specs.Fmt.{decimal}
use Rattle.std.specs.List.{between}
use Rattle.hg_wire.proofs.PieceLemmas.{appended_on, cut_back, numbers_joined, one_more}
use Rattle.hg_wire.proofs.report.put_threads.Goals as goal

pub returns-clause-ok : goal.returns-clause-ok
returns-clause-ok c =
    numbers_joined c.args.out.now.items _ _ c.args.threads.now c.loop-thread.thread-index c.in-len1-up.len_at_least (c.in_ok-put_number_after.ensures.ok ∙ ap (λ n. c.args.out.now.items ++ decimal n) c.from.ensures) (omega arith) c.loop-thread.invariant.0

pub loop-thread-preserved : goal.loop-thread-preserved
loop-thread-preserved c = (
  one_more (λ n. 44 ∷ decimal n) (between 1 (length c.args.threads.now) c.args.threads.now) c.loop-thread.thread-index _ c.put_number_after.new.out.items _ _ (omega (arith, c.loop-thread-test.true)) c.loop-thread.invariant.0
      (c.in_default-put_number_after.ensures.ok ∙ ap (λ n. c.loop-thread.out.items ++ (44 ∷ decimal n)) c.from-in-loop-thread.ensures),
  c.loop-thread.invariant.1,
)

pub returns-in-Err-clause-err : goal.returns-in-Err-clause-err
returns-in-Err-clause-err c =
    cut_back c.args.out.now.items _ _ _ _
    (appended_on c.args.out.now.items _ _ _ _ c.in_ok-put_number_after.ensures.ok (c.in-Err.ensures.err ∙ c.loop-thread.invariant.0)) c.loop-thread.invariant.1 c.truncate.ensures.items
