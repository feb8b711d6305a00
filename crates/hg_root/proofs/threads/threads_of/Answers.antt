use Rattle.std.proofs.lemmas.Result.{err_from_is_err_and}
use Rattle.hg_root.specs.Reading.{thread_at, times}
use Rattle.hg_root.proofs.Times.{goes_on, ends, is_done}
use Rattle.hg_root.proofs.threads.threads_of.Goals as goal

pub returns-in_err-thread : goal.returns-in_err-thread
returns-in_err-thread c = λ segments lasts.
    let p = err_from_is_err_and c.from_residual.result c.from_residual.ensures.1 in
    rw (p.1, p.2) (ends (thread_at segments) c.in_err-thread.field-0.0 c.loop.threads.items c.args.count c.loop.counter c.loop.rest.now (times (thread_at segments) c.args.count c.args.bytes.now) c.loop-test.true (c.in_err-thread.ensures segments lasts) (c.loop.invariant segments lasts))

pub loop-preserved : goal.loop-preserved
loop-preserved c = λ segments lasts.
    rw c.in_ok-push.ensures.items (goes_on (thread_at segments) c.loop.threads.items c.args.count c.loop.counter c.loop.rest.now c.in_ok-thread.thread c.in_ok-thread.after.now (times (thread_at segments) c.args.count c.args.bytes.now) c.loop-test.true (c.in_ok-thread.ensures segments lasts) (c.loop.invariant segments lasts))

pub returns : goal.returns
returns c = λ segments lasts. is_done (thread_at segments) c.loop.threads.items c.args.count c.loop.counter c.loop.rest.now (times (thread_at segments) c.args.count c.args.bytes.now) c.loop-test.false (c.loop.invariant segments lasts)
