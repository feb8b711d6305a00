use Rattle.std.proofs.Common.{◌≡◌, ◌-◌, List}
use Rattle.hg_model.specs.declared.segment.Segment.{Segment}
use Rattle.hg_root.specs.Last.{IsLastTable}
use Rattle.hg_root.specs.Reading.{thread_at, times}
use Rattle.hg_root.proofs.Times.{with_front}
use Rattle.hg_root.proofs.threads.threads_of.Given as goal

abbrev pub invariant-loop : goal.invariant-loop
invariant-loop l = (segments : List Segment) → IsLastTable segments l.lasts → with_front (thread_at segments) l.threads.items (times (thread_at segments) (l.count - l.counter) l.rest) ≡ times (thread_at segments) l.count l.bytes
