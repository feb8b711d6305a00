use Rattle.std.proofs.Common.{map, Ok, Some, Err, subst}
use Rattle.hg_wire.specs.Streams.{numbered_on}
use Rattle.hg_parts.specs.Batches.{readings_in}
use Rattle.hg_parts.specs.Taking.{TakesQuietly}
use Rattle.hg_parts.proofs.Ending.{checking_of}
use Rattle.hg_parts.proofs.Sinking.{may_slice, queue_stopped, queue_through}
use Rattle.hg_parts.proofs.Taking.{no_fault, no_stop}
use Rattle.hg_parts.proofs.sink.PartsSinkQueueSink.offer_queue.Goals as goal

pub offer_all-requires-clause-room : goal.offer_all-requires-clause-room
offer_all-requires-clause-room g c =
    let s = c.args.self.now.checking in
    let b = c.args.queue.now.batch in
    let takes = subst (λ x. TakesQuietly s (map (numbered_on c.args.lines) (readings_in b.lines)) (Ok x) c.offer_batch.new.self) c.in-Ok-None.field-0-is c.in-Ok-None.ensures in
    (record { shared = c.requires.room.0.shared }, may_slice s c.offer_batch.new.self c.args.lines b.greatest b.lines c.args.queue.now.rest.items c.as_slice.result.now c.as_slice.ensures.value c.requires.room.1 takes)

pub returns-in-Err : goal.returns-in-Err
returns-in-Err g c =
    let q = c.args.queue.now in
    record { takes = queue_stopped checking_of c.args.lines q.batch.greatest q.batch.lines q.rest.items c.args.self.now _ c.args.output.now.calls (Err c.in-Err.refusal) (no_fault c.in-Err.refusal) c.in-Err.ensures }

pub returns-in-Ok-Some : goal.returns-in-Ok-Some
returns-in-Ok-Some g c =
    let q = c.args.queue.now in
    let takes = subst (λ x. TakesQuietly c.args.self.now.checking (map (numbered_on c.args.lines) (readings_in q.batch.lines)) (Ok x) c.offer_batch.new.self) c.in-Ok-Some.field-0-is c.in-Ok-Some.ensures in
    record { takes = queue_stopped checking_of c.args.lines q.batch.greatest q.batch.lines q.rest.items c.args.self.now _ c.args.output.now.calls (Ok (Some c.in-Ok-Some.end)) (no_stop c.in-Ok-Some.end) takes }

pub returns-in-Ok-None : goal.returns-in-Ok-None
returns-in-Ok-None g c =
    let q = c.args.queue.now in
    let takes = subst (λ x. TakesQuietly c.args.self.now.checking (map (numbered_on c.args.lines) (readings_in q.batch.lines)) (Ok x) c.offer_batch.new.self) c.in-Ok-None.field-0-is c.in-Ok-None.ensures in
    record {
      takes = queue_through checking_of c.args.lines q.batch.greatest q.batch.lines q.rest.items c.as_slice.result.now c.args.self.now (record c.args.self.now { checking = c.offer_batch.new.self }) c.offer_all.new.sink c.args.output.now.calls c.offer_all.new.output.calls
          c.offer_all.result c.as_slice.ensures.value takes c.offer_all.ensures;
    }
