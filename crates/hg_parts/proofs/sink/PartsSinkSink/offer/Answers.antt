use Rattle.hg_parts.proofs.Sinking.{takes_event, takes_fault}
use Rattle.hg_parts.proofs.sink.PartsSinkSink.offer.Goals as goal

pub returns-in-Ok : goal.returns-in-Ok
returns-in-Ok g c = record { takes = takes_event c.args.self.now.checking c.offer_event.new.self c.args.reading.now c.in-Ok.event c.offer_event.result c.in-Ok.is c.offer_event.ensures c.args._output.now.calls }

pub returns-in-Err : goal.returns-in-Err
returns-in-Err g c = record { takes = takes_fault c.args.self.now.checking c.offer_bad.new.self c.args.reading.now c.in-Err.field-0 c.offer_bad.result c.in-Err.is (c.offer_bad.ensures c.in-Err.field-0) c.args._output.now.calls }
