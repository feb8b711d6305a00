use Rattle.std.proofs.Common.{◌++◌, map}
use Rattle.hg_gate.specs.Batches.{header}
use Rattle.hg_journal.specs.Journal.{batch_text}
use Rattle.hg_journal.specs.Reading.{is_broken}
use Rattle.hg_journal.proofs.Journaling.{broken_on, found_next}
use Rattle.hg_journal.proofs.journal.Journal.turn.Goals as goal

pub returns-in-Ok-clause-found : goal.returns-in-Ok-clause-found
returns-in-Ok-clause-found g c lead seen honest h =
    let bodies = map batch_text h.past ++ h.present in
    found_next g.D.Disk lead c.args.self.now c.args.reader.now seen h _ _ c.in-Ok.found c.requires.read (c.turn.ensures.has lead (bodies ++ h.later) h.has)
    (c.in-Ok.ensures.next lead bodies h.later honest h.has.reads h.place)

pub returns-in-Err-clause-broken : goal.returns-in-Err-clause-broken
returns-in-Err-clause-broken g c =
    broken_on (is_broken c.args.self.now) c.in-Err.fault c.refusal_of.result c.args.self.now.log c.turn.new.self c.args.self.now _ c.refusal_of.ensures c.in-Err.ensures.broken c.requires.works

pub returns-in-Ok-clause-keeps : goal.returns-in-Ok-clause-keeps
returns-in-Ok-clause-keeps g c events k = record { batches = k.batches; has = c.turn.ensures.has header (map batch_text k.batches) k.has; fits = k.fits; whole = k.whole }

pub returns-in-Ok-clause-opens : goal.returns-in-Ok-clause-opens
returns-in-Ok-clause-opens g c bodies h = c.turn.ensures.has header bodies h

pub returns-in-Err-clause-keeps : goal.returns-in-Err-clause-keeps
returns-in-Err-clause-keeps g c events k = record { batches = k.batches; has = c.turn.ensures.has header (map batch_text k.batches) k.has; fits = k.fits; whole = k.whole }

pub returns-in-Err-clause-opens : goal.returns-in-Err-clause-opens
returns-in-Err-clause-opens g c bodies h = c.turn.ensures.has header bodies h
