use Rattle.std.proofs.Common.{[], map, Ok, None, Some, Err, refl, sym, ap, subst, arith}
use Rattle.hg_wire.specs.Streams.{numbered_on}
use Rattle.hg_parts.specs.Batches.{readings_in}
use Rattle.hg_parts.specs.Going.{GoesFrom}
use Rattle.hg_parts.specs.Taking.{pending}
use Rattle.hg_parts.specs.TakingLaws.{takes_none}
use Rattle.hg_parts.proofs.Taking.{buffer_fits, no_fault, no_stop, takes_buffer}
use Rattle.hg_parts.proofs.checking.PartsChecking.judge_buffer.Goals as goal

pub returns-then-is_empty-clause-takes : goal.returns-then-is_empty-clause-takes
returns-then-is_empty-clause-takes g c calls = takes_none _ calls

pub judge_batch-requires-clause-room : goal.judge_batch-requires-clause-room
judge_batch-requires-clause-room g c κs within = buffer_fits c.args.self.now.judge.events c.args.self.now.buffer.lines c.requires.may.2

pub judge_batch-requires-clause-fits : goal.judge_batch-requires-clause-fits
judge_batch-requires-clause-fits g c κs within = let fits = c.args.self.now.buffer.fits in omega (arith, fits)

pub returns-in-Err-clause-takes : goal.returns-in-Err-clause-takes
returns-in-Err-clause-takes g c =
    takes_buffer c.args.self.now _ (Err c.in-Err.refusal) c.in-Err.ensures.goes (λ is. absurd (no_fault c.in-Err.refusal is)) refl refl refl c.judge_batch.ensures.parts refl c.in-Err.ensures.memory

pub returns-in-Ok-Some-clause-takes : goal.returns-in-Ok-Some-clause-takes
returns-in-Ok-Some-clause-takes g c =
    let goes = subst (λ x. GoesFrom c.args.self.now.judge (map (numbered_on 0) (pending c.args.self.now)) (Ok x) [] c.judge_batch.new.judge) c.in-Ok-Some.field-0-is c.in-Ok-Some.ensures.goes in
    takes_buffer c.args.self.now _ (Ok (Some c.in-Ok-Some.end)) goes (λ is. absurd (no_stop c.in-Ok-Some.end is)) refl refl refl c.judge_batch.ensures.parts refl tt

pub returns-in-Ok-None-clause-takes : goal.returns-in-Ok-None-clause-takes
returns-in-Ok-None-clause-takes g c =
    let goes = subst (λ x. GoesFrom c.args.self.now.judge (map (numbered_on 0) (pending c.args.self.now)) (Ok x) [] c.judge_batch.new.judge) c.in-Ok-None.field-0-is c.in-Ok-None.ensures.goes in
    takes_buffer c.args.self.now _ (Ok None) goes (λ is. sym (ap readings_in c.clear.ensures.none.lines)) refl refl refl c.judge_batch.ensures.parts c.clear.ensures.parts tt
