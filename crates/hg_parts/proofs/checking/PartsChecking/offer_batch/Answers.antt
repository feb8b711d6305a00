use Rattle.std.proofs.Common.{[], ◌∙◌, length, map, Ok, Some, Err, refl, ap, subst}
use Rattle.hg_wire.specs.Streams.{numbered_on}
use Rattle.hg_parts.specs.Holding.{readings_held}
use Rattle.hg_parts.specs.Taking.{pending}
use Rattle.hg_parts.proofs.Taking.{batch_fits, may_mid, no_fault, no_stop, takes_after, takes_at_once, takes_behind, takes_broken}
use Rattle.hg_parts.specs.Taking.{TakesQuietly}
use Rattle.hg_parts.proofs.checking.PartsChecking.offer_batch.Goals as goal

pub returns-then-parts : goal.returns-then-parts
returns-then-parts g c = takes_broken c.args.self.now (map (numbered_on c.args.lines) (readings_held c.args.batch.now))

pub judge_batch-requires-clause-somewhere : goal.judge_batch-requires-clause-somewhere
judge_batch-requires-clause-somewhere g c κs within =
    let takes = subst (λ x. TakesQuietly c.args.self.now [] (Ok x) c.judge_buffer.new.self) c.in-Ok-None.field-0-is c.in-Ok-None.ensures.takes in
    (may_mid c.args.self.now c.judge_buffer.new.self (length (readings_held c.args.batch.now)) c.requires.may takes).1

pub judge_batch-requires-clause-room : goal.judge_batch-requires-clause-room
judge_batch-requires-clause-room g c κs within =
    let takes = subst (λ x. TakesQuietly c.args.self.now [] (Ok x) c.judge_buffer.new.self) c.in-Ok-None.field-0-is c.in-Ok-None.ensures.takes in
    batch_fits c.judge_buffer.new.self.judge.events (length (pending c.judge_buffer.new.self)) c.args.batch.now.lines (may_mid c.args.self.now c.judge_buffer.new.self (length (readings_held c.args.batch.now)) c.requires.may takes).2

pub returns-in-Err : goal.returns-in-Err
returns-in-Err g c = takes_behind c.args.self.now c.judge_buffer.new.self (map (numbered_on c.args.lines) (readings_held c.args.batch.now)) (Err c.in-Err.refusal) (no_fault c.in-Err.refusal) c.in-Err.ensures.takes

pub returns-in-Ok-Some : goal.returns-in-Ok-Some
returns-in-Ok-Some g c =
    let takes = subst (λ x. TakesQuietly c.args.self.now [] (Ok x) c.judge_buffer.new.self) c.in-Ok-Some.field-0-is c.in-Ok-Some.ensures.takes in
    takes_behind c.args.self.now c.judge_buffer.new.self (map (numbered_on c.args.lines) (readings_held c.args.batch.now)) (Ok (Some c.in-Ok-Some.end)) (no_stop c.in-Ok-Some.end) takes

pub returns-in-Ok-None : goal.returns-in-Ok-None
returns-in-Ok-None g c =
    let takes = subst (λ x. TakesQuietly c.args.self.now [] (Ok x) c.judge_buffer.new.self) c.in-Ok-None.field-0-is c.in-Ok-None.ensures.takes in
    let settled = c.judge_buffer.ensures.settled (c.in-Ok-None.is ∙ ap (λ x. Ok x) c.in-Ok-None.field-0-is) in
    takes_after c.args.self.now c.judge_buffer.new.self _ (map (numbered_on c.args.lines) (readings_held c.args.batch.now)) c.judge_batch.result takes
    (takes_at_once c.judge_buffer.new.self _ (map (numbered_on c.args.lines) (readings_held c.args.batch.now)) c.judge_batch.result settled c.judge_batch.ensures.goes refl refl refl refl c.judge_batch.ensures.parts c.judge_batch.ensures.memory)
