use Rattle.std.proofs.Common.{[], ◌∷◌, Ok, Some, Err, subst}
use Rattle.hg_parts.specs.Stopping.{reading_at}
use Rattle.hg_parts.proofs.Taking.{may_mid, no_fault, no_stop, takes_after, takes_behind}
use Rattle.hg_parts.specs.Taking.{TakesQuietly}
use Rattle.hg_parts.proofs.checking.PartsChecking.offer_behind.Goals as goal

pub offer_alone-requires-clause-may : goal.offer_alone-requires-clause-may
offer_alone-requires-clause-may g c κs within =
    let takes = subst (λ x. TakesQuietly c.args.self.now [] (Ok x) c.judge_buffer.new.self) c.in-Ok-None.field-0-is c.in-Ok-None.ensures.takes in
    may_mid c.args.self.now c.judge_buffer.new.self 1 c.requires.may takes

pub returns-in-Err : goal.returns-in-Err
returns-in-Err g c = takes_behind c.args.self.now c.judge_buffer.new.self (reading_at c.args.line c.args.event.now ∷ []) (Err c.in-Err.refusal) (no_fault c.in-Err.refusal) c.in-Err.ensures.takes

pub returns-in-Ok-Some : goal.returns-in-Ok-Some
returns-in-Ok-Some g c =
    let takes = subst (λ x. TakesQuietly c.args.self.now [] (Ok x) c.judge_buffer.new.self) c.in-Ok-Some.field-0-is c.in-Ok-Some.ensures.takes in
    takes_behind c.args.self.now c.judge_buffer.new.self (reading_at c.args.line c.args.event.now ∷ []) (Ok (Some c.in-Ok-Some.end)) (no_stop c.in-Ok-Some.end) takes

pub returns-in-Ok-None : goal.returns-in-Ok-None
returns-in-Ok-None g c =
    let takes = subst (λ x. TakesQuietly c.args.self.now [] (Ok x) c.judge_buffer.new.self) c.in-Ok-None.field-0-is c.in-Ok-None.ensures.takes in
    takes_after c.args.self.now c.judge_buffer.new.self _ (reading_at c.args.line c.args.event.now ∷ []) c.offer_alone.result takes c.offer_alone.ensures
