use Rattle.std.proofs.Common.{[], ◌∷◌, ◌∙◌, Ok, Some, Err, ap, subst}
use Rattle.hg_reading.specs.declared.ending.Ending.TheVariants.{Bad}
use Rattle.hg_parts.specs.Stopping.{bad_at}
use Rattle.hg_parts.proofs.Taking.{no_fault, no_stop, takes_after, takes_bad, takes_behind}
use Rattle.hg_parts.specs.Taking.{TakesQuietly}
use Rattle.hg_parts.proofs.checking.PartsChecking.offer_bad.Goals as goal

pub returns-in-Err : goal.returns-in-Err
returns-in-Err g c fault = takes_behind c.args.self.now c.judge_buffer.new.self (bad_at c.args.line fault ∷ []) (Err c.in-Err.refusal) (no_fault c.in-Err.refusal) c.in-Err.ensures.takes

pub returns-in-Ok-Some : goal.returns-in-Ok-Some
returns-in-Ok-Some g c fault =
    let takes = subst (λ x. TakesQuietly c.args.self.now [] (Ok x) c.judge_buffer.new.self) c.in-Ok-Some.field-0-is c.in-Ok-Some.ensures.takes in
    takes_behind c.args.self.now c.judge_buffer.new.self (bad_at c.args.line fault ∷ []) (Ok (Some c.in-Ok-Some.end)) (no_stop c.in-Ok-Some.end) takes

pub returns-in-Ok-None : goal.returns-in-Ok-None
returns-in-Ok-None g c fault =
    let takes = subst (λ x. TakesQuietly c.args.self.now [] (Ok x) c.judge_buffer.new.self) c.in-Ok-None.field-0-is c.in-Ok-None.ensures.takes in
    let settled = c.judge_buffer.ensures.settled (c.in-Ok-None.is ∙ ap (λ x. Ok x) c.in-Ok-None.field-0-is) in
    takes_after c.args.self.now c.judge_buffer.new.self c.judge_buffer.new.self (bad_at c.args.line fault ∷ []) (Ok (Some (Bad c.args.line))) takes (takes_bad c.judge_buffer.new.self c.args.line fault settled)
