use Rattle.std.proofs.Common.{[], Ok, None, Err, subst}
use Rattle.hg_parts.specs.Taking.{TakesQuietly}
use Rattle.hg_parts.specs.TakingLaws.{takes_on}
use Rattle.hg_parts.proofs.Taking.{print_err, print_ok}
use Rattle.hg_parts.proofs.checking.PartsChecking.settle.Goals as goal

pub returns-in-Err-clause-takes : goal.returns-in-Err-clause-takes
returns-in-Err-clause-takes g c = c.in-Err.ensures.takes c.args.output.now.calls

pub returns-in-Ok-Some-clause-takes : goal.returns-in-Ok-Some-clause-takes
returns-in-Ok-Some-clause-takes g c =
    let takes = subst (λ x. TakesQuietly c.args.self.now [] (Ok x) c.judge_buffer.new.self) c.in-Ok-Some.field-0-is c.in-Ok-Some.ensures.takes in
    takes c.args.output.now.calls

pub returns-in-Err-print-clause-takes : goal.returns-in-Err-print-clause-takes
returns-in-Err-print-clause-takes g c =
    let takes = subst (λ x. TakesQuietly c.args.self.now [] (Ok x) c.judge_buffer.new.self) c.in-Ok-None.field-0-is c.in-Ok-None.ensures.takes in
    takes_on c.args.self.now c.judge_buffer.new.self c.print.new.self c.args.output.now.calls c.args.output.now.calls c.print.new.output.calls [] [] (Err c.in-Err-print.refusal) (takes c.args.output.now.calls)
    (print_err c.in-Err-print.refusal c.judge_buffer.new.self c.print.new.self c.args.output.now.calls c.print.new.output.calls c.in-Err-print.ensures.rest c.in-Err-print.ensures.prints c.in-Err-print.ensures.cause c.in-Err-print.ensures.fault)

pub returns-in-Ok-clause-takes : goal.returns-in-Ok-clause-takes
returns-in-Ok-clause-takes g c =
    let takes = subst (λ x. TakesQuietly c.args.self.now [] (Ok x) c.judge_buffer.new.self) c.in-Ok-None.field-0-is c.in-Ok-None.ensures.takes in
    takes_on c.args.self.now c.judge_buffer.new.self c.print.new.self c.args.output.now.calls c.args.output.now.calls c.print.new.output.calls [] [] (Ok None) (takes c.args.output.now.calls)
    (print_ok c.in-Ok.field-0 c.judge_buffer.new.self c.print.new.self c.args.output.now.calls c.print.new.output.calls c.in-Ok.ensures.rest c.in-Ok.ensures.prints c.in-Ok.ensures.fault)
