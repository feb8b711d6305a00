use Rattle.std.proofs.Common.{ℕ, Option, Some, codes, inl, inr, refl}
use Rattle.std.proofs.lemmas.Result.{err_from_is_err_and, on_ok_weaker}
use Rattle.hg_streams.proofs.Printed.{always_err}
use Rattle.hg_commands.specs.Feeding.{checkpoint_text}
use Rattle.hg_streams.specs.Printed.{IsPrintedNow}
use Rattle.hg_streams.specs.Texts.{number_text}
use Rattle.hg_commands.proofs.Checkpointed.{checkpointed, fault_if_due}
use Rattle.hg_commands.specs.TakingLaws.{keeps_then}
use Rattle.hg_commands.proofs.Kept.{keeps_printed}
use Rattle.hg_commands.proofs.lines.Feeding.checkpoint_if_due.Goals as goal

pub returns-clause-made : goal.returns-clause-made
returns-clause-made g c =
    on_ok_weaker c.print_number.result
    (λ printed. checkpointed g.D.Disk c.args.is_made c.if-not-is_made.false c.args.self.now.store c.make_checkpoint.new.self.store c.in_ok-number.number c.args.output.now.calls c.print_number.new.output.calls
    c.in_ok-number.ensures.stays c.in_ok-number.ensures.made c.in_ok-number.ensures.given_up c.in_ok-number.ensures.works printed)
    c.print_number.ensures.printed

pub returns-clause-front : goal.returns-clause-front
returns-clause-front g c =
    let wrote : (x : Option ℕ) × IsPrintedNow c.args.output.now.calls c.print_number.new.output.calls (checkpoint_text x) = (Some c.in_ok-number.number, c.print_number.ensures.calls) in
    always_err _ wrote

pub returns-clause-kept : goal.returns-clause-kept
returns-clause-kept g c =
    let s = c.args.self.now.store in
    let m = c.make_checkpoint.new.self.store in
    let calls = c.args.output.now.calls in
    let number = c.in_ok-number.number in
    keeps_then g.D.Disk s m m calls calls c.print_number.new.output.calls c.args.self.now.moments c.make_checkpoint.new.self.moments c.make_checkpoint.new.self.moments
    c.make_checkpoint.ensures.kept
    (keeps_printed g.D.Disk m calls c.print_number.new.output.calls c.make_checkpoint.new.self.moments (number_text (codes "checkpoint ") number) c.print_number.ensures.calls
    (λ honest backs. inr (inr (inr (inl (number, refl))))))

pub returns-in_err-number-clause-cause : goal.returns-in_err-number-clause-cause
returns-in_err-number-clause-cause g c =
    let q = err_from_is_err_and c.from_residual.result c.from_residual.ensures.1 in
    rw (q.1, q.2)
    (fault_if_due g.D.Disk c.args.is_made c.args.self.now.store c.make_checkpoint.new.self.store.devices _ c.if-not-is_made.false c.in_err-number.ensures.cause)
