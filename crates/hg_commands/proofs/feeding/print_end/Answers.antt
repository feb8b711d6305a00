use Rattle.std.proofs.Common.{List, ℕ, ◌++◌, ◌∷◌, ap, subst, ◌∙◌}
use Rattle.hg_streams.specs.Written.{Took}
use Rattle.hg_store.specs.Shown.{live}
use Rattle.hg_commands.specs.Feeding.{feed_end_text}
use Rattle.hg_streams.specs.Printed.{IsPrintedNow}
use Rattle.hg_streams.specs.declared.call.WriteCall.TheVariants as call
use Rattle.hg_commands.proofs.feeding.print_end.Goals as goal

pub returns-clause-printed : goal.returns-clause-printed
returns-clause-printed g c =
    let text = feed_end_text (live g.D.Disk c.args.store.now) c.args.end in
    subst (λ (t : List ℕ). Took c.args.output.now.calls c.print_now.new.output.calls t)
    (c.as_slice.ensures.value ∙ (c.in_ok-hold_last_line.ensures.ok ∙ ap (λ (t : List ℕ). t ++ text) c.new-held.ensures.items)) c.in_ok-print_now.ensures.printed

pub returns-clause-calls : goal.returns-clause-calls
returns-clause-calls g c =
    let text = feed_end_text (live g.D.Disk c.args.store.now) c.args.end in
    subst (λ (t : List ℕ). IsPrintedNow c.args.output.now.calls c.print_now.new.output.calls t)
    (c.as_slice.ensures.value ∙ (c.in_ok-hold_last_line.ensures.ok ∙ ap (λ (t : List ℕ). t ++ text) c.new-held.ensures.items)) c.print_now.ensures.calls

pub returns-in_err-print_now-clause-calls : goal.returns-in_err-print_now-clause-calls
returns-in_err-print_now-clause-calls g c =
    let text = feed_end_text (live g.D.Disk c.args.store.now) c.args.end in
    subst (λ (t : List ℕ). IsPrintedNow c.args.output.now.calls c.print_now.new.output.calls t)
    (c.as_slice.ensures.value ∙ (c.in_ok-hold_last_line.ensures.ok ∙ ap (λ (t : List ℕ). t ++ text) c.new-held.ensures.items)) c.print_now.ensures.calls

pub returns-clause-flushed : goal.returns-clause-flushed
returns-clause-flushed g c = (call.Took c.as_slice.result.now ∷ c.args.output.now.calls, c.in_ok-print_now.ensures.flushed)
