use Rattle.std.proofs.Common.{◌≡◌, ◌∙◌, ◌++◌, ℕ, List, append_assoc, ap, codes, subst}
use Rattle.hg_streams.specs.declared.call.WriteCall.{WriteCall}
use Rattle.hg_streams.proofs.Printed.{always_err, appends_on, front_more}
use Rattle.hg_streams.specs.Written.{Took, TookFront}
use Rattle.hg_streams.specs.Texts.{line_text, number_text, counts_line}
use Rattle.hg_streams.proofs.Fronts.{printed_front_on, took_front}
use Rattle.hg_streams.specs.Printed.{IsPrintedNow}
use Rattle.hg_store.specs.Shown.{live}
use Rattle.hg_server.proofs.serving.print_end.Goals as goal

-- the line of connections, whatever came of it
served_line : (old new : List WriteCall) (n m : ℕ) → n ≡ m → IsPrintedNow old new (number_text (codes "served ") n) → IsPrintedNow old new (number_text (codes "served ") m)
served_line old new n m same = subst (λ (k : ℕ). IsPrintedNow old new (number_text (codes "served ") k)) same

took_line : (old new : List WriteCall) (n m : ℕ) → n ≡ m → Took old new (number_text (codes "served ") n) → Took old new (number_text (codes "served ") m)
took_line old new n m same = subst (λ (k : ℕ). Took old new (number_text (codes "served ") k)) same

pub returns-clause-printed : goal.returns-clause-printed
returns-clause-printed g c =
    let end : List ℕ = line_text (counts_line (live g.D.Disk c.args.store.now)) in
    let old = c.args.output.now.calls in
    let mid = c.print_number.new.output.calls in
    let held : c.hold_end_line.new.held.items ≡ end = c.in_ok-hold_end_line.ensures.ok ∙ ap (λ (l : List ℕ). l ++ end) c.new-held.ensures.items in
    appends_on old mid c.print_now.new.output.calls (number_text (codes "served ") c.args.settings.connections) end
    (took_line old mid c.from.result c.args.settings.connections c.from.ensures c.in_ok-print_number.ensures.printed)
    (subst (Took mid c.print_now.new.output.calls) (c.as_slice.ensures.value ∙ held) c.in_ok-print_now.ensures.printed)

pub returns-in_err-print_number-clause-front : goal.returns-in_err-print_number-clause-front
returns-in_err-print_number-clause-front g c first before t =
    let end : List ℕ = line_text (counts_line (live g.D.Disk c.args.store.now)) in
    let line : List ℕ = number_text (codes "served ") c.args.settings.connections in
    let old = c.args.output.now.calls in
    let new = c.print_number.new.output.calls in
    always_err _ (front_more first new (before ++ line) end (before ++ (line ++ end)) (append_assoc before line end)
    (printed_front_on first old new before line t (served_line old new c.from.result c.args.settings.connections c.from.ensures c.print_number.ensures.calls)))

pub returns-in_err-hold_end_line-clause-front : goal.returns-in_err-hold_end_line-clause-front
returns-in_err-hold_end_line-clause-front g c first before t =
    let end : List ℕ = line_text (counts_line (live g.D.Disk c.args.store.now)) in
    let line : List ℕ = number_text (codes "served ") c.args.settings.connections in
    let old = c.args.output.now.calls in
    let mid = c.print_number.new.output.calls in
    always_err _ (front_more first mid (before ++ line) end (before ++ (line ++ end)) (append_assoc before line end)
    (took_front first mid (before ++ line) (appends_on first old mid before line t
    (took_line old mid c.from.result c.args.settings.connections c.from.ensures c.in_ok-print_number.ensures.printed))))

pub returns-in_err-print_now-clause-front : goal.returns-in_err-print_now-clause-front
returns-in_err-print_now-clause-front g c first before t =
    let end : List ℕ = line_text (counts_line (live g.D.Disk c.args.store.now)) in
    let line : List ℕ = number_text (codes "served ") c.args.settings.connections in
    let old = c.args.output.now.calls in
    let mid = c.print_number.new.output.calls in
    let new = c.print_now.new.output.calls in
    let held : c.hold_end_line.new.held.items ≡ end = c.in_ok-hold_end_line.ensures.ok ∙ ap (λ (l : List ℕ). l ++ end) c.new-held.ensures.items in
    always_err _ (subst (TookFront first new) (append_assoc before line end)
    (printed_front_on first mid new (before ++ line) end
    (appends_on first old mid before line t (took_line old mid c.from.result c.args.settings.connections c.from.ensures c.in_ok-print_number.ensures.printed))
    (subst (IsPrintedNow mid new) (c.as_slice.ensures.value ∙ held) c.print_now.ensures.calls)))
