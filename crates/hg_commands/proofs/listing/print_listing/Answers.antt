use Rattle.std.proofs.Common.{◌≡◌, [], refl, sym, subst, ap, ◌∙◌}
use Rattle.std.proofs.lemmas.List.{append-nil}
use Rattle.std.proofs.lemmas.Result.{on_ok_weaker}
use Rattle.hg_store.specs.Shown.{live}
use Rattle.hg_streams.specs.Holding.{IsDue}
use Rattle.hg_streams.specs.Texts.{line_text, reports_text, segments_text, counts_line}
use Rattle.hg_streams.specs.declared.listing.Listing.TheVariants.{Reports}
use Rattle.hg_commands.specs.Listings.{listing_text}
use Rattle.hg_streams.specs.Written.{TookFront}
use Rattle.hg_streams.proofs.Printed.{always_err, due_at_first, due_line, due_more, front_due, front_more, front_none}
use Rattle.hg_streams.proofs.Fronts.{on_err_weaker}
use Rattle.hg_commands.proofs.listing.print_listing.Goals as goal

pub returns-in_ok-print_kept-in-Reports-clause-printed : goal.returns-in_ok-print_kept-in-Reports-clause-printed
returns-in_ok-print_kept-in-Reports-clause-printed g c =
    let old = c.args.output.now.calls in
    let mid = c.print_kept.new.output.calls in
    let content = live g.D.Disk c.args.store.now in
    let kept = reports_text 1 content.reports in
    let same : reports_text 1 c.as_slice.result.now ≡ kept = ap (λ xs. reports_text 1 xs) (c.as_slice.ensures.value ∙ c.in_ok-reports-in-Reports.ensures.reports) in
    on_ok_weaker c.hold_end_line.result
    (λ h. subst (λ x. IsDue old mid c.hold_end_line.new.held.items [] (listing_text x content)) (sym c.in-Reports.is)
    (due_line old mid c.print_kept.new.held.items c.hold_end_line.new.held.items (line_text (counts_line content)) kept h
    (c.in_ok-print_kept-in-Reports.ensures.printed old [] kept
    (subst (λ t. IsDue old old c.args.held.now.items t kept) (sym same ∙ sym (append-nil (reports_text 1 c.as_slice.result.now)))
    (due_more old old c.args.held.now.items [] kept (due_at_first old c.args.held.now.items c.requires.none))))))
    c.hold_end_line.ensures.ok

pub returns-in_err-reports-in-Reports-clause-front : goal.returns-in_err-reports-in-Reports-clause-front
returns-in_err-reports-in-Reports-clause-front g c = always_err _ (front_none c.args.output.now.calls (listing_text c.args.listing (live g.D.Disk c.args.store.now)))

pub returns-in_err-print_kept-in-Reports-clause-front : goal.returns-in_err-print_kept-in-Reports-clause-front
returns-in_err-print_kept-in-Reports-clause-front g c =
    let old = c.args.output.now.calls in
    let mid = c.print_kept.new.output.calls in
    let content = live g.D.Disk c.args.store.now in
    let kept = reports_text 1 content.reports in
    let same : reports_text 1 c.as_slice.result.now ≡ kept = ap (λ xs. reports_text 1 xs) (c.as_slice.ensures.value ∙ c.in_ok-reports-in-Reports.ensures.reports) in
    always_err _ (subst (λ x. TookFront old mid (listing_text x content)) (sym c.in-Reports.is)
    (front_more old mid kept (line_text (counts_line content)) (listing_text Reports content) refl
    (c.in_err-print_kept-in-Reports.ensures.front old [] kept
    (subst (λ t. IsDue old old c.args.held.now.items t kept) (sym same ∙ sym (append-nil (reports_text 1 c.as_slice.result.now)))
    (due_more old old c.args.held.now.items [] kept (due_at_first old c.args.held.now.items c.requires.none))))))

pub returns-in_ok-print_kept-in-Reports-clause-front : goal.returns-in_ok-print_kept-in-Reports-clause-front
returns-in_ok-print_kept-in-Reports-clause-front g c =
    let old = c.args.output.now.calls in
    let mid = c.print_kept.new.output.calls in
    let content = live g.D.Disk c.args.store.now in
    let kept = reports_text 1 content.reports in
    let same : reports_text 1 c.as_slice.result.now ≡ kept = ap (λ xs. reports_text 1 xs) (c.as_slice.ensures.value ∙ c.in_ok-reports-in-Reports.ensures.reports) in
    always_err _ (subst (λ x. TookFront old mid (listing_text x content)) (sym c.in-Reports.is)
    (front_more old mid kept (line_text (counts_line content)) (listing_text Reports content) refl
    (front_due old mid c.print_kept.new.held.items [] kept
    (c.in_ok-print_kept-in-Reports.ensures.printed old [] kept
    (subst (λ t. IsDue old old c.args.held.now.items t kept) (sym same ∙ sym (append-nil (reports_text 1 c.as_slice.result.now)))
    (due_more old old c.args.held.now.items [] kept (due_at_first old c.args.held.now.items c.requires.none)))))))

pub returns-in_ok-graph-in-Segments-clause-front : goal.returns-in_ok-graph-in-Segments-clause-front
returns-in_ok-graph-in-Segments-clause-front g c =
    let old = c.args.output.now.calls in
    let content = live g.D.Disk c.args.store.now in
    let text = segments_text 0 content.segments in
    let same : segments_text 0 c.in_ok-graph-in-Segments.field-0.now ≡ text = ap (λ xs. segments_text 0 xs) c.in_ok-graph-in-Segments.ensures.segments in
    on_err_weaker c.print_segments.result
    (λ f. subst (λ x. TookFront old c.print_segments.new.output.calls (listing_text x content)) (sym c.in-Segments.is) f)
    (c.print_segments.ensures.front old [] text
    (subst (λ t. IsDue old old c.args.held.now.items t text) (sym same ∙ sym (append-nil (segments_text 0 c.in_ok-graph-in-Segments.field-0.now)))
    (due_more old old c.args.held.now.items [] text (due_at_first old c.args.held.now.items c.requires.none))))
