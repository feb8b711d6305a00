-- The text of reports, while they grow.
use Rattle.std.proofs.Common.{◌≡◌, ℕ, suc, ◌+◌, List, [], ◌∷◌, ◌++◌, length, drop, refl, sym, ap, subst, ◌∙◌, arith}
use Rattle.std.proofs.lemmas.List.{append-nil, append_assoc}
use Rattle.hg_streams.specs.declared.listing.Listing.{Listing}
use Rattle.hg_streams.specs.declared.listing.Listing.TheVariants.{Reports, Segments}
use Rattle.hg_streams.specs.declared.call.WriteCall.{WriteCall}
use Rattle.hg_model.specs.declared.report.Report.{Report}
use Rattle.hg_model.specs.Contents.{Content}
use Rattle.hg_wire.specs.Reports.{report_line}
use Rattle.hg_streams.specs.Texts.{line_text, reports_text}
use Rattle.hg_streams.specs.Holding.{IsDue}
use Rattle.hg_check.specs.Running.{live_text, ReportsGrow}
use Rattle.hg_streams.proofs.Printed.{due_more}

reports_text_on : (k : ℕ) (xs ys : List Report) → reports_text k (xs ++ ys) ≡ reports_text k xs ++ reports_text (k + length xs) ys
reports_text_on k [] ys = let same : k ≡ k + 0 = omega arith in ap (λ (n : ℕ). reports_text n ys) same
reports_text_on k (x ∷ xs) ys =
    let same : k + 1 + length xs ≡ k + suc (length xs) = omega arith in
    ap (λ t. line_text (report_line k x) ++ t) (reports_text_on (k + 1) xs ys ∙ ap (λ (n : ℕ). reports_text (k + 1) xs ++ reports_text n ys) same)
    ∙ sym (append_assoc (line_text (report_line k x)) (reports_text (k + 1) xs) (reports_text (k + suc (length xs)) ys))

drop_front : (xs ys : List Report) → drop (length xs) (xs ++ ys) ≡ ys
drop_front [] ys = refl
drop_front (x ∷ xs) ys = drop_front xs ys

-- the text of all reports is that of the earlier ones and that of the new ones
reports_text_grows : (old new : Content) (from : ℕ) → from ≡ length old.reports → ReportsGrow old new
    → reports_text 1 old.reports ++ (reports_text (from + 1) (drop from new.reports) ++ []) ≡ reports_text 1 new.reports
reports_text_grows old new from is grow =
    let place : 1 + length old.reports ≡ from + 1 = omega (arith, is) in
    let later : drop from new.reports ≡ grow.0 = ap (λ (n : ℕ). drop n new.reports) is ∙ (ap (λ xs. drop (length old.reports) xs) grow.1 ∙ drop_front old.reports grow.0) in
    ap (λ t. reports_text 1 old.reports ++ t) (append-nil (reports_text (from + 1) (drop from new.reports)) ∙ ap (λ xs. reports_text (from + 1) xs) later)
    ∙ (ap (λ (n : ℕ). reports_text 1 old.reports ++ reports_text n grow.0) (sym place)
    ∙ (sym (reports_text_on 1 old.reports grow.0) ∙ ap (λ xs. reports_text 1 xs) (sym grow.1)))

-- the new reports are to come
pub new_reports_due : (first now : List WriteCall) (held : List ℕ) (old new : Content) (from : ℕ) → from ≡ length old.reports → ReportsGrow old new
    → IsDue first now held [] (reports_text 1 old.reports) → IsDue first now held (reports_text (from + 1) (drop from new.reports) ++ []) (reports_text 1 new.reports)
new_reports_due first now held old new from is grow p =
    subst (λ t. IsDue first now held (reports_text (from + 1) (drop from new.reports) ++ []) t) (reports_text_grows old new from is grow)
    (due_more first now held (reports_text 1 old.reports) (reports_text (from + 1) (drop from new.reports) ++ []) p)

pub live_text_grows : (listing : Listing) (c d : Content) → ReportsGrow c d → (more : List ℕ) × (live_text listing c ++ more ≡ live_text listing d)
live_text_grows Reports c d grow =
    (reports_text (1 + length c.reports) grow.0, sym (ap (λ xs. reports_text 1 xs) grow.1 ∙ reports_text_on 1 c.reports grow.0))
live_text_grows Segments c d grow = ([], refl)
