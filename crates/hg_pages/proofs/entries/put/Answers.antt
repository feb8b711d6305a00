use Rattle.std.proofs.Common.{ℕ, List, Some, None, ap, sym, ◌∙◌, subst, is_some}
use Rattle.hg_pages.specs.Marks.{BelongsAt, Puts, StandsAt}
use Rattle.hg_pages.proofs.Parting.{looked, parts_missing, put_missing, put_standing}
use Rattle.hg_pages.proofs.entries.put.Goals as goal

pub returns-in-Ok-clause-ok : goal.returns-in-Ok-clause-ok
returns-in-Ok-clause-ok c =
    let entries = c.args.entries.now.items in
    let former = c.at-former.result in
    let at : StandsAt c.args.page entries c.in-Ok.place = c.in-Ok.ensures in
    subst (λ (l : List (ℕ × ℕ)). Puts c.args.page (Some former.1) (Some c.args.slot) entries l) (sym c.set.ensures.items)
    (put_standing c.args.page former.1 c.args.slot c.in-Ok.place entries former at (ap (λ (e : ℕ × ℕ). e.1) (sym c.at-former.ensures)))

pub returns-in_ok-insert-in-Err-clause-ok : goal.returns-in_ok-insert-in-Err-clause-ok
returns-in_ok-insert-in-Err-clause-ok c =
    let entries = c.args.entries.now.items in
    let at : BelongsAt c.args.page entries c.in-Err.place = c.in-Err.ensures in
    subst (λ (l : List (ℕ × ℕ)). Puts c.args.page None (Some c.args.slot) entries l) (sym c.in_ok-insert-in-Err.ensures.items) (put_missing c.args.page c.args.slot c.in-Err.place entries at)

pub returns-in_err-insert-in-Err-clause-replaces : goal.returns-in_err-insert-in-Err-clause-replaces
returns-in_err-insert-in-Err-clause-replaces c there =
    let entries = c.args.entries.now.items in
    let at : BelongsAt c.args.page entries c.in-Err.place = c.in-Err.ensures in
    absurd (cc (sym (ap is_some (looked c.args.page None entries (parts_missing c.args.page c.in-Err.place entries at))) ∙ there))
