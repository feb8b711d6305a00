use Rattle.std.proofs.Common.{ℕ, List, Some, None, ap, sym, subst}
use Rattle.hg_pages.specs.Marks.{BelongsAt, Puts, StandsAt}
use Rattle.hg_pages.proofs.Parting.{taken_missing, taken_standing}
use Rattle.hg_pages.proofs.entries.take_out.Goals as goal

pub returns-in-Ok-clause-taken : goal.returns-in-Ok-clause-taken
returns-in-Ok-clause-taken c =
    let entries = c.args.entries.now.items in
    let at : StandsAt c.args.page entries c.in-Ok.place = c.in-Ok.ensures in
    subst (λ (l : List (ℕ × ℕ)). Puts c.args.page (Some c.remove.result.1) None entries l) (sym c.remove.ensures.items)
    (taken_standing c.args.page c.remove.result.1 c.in-Ok.place entries c.remove.result at (ap (λ (e : ℕ × ℕ). e.1) (sym c.remove.ensures.value)))

pub returns-in-Err-clause-taken : goal.returns-in-Err-clause-taken
returns-in-Err-clause-taken c =
    let entries = c.args.entries.now.items in
    let at : BelongsAt c.args.page entries c.in-Err.field-0 = c.in-Err.ensures in
    taken_missing c.args.page c.in-Err.field-0 entries at
