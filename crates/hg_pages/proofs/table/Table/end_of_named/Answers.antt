use Rattle.std.proofs.Common.{◌≡◌, ◌<◌, ℕ, sym, ⊎_elim, subst}
use Rattle.hg_pages.specs.Tables.{IsNamed}
use Rattle.hg_pages.proofs.Searching.{less_or_last}
use Rattle.hg_pages.proofs.table.Table.end_of_named.Goals as goal

pub loop-slot-preserved : goal.loop-slot-preserved
loop-slot-preserved c slot le lt =
    ⊎_elim (λ (before : slot < c.loop-slot.slot). c.loop-slot.invariant slot le before)
    (λ (here : slot ≡ c.loop-slot.slot). subst (λ (n : ℕ). IsNamed c.args.self.now.entries n) (sym here) (c.names.ensures.0 c.if-not-names.false))
    (less_or_last slot c.loop-slot.slot lt)
