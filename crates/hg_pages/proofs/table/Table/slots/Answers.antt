use Rattle.std.proofs.Common.{◌≡◌, ℕ, List, Some, ap, sym, ◌∙◌, subst, arith}
use Rattle.hg_pages.specs.Tables.{ShownTable, slot_in}
use Rattle.hg_pages.proofs.Parting.{within}
use Rattle.hg_pages.proofs.Rising.{named_by}
use Rattle.hg_pages.proofs.table.Table.slots.Goals as goal

pub returns-clause-below : goal.returns-clause-below
returns-clause-below c page slot is =
    let entries : c.self.inside.entries.items ≡ c.args.self.now.entries = ap (λ (s : ShownTable). s.entries) c.self.view_is in
    let was = subst (λ (l : List (ℕ × ℕ)). slot_in l page ≡ Some slot) (sym entries) is in
    omega (arith, within c.self.inside.named.items slot (c.self.invariant.1 slot ∙ named_by c.self.inside.entries.items page slot was), c.len.ensures)
