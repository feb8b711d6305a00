use Rattle.std.proofs.Common.{if◌then◌else◌, ◌==◌, ◌≡◌, ℕ, List, Bool, Option, Some, length, sym, ◌∙◌, subst, arith, ◌+◌, is_some}
use Rattle.hg_pages.specs.Marks.{AreMarks, Parts}
use Rattle.hg_pages.specs.Tables.{ShownTable, slot_in}
use Rattle.hg_pages.proofs.Parting.{entries_put, former_within, length_put, look_put, marks_put}
use Rattle.hg_pages.proofs.table.Table.set.Goals as goal

pub mark-requires-clause-former : goal.mark-requires-clause-former
mark-requires-clause-former c slot is =
    former_within c.args.page slot c.self.inside.entries.items c.reach.new.named.items
    (subst (λ (former : Option ℕ). Parts c.args.page former c.self.inside.entries.items) is c.in_ok-former.ensures.ok.parts) (λ other. c.reach.ensures.same other ∙ c.self.invariant.1 other)

pub invariant_of-self-2 : goal.invariant_of-self-2
invariant_of-self-2 c =
    let old = c.self.inside.entries.items in
    let new = c.put.new.entries.items in
    let free = subst (λ (s : ShownTable). (other : ℕ) → slot_in s.entries other ≡ Some c.args.slot → other ≡ c.args.page) (sym c.self.view_is) c.requires.free in (
      entries_put c.args.page c.args.slot c.in_ok-former.former old new c.in_ok-former.ensures.ok c.self.invariant.0 free,
      subst (λ (marks : List Bool). AreMarks marks new) (sym c.mark.ensures.marks)
          (marks_put c.args.page c.args.slot c.in_ok-former.former old new c.reach.new.named.items c.in_ok-former.ensures.ok (omega (arith, c.in_ok-reach.ensures.reached)) c.self.invariant.0
          (λ other. c.reach.ensures.same other ∙ c.self.invariant.1 other)),
    )

pub returns-clause-ok : goal.returns-clause-ok
returns-clause-ok c =
    subst (λ (s : ShownTable). (other : ℕ) → slot_in c.put.new.entries.items other ≡ (if c.args.page == other then Some c.args.slot else slot_in s.entries other)) c.self.view_is
    (look_put c.args.page c.in_ok-former.former (Some c.args.slot) c.self.inside.entries.items c.put.new.entries.items c.in_ok-former.ensures.ok)

pub returns-clause-length : goal.returns-clause-length
returns-clause-length c =
    subst (λ (s : ShownTable). length c.put.new.entries.items ≡ length s.entries + (if is_some (slot_in s.entries c.args.page) then 0 else 1)) c.self.view_is
    (length_put c.args.page c.args.slot c.in_ok-former.former c.self.inside.entries.items c.put.new.entries.items c.in_ok-former.ensures.ok)
