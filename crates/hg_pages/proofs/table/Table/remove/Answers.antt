use Rattle.std.proofs.Common.{if◌then◌else◌, ◌==◌, ◌≡◌, ℕ, List, Bool, Option, None, ap, sym, ◌∙◌, subst}
use Rattle.hg_pages.specs.Marks.{AreMarks, Parts}
use Rattle.hg_pages.specs.Tables.{ShownTable, slot_in}
use Rattle.hg_pages.proofs.Parting.{entries_taken, former_within, look_put, looked, marks_taken}
use Rattle.hg_pages.proofs.table.Table.remove.Goals as goal

pub clear-requires : goal.clear-requires
clear-requires c slot is =
    former_within c.args.page slot c.self.inside.entries.items c.self.inside.named.items
    (subst (λ (former : Option ℕ). Parts c.args.page former c.self.inside.entries.items) is c.take_out-former.ensures.taken.parts) c.self.invariant.1

pub invariant_of-self : goal.invariant_of-self
invariant_of-self c =
    let old = c.self.inside.entries.items in
    let new = c.take_out-former.new.entries.items in (
      entries_taken c.args.page c.take_out-former.result old new c.take_out-former.ensures.taken c.self.invariant.0,
      subst (λ (marks : List Bool). AreMarks marks new) (sym c.clear.ensures.marks)
          (marks_taken c.args.page c.take_out-former.result old new c.self.inside.named.items c.take_out-former.ensures.taken c.self.invariant.0 c.self.invariant.1),
    )

pub returns-clause-answer : goal.returns-clause-answer
returns-clause-answer c =
    sym (looked c.args.page c.take_out-former.result c.self.inside.entries.items c.take_out-former.ensures.taken.parts) ∙ ap (λ (s : ShownTable). slot_in s.entries c.args.page) c.self.view_is

pub returns-clause-removed : goal.returns-clause-removed
returns-clause-removed c =
    subst (λ (s : ShownTable). (other : ℕ) → slot_in c.take_out-former.new.entries.items other ≡ (if c.args.page == other then None else slot_in s.entries other)) c.self.view_is
    (look_put c.args.page c.take_out-former.result None c.self.inside.entries.items c.take_out-former.new.entries.items c.take_out-former.ensures.taken)
