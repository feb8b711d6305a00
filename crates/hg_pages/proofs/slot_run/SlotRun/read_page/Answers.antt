use Rattle.std.proofs.Common.{ℕ, List, subst}
use Rattle.hg_pages.specs.Slots.{IsNoKnownSlot, IsSlot}
use Rattle.hg_pages.proofs.Runs.{part_is}
use Rattle.hg_pages.proofs.slot_run.SlotRun.read_page.Goals as goal

pub returns-clause-yes : goal.returns-clause-yes
returns-clause-yes c right =
    let is = c.decode_into.ensures.yes right in
    (subst (λ (l : List ℕ). IsSlot c.args.page c.decode_into.new.cells l) (part_is c.args.self.now c.self.inside.bytes c.args.place c.self.view_is) is.0, is.1)

pub returns-clause-no : goal.returns-clause-no
returns-clause-no c wrong =
    subst (λ (l : List ℕ). IsNoKnownSlot c.args.page c.args.segments c.args.sets.now.sets l) (part_is c.args.self.now c.self.inside.bytes c.args.place c.self.view_is) (c.decode_into.ensures.no wrong)
