use Rattle.std.proofs.Common.{◌≡◌, ◌+◌, ◌∙◌, ℕ, true, List, length, take, get_or, set, ap, sym, subst, arith}
use Rattle.std.proofs.lemmas.List.{take_all}
use Rattle.hg_pages.specs.Marks.{AreMarks, IsInOrder}
use Rattle.hg_pages.proofs.Places.{in_order, marks_more}
use Rattle.hg_pages.proofs.table.Table.from_entries.Goals as goal

pub loop-entry-preserved : goal.loop-entry-preserved
loop-entry-preserved c =
    let entries = c.deref-entry-items.result.now in
    let is : entries ≡ c.args.entries.items = c.deref-entry-items.ensures.value in
    let i = c.loop-entry.entry-index in
    let marks = c.reach.new.named.items in
    let before : AreMarks marks (take i entries) = subst (λ (l : List (ℕ × ℕ)). AreMarks marks (take i l)) (sym is) (λ other. c.reach.ensures.same other ∙ c.loop-entry.invariant other) in
    subst (λ (l : List (ℕ × ℕ)). AreMarks (set marks (get_or entries i (0, 0)).1 true) (take (i + 1) l)) is
    (marks_more entries i (0, 0) marks c.loop-entry-test.true (omega (arith, c.in_ok-reach.ensures.reached)) before)

pub invariant_of-result : goal.invariant_of-result
invariant_of-result c =
    let entries = c.args.entries.items in
    let all : take c.loop-entry.entry-index entries ≡ entries = take_all c.loop-entry.entry-index entries (omega (arith, c.loop-entry-test.false, ap length c.deref-entry-items.ensures.value)) in
    subst (λ (l : List (ℕ × ℕ)). IsInOrder l × AreMarks c.loop-entry.named.items l) (sym c.from_vec.ensures.items)
    (in_order entries c.requires, subst (λ (l : List (ℕ × ℕ)). AreMarks c.loop-entry.named.items l) all c.loop-entry.invariant)
