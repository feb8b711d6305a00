use Rattle.std.proofs.Common.{◌≡◌, ◌<◌, ℕ, List, false, length, get_or, ap, sym, ◌∙◌, subst, arith}
use Rattle.std.proofs.lemmas.Bool.{ltb-true}
use Rattle.std.proofs.lemmas.List.{get_or_default}
use Rattle.hg_pages.specs.Tables.{IsNamed, ShownTable}
use Rattle.hg_pages.proofs.Parting.{within}
use Rattle.hg_pages.proofs.Rising.{named_by, page_of}
use Rattle.hg_pages.proofs.table.Table.names.Goals as goal

pub returns-then-slot-len : goal.returns-then-slot-len
returns-then-slot-len c =
    let marks = c.self.inside.named.items in
    let inside : c.args.slot < length marks = omega (arith, c.if-slot-len.true, c.len.ensures) in
    let here : get_or marks c.args.slot false ≡ c.index.result.now = get_or_default marks c.args.slot false c.index.result.now inside ∙ sym c.index.ensures in
    let entries : c.self.inside.entries.items ≡ c.args.self.now.entries = ap (λ (s : ShownTable). s.entries) c.self.view_is in (
      λ h. subst (λ (l : List (ℕ × ℕ)). IsNamed l c.args.slot) entries (page_of c.self.inside.entries.items c.args.slot c.self.invariant.0.rising (sym (c.self.invariant.1 c.args.slot) ∙ here ∙ h)),
      λ named. let was = subst (λ (l : List (ℕ × ℕ)). IsNamed l c.args.slot) (sym entries) named in
          sym here ∙ c.self.invariant.1 c.args.slot ∙ named_by c.self.inside.entries.items was.0 c.args.slot was.1,
    )

pub returns-else-slot-len : goal.returns-else-slot-len
returns-else-slot-len c =
    let marks = c.self.inside.named.items in
    let entries : c.self.inside.entries.items ≡ c.args.self.now.entries = ap (λ (s : ShownTable). s.entries) c.self.view_is in (
      λ h. absurd (omega (arith, ltb-true c.args.slot c.len.result h, c.if-slot-len.false)),
      λ named. let was = subst (λ (l : List (ℕ × ℕ)). IsNamed l c.args.slot) (sym entries) named in
          absurd (omega (arith, within marks c.args.slot (c.self.invariant.1 c.args.slot ∙ named_by c.self.inside.entries.items was.0 c.args.slot was.1), c.if-slot-len.false, c.len.ensures)),
    )
