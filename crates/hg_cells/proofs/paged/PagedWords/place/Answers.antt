use Rattle.std.proofs.Common.{Some, ap, ◌∙◌, sym, nat_eq}
use Rattle.indexmap.specs.IndexMap.{get}
use Rattle.hg_cells.proofs.paged.PagedWords.place.Goals as goal

pub returns-then-key-number : goal.returns-then-key-number
returns-then-key-number c =
    let page = c.in-Some.field-0-1.now in
    (page, sym c.in-Some.ensures.entry ∙ ap (λ k. Some (k, page)) c.if-key-number.true, ap (λ k. get nat_eq c.args.self.now.pages k) (sym c.if-key-number.true) ∙ c.in-Some.ensures.value)
