use Rattle.std.proofs.Common.{cond, nat_eq, Some, is_some, ap, sym, ◌∙◌, option_map}
use Rattle.std.specs.Box.{with_value}
use Rattle.hg_cells.specs.Paged.{page_of}
use Rattle.hg_cells.proofs.Writing.{none_stands, pages_written, some_filled, still_present, stood}
use Rattle.hg_cells.proofs.paged.PagedWords.fill_page.Goals as goal

pub returns-in-Some-get_index_mut-clause-cells : goal.returns-in-Some-get_index_mut-clause-cells
returns-in-Some-get_index_mut-clause-cells c =
    let pages = c.args.self.now.pages in
    let number = c.args.number in
    let page = c.in-Some-get_index_mut.page.now in
    let cells = c.deref_mut.result.now in
    let there = ap (option_map (λ p. p.value)) (stood pages number c.in-Some.place page c.in-Some.ensures c.in-Some-get_index_mut.ensures.value) ∙ ap Some (sym c.deref_mut.ensures.value) in
    some_filled (page_of c.args.self.now) _ number c.args.from c.args.to c.args.cell cells there c.fill.ensures.words_before c.requires.in_order c.requires.in_page
    (λ n. pages_written (λ p. p.value) pages number c.in-Some.place (with_value page c.fill.new.self) c.get_index_mut.ensures.unique c.in-Some.ensures n ∙ ap (λ x. cond (nat_eq number n) (Some x) (page_of c.args.self.now n)) c.fill.ensures.cells)

pub returns-in-Some-get_index_mut-clause-pages : goal.returns-in-Some-get_index_mut-clause-pages
returns-in-Some-get_index_mut-clause-pages c = λ n present.
    let page = with_value c.in-Some-get_index_mut.page.now c.fill.new.self in
    ap is_some (pages_written (λ p. p.value) c.args.self.now.pages c.args.number c.in-Some.place page c.get_index_mut.ensures.unique c.in-Some.ensures n)
    ∙ still_present (nat_eq c.args.number n) page.value (page_of c.args.self.now n) present

pub returns-in_default-get_index_mut-clause-cells : goal.returns-in_default-get_index_mut-clause-cells
returns-in_default-get_index_mut-clause-cells c = absurd (none_stands c.args.self.now.pages c.args.number c.in-Some.place c.in-Some.ensures c.in_default-get_index_mut.ensures.value)
