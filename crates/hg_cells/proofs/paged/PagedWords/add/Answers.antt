use Rattle.std.proofs.Common.{◌/◌, ◌%◌, ap, ◌∙◌, nat_eq, option_map, arith}
use Rattle.indexmap.specs.IndexMap.{get}
use Rattle.hg_cells.specs.Paged.{StandsIn, cell_at}
use Rattle.hg_cells.proofs.Writing.{absent, page_added}
use Rattle.hg_cells.proofs.paged.PagedWords.add.Goals as goal

pub returns-clause-cells : goal.returns-clause-cells
returns-clause-cells c = λ w.
    let pages = c.args.self.now.pages in
    let number = c.args.number in
    let fresh = c.in_ok-page.ensures.ok in
    let updates = c.in_ok-insert.ensures.updates in
    ap (λ m. cell_at (option_map (λ p. p.value) (get nat_eq m (w / 256))) (w % 256)) c.note.ensures
    ∙ page_added (λ p. p.value) pages c.insert.new.self number c.in_ok-page.page (absent (StandsIn pages number) c.place.result (grind arith) c.place.ensures) (fresh ∙ c.new.ensures) (λ n. updates.0 n) w
