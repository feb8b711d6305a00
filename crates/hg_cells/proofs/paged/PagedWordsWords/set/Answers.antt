use Rattle.std.proofs.Common.{◌≡◌, ℕ, ◌/◌, ◌%◌, Bool, true, false, cond, nat_eq, Some, length, is_some, length-set, ap, sym, ◌∙◌, subst, option_map}
use Rattle.hg_cells.specs.declared.cell.Cell.{Cell}
use Rattle.hg_cells.specs.Cells.{IsWithin}
use Rattle.std.specs.Box.{with_value}
use Rattle.hg_cells.specs.Paged.{cell_in, page_of}
use Rattle.hg_cells.proofs.Writing.{none_stands, one_set, pages_written, still_present, stood}
use Rattle.hg_cells.proofs.paged.PagedWordsWords.set.Goals as goal
use Rattle.hg_cells.proofs.paged.PagedWordsWords.set.Goals.{After-self-1}

pub returns-in-Some-get_index_mut-clause-cells : goal.returns-in-Some-get_index_mut-clause-cells
returns-in-Some-get_index_mut-clause-cells c =
    let pages = c.args.self.now.pages in
    let number = c.args.word / 256 in
    let page = c.in-Some-get_index_mut.page.now in
    let cells = c.deref_mut.result.now in
    let there = ap (option_map (λ p. p.value)) (stood pages number c.in-Some.place page c.in-Some.ensures c.in-Some-get_index_mut.ensures.value) ∙ ap Some (sym c.deref_mut.ensures.value) in
    let len = sym (length-set cells (c.args.word % 256) c.args.cell) ∙ ap length (sym c.set.ensures.cells) ∙ c.set.ensures.words in
    one_set (page_of c.args.self.now) _ c.args.word c.args.cell cells there len
    (λ n. pages_written (λ p. p.value) pages number c.in-Some.place (with_value page c.set.new.self) c.get_index_mut.ensures.unique c.in-Some.ensures n ∙ ap (λ x. cond (nat_eq number n) (Some x) (page_of c.args.self.now n)) c.set.ensures.cells)

pub returns-in-Some-get_index_mut-clause-kept : goal.returns-in-Some-get_index_mut-clause-kept
returns-in-Some-get_index_mut-clause-kept c = λ w present.
    let pages = c.args.self.now.pages in
    let number = c.args.word / 256 in
    let page = with_value c.in-Some-get_index_mut.page.now c.set.new.self in
    ap is_some (pages_written (λ p. p.value) pages number c.in-Some.place page c.get_index_mut.ensures.unique c.in-Some.ensures (w / 256))
    ∙ still_present (nat_eq number (w / 256)) page.value (page_of c.args.self.now (w / 256)) present

within : (n m : ℕ) (b : Bool) (new old cell : Cell) → new ≡ cond b cell old → IsWithin n m cell → IsWithin n m old → IsWithin n m new
within n m true new old cell is h k = subst (λ x. IsWithin n m x) (sym is) h
within n m false new old cell is h k = subst (λ x. IsWithin n m x) (sym is) k

pub returns-in-Some-get_index_mut-clause-lawful : goal.returns-in-Some-get_index_mut-clause-lawful
returns-in-Some-get_index_mut-clause-lawful c = λ n m cell before w. within n m (nat_eq w c.args.word) _ (cell_in c.args.self.now w) c.args.cell (returns-in-Some-get_index_mut-clause-cells c w) cell (before w)

pub returns-in-Some-get_index_mut-clause-faithful : goal.returns-in-Some-get_index_mut-clause-faithful
returns-in-Some-get_index_mut-clause-faithful c = λ n m cell before w. within n m (nat_eq w c.args.word) _ (cell_in c.args.self.now w) c.args.cell (returns-in-Some-get_index_mut-clause-cells c w) cell (before w)

pub returns-in_default-get_index_mut-clause-cells : goal.returns-in_default-get_index_mut-clause-cells
returns-in_default-get_index_mut-clause-cells c = absurd (none_stands c.args.self.now.pages (c.args.word / 256) c.in-Some.place c.in-Some.ensures c.in_default-get_index_mut.ensures.value)
