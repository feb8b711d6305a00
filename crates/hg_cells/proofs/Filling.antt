-- One more cell given.
use Rattle.std.proofs.Common.{◌≡◌, ℕ, ◌+◌, ◌-◌, ◌<◌, ◌≤◌, List, [], ◌∷◌, ◌++◌, length, get_or, set, take, drop, replicate, sym, ap, ◌∙◌, arith, append_assoc, length-append}
use Rattle.std.proofs.lemmas.List.{drop_more, set_at, append-nil, replicate_more, take-append-drop, length-take-le, length-replicate}
use Rattle.hg_cells.specs.declared.cell.Cell.{Cell}
use Rattle.hg_cells.specs.Pages.{filled}

pub filled_more : (cells : List Cell) (from word : ℕ) (cell : Cell) → from ≤ word → word < length cells → set (filled cells from word cell) word cell ≡ filled cells from (word + 1) cell
filled_more cells from word cell le lt =
    let front : List Cell = take from cells ++ replicate (word - from) cell in
    let long : length front ≡ word = omega (arith, length-append (take from cells) (replicate (word - from) cell), length-take-le from cells (omega arith), length-replicate (word - from) cell) in
    let opened : filled cells from word cell ≡ front ++ get_or cells word cell ∷ drop (word + 1) cells = ap (λ rest. front ++ rest) (drop_more cells word cell lt) in
    let count : word + 1 - from ≡ word - from + 1 = omega arith in
    ap (λ all. set all word cell) opened ∙ set_at front (get_or cells word cell) (drop (word + 1) cells) cell word long
    ∙ sym (append_assoc front (cell ∷ []) (drop (word + 1) cells))
    ∙ ap (λ all. all ++ drop (word + 1) cells) (append_assoc (take from cells) (replicate (word - from) cell) (cell ∷ []) ∙ ap (λ all. take from cells ++ all) (replicate_more (word - from) cell ∙ ap (λ n. replicate n cell) (sym count)))

-- no cell given
filled_none : (cells : List Cell) (from : ℕ) (cell : Cell) → filled cells from from cell ≡ cells
filled_none cells from cell =
    let none : from - from ≡ 0 = omega arith in
    ap (λ n. take from cells ++ replicate n cell ++ drop from cells) none ∙ ap (λ front. front ++ drop from cells) (append-nil (take from cells))
    ∙ take-append-drop from cells

-- one cell given
pub filled_one : (cells : List Cell) (from to : ℕ) (cell : Cell) → to ≡ from + 1 → from < length cells → set cells from cell ≡ filled cells from to cell
filled_one cells from to cell one lt =
    ap (λ all. set all from cell) (sym (filled_none cells from cell)) ∙ filled_more cells from from cell (omega arith) lt ∙ ap (λ end. filled cells from end cell) (sym one)
