use Rattle.std.proofs.Common.{◌≡◌, length}
use Rattle.hg_cells.specs.Pages.{filled}
use Rattle.hg_cells.proofs.page.Page.fill.Given as goal

-- the words up to this one have the cell
abbrev pub invariant-loop-place : goal.invariant-loop-place
invariant-loop-place l = record {
  cells : l.self-inside.cells ≡ filled l.initial.self-inside.cells l.from l.place l.cell;
  words : length l.self-inside.cells ≡ 256;
}
