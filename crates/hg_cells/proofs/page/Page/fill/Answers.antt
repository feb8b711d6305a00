use Rattle.std.proofs.Common.{ap, set, length-set, ◌∙◌, arith}
use Rattle.hg_cells.specs.Pages.{filled}
use Rattle.hg_cells.proofs.Filling.{filled_more, filled_one}
use Rattle.hg_cells.proofs.page.Page.fill.Goals as goal

pub loop-place-preserved : goal.loop-place-preserved
loop-place-preserved c =
    let known = c.loop-place.invariant in
    record {
      cells = ap (λ cells. set cells c.loop-place.place c.args.cell) known.cells ∙ filled_more c.self.inside.cells c.args.from c.loop-place.place c.args.cell (omega arith) (omega arith);
      words = length-set c.loop-place.self-inside.cells c.loop-place.place c.args.cell ∙ known.words;
    }

pub returns-then-to-from-clause-cells : goal.returns-then-to-from-clause-cells
returns-then-to-from-clause-cells c =
    filled_one c.self.inside.cells c.args.from c.args.to c.args.cell (omega arith) (omega arith) ∙ ap (λ cells. filled cells c.args.from c.args.to c.args.cell) c.self.view_is
