use Rattle.std.proofs.Common.{◌<◌, arith}
use Rattle.std.proofs.lemmas.Option.{IfSome_then}
use Rattle.hg_cells.specs.Words.{HaveCell, IsWithinWhere}
use Rattle.hg_pool.specs.Maps.{live}
use Rattle.hg_pool.specs.OfWords.{MayBring}
use Rattle.hg_pool.proofs.Alike.{page_has, words_have}
use Rattle.hg_pool.proofs.words.PoolWords.peek.Goals as goal

pub returns-clause-cells : goal.returns-clause-cells
returns-clause-cells g c =
    let p = c.args.self.now in
    let first = c.args.first in
    let count = c.args.count in
    IfSome_then c.look.result {Q = HaveCell (live g.D.Disk p) first count} c.look.ensures.cells (λ cell has. words_have g.D.Disk p first count cell c.if-count-from.false has)

pub returns-clause-named : goal.returns-clause-named
returns-clause-named g c =
    let p = c.args.self.now in
    let first = c.args.first in
    let count = c.args.count in
    let some : 0 < count = omega (arith, c.if-count-eq0.false) in
    IfSome_then c.look.result {Q = IsWithinWhere (MayBring p)} c.look.ensures.cells (λ cell has. page_has p first count cell some has)
