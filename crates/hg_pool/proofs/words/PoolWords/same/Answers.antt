use Rattle.std.proofs.Common.{◌/◌, ◌<◌, is_some, ap, sym, subst, arith, ◌∙◌}
use Rattle.std.proofs.lemmas.Option.{IfSome_then}
use Rattle.hg_cells.specs.Words.{HaveCell, IsWithinWhere}
use Rattle.hg_pool.specs.Maps.{live}
use Rattle.hg_pool.specs.OfWords.{IsSettled, MayBring}
use Rattle.hg_pool.specs.Shown.{ShownPool}
use Rattle.hg_pool.proofs.Alike.{page_has, words_have}
use Rattle.hg_pool.proofs.Stepping.{true_on}
use Rattle.hg_pool.proofs.words.PoolWords.same.Goals as goal

pub returns-clause-cells : goal.returns-clause-cells
returns-clause-cells g c =
    let p = c.ask.new.self in
    let first = c.args.first in
    let count = c.args.count in
    IfSome_then c.ask.result {Q = HaveCell (live g.D.Disk p) first count} c.ask.ensures.cells (λ cell has. words_have g.D.Disk p first count cell c.if-count-from.false has)

pub returns-clause-named : goal.returns-clause-named
returns-clause-named g c =
    let p = c.ask.new.self in
    let first = c.args.first in
    let count = c.args.count in
    let some : 0 < count = omega (arith, c.if-count-eq0.false) in
    IfSome_then c.ask.result {Q = IsWithinWhere (MayBring p)} c.ask.ensures.cells (λ cell has. page_has p first count cell some has)

pub returns-clause-true_still : goal.returns-clause-true_still
returns-clause-true_still g c segments sets h = true_on g.D.Disk c.args.self.now c.ask.new.self segments sets c.ask.ensures.stays h

pub returns-clause-brought : goal.returns-clause-brought
returns-clause-brought g c w is = ap is_some (c.ask.ensures.looks (w / 256)) ∙ is

pub returns-clause-kept : goal.returns-clause-kept
returns-clause-kept g c w kept =
    (ap is_some (c.ask.ensures.looks (w / 256)) ∙ kept.0, subst (λ (p : ShownPool g.row.D.Denot). IsSettled p (w / 256)) (sym c.ask.ensures.rest) kept.1)
