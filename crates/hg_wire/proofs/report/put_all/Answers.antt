use Rattle.std.proofs.Common.{◌∙◌, ◌++◌, ap}
use Rattle.std.specs.List.{flat_map}
use Rattle.std.proofs.lemmas.List.{take_all}
use Rattle.hg_wire.proofs.PieceLemmas.{cut_back, one_more}
use Rattle.hg_wire.proofs.report.put_all.Goals as goal

pub loop-piece-preserved : goal.loop-piece-preserved
loop-piece-preserved c =
    (one_more (λ piece. piece.now) c.args.pieces.now c.loop-piece.piece-index _ c.args.out.now.items _ _ c.loop-piece-test.true c.loop-piece.invariant.0 c.in_default.ensures.items, c.loop-piece.invariant.1)

pub returns-in-Err-clause-err : goal.returns-in-Err-clause-err
returns-in-Err-clause-err c =
    cut_back c.args.out.now.items _ _ _ _ (c.in-Err.ensures.items ∙ c.loop-piece.invariant.0) c.loop-piece.invariant.1 c.truncate.ensures.items

pub returns-clause-ok : goal.returns-clause-ok
returns-clause-ok c =
    c.loop-piece.invariant.0 ∙ ap (λ pieces. c.args.out.now.items ++ flat_map (λ piece. piece.now) pieces) (take_all c.loop-piece.piece-index c.args.pieces.now c.loop-piece-test.false)
