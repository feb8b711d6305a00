use Rattle.std.proofs.Common.{◌≡◌, ◌++◌, take}
use Rattle.std.specs.List.{flat_map}
use Rattle.hg_check.proofs.explain.pieces.hold_all.Given as goal

abbrev pub invariant-loop-piece : goal.invariant-loop-piece
invariant-loop-piece l = (l.held.items ≡ l.initial.held.items ++ flat_map (λ piece. piece.now) (take l.piece-index l.pieces))
