use Rattle.std.proofs.Common.{◌≡◌, ◌-◌}
use Rattle.hg_root.specs.Reading.{times}
use Rattle.hg_root.proofs.Times.{with_front}
use Rattle.hg_root.proofs.piece.take_into.Given as goal

abbrev pub invariant-loop : goal.invariant-loop
invariant-loop g l = with_front g.T.Piece.reading l.items.items (times g.T.Piece.reading (l.count - l.counter) l.rest) ≡ times g.T.Piece.reading l.count l.bytes
