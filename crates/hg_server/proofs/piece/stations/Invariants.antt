use Rattle.std.proofs.Common.{◌≡◌, All}
use Rattle.hg_desk.specs.Told.{nothing_told}
use Rattle.hg_server.proofs.piece.stations.Given as goal

abbrev pub invariant-loop-share : goal.invariant-loop-share
invariant-loop-share g l = All (λ s. s ≡ nothing_told) l.share-iterator.rest.items × All (λ s. s.share ≡ nothing_told) l.all.items
