use Rattle.std.proofs.Common.{◌≡◌, drop}
use Rattle.hg_sets.specs.Listing.{hash_behind, hash_of}
use Rattle.hg_sets.proofs.lists.hash.Given as goal

-- what is left to hash leads to the hash of all
abbrev pub invariant-loop-x : goal.invariant-loop-x
invariant-loop-x l = hash_behind l.hash (drop l.x-index l.list) ≡ hash_of l.list
