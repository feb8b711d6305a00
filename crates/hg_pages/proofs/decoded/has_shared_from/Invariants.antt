use Rattle.std.proofs.Common.{◌≡◌, ℕ, List, false}
use Rattle.hg_pages.specs.Numbers.{HaveThreadSets}
use Rattle.hg_pages.proofs.decoded.has_shared_from.Given as goal

abbrev pub invariant-loop-word : goal.invariant-loop-word
invariant-loop-word l = l.has_shared ≡ false → (sets : List (List ℕ)) → HaveThreadSets sets l.from l.bytes → HaveThreadSets sets l.word l.bytes
