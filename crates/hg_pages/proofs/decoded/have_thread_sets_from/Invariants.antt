use Rattle.std.proofs.Common.{◌≡◌, IsTrue, false}
use Rattle.hg_pages.specs.Numbers.{HaveThreadSets, LacksThreadSet}
use Rattle.hg_pages.proofs.decoded.have_thread_sets_from.Given as goal

abbrev pub invariant-loop-word : goal.invariant-loop-word
invariant-loop-word l = record {
  yes : IsTrue l.have_all → HaveThreadSets l.sets.sets l.from l.bytes → HaveThreadSets l.sets.sets l.word l.bytes;
  no : l.have_all ≡ false → LacksThreadSet l.sets.sets l.bytes;
}
