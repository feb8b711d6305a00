use Rattle.std.proofs.Common.{◌≡◌, false, IsTrue, length}
use Rattle.hg_pages.specs.Numbers.{AreOfNoneWithin, AreRead, HasNoShared}
use Rattle.hg_pages.proofs.decoded.read_cells.Given as goal

abbrev pub invariant-loop-word : goal.invariant-loop-word
invariant-loop-word l = record {
  words : length l.cells ≡ 256;
  read : IsTrue l.are_right → AreRead l.segments l.sets l.word l.bytes l.cells;
  none : l.are_right ≡ false → AreOfNoneWithin l.segments l.sets l.bytes;
  shared : l.has_shared ≡ false → HasNoShared l.word l.bytes;
}
