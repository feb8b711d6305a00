use Rattle.std.proofs.Common.{◌≡◌, ◌*◌, false, IsTrue, take, drop}
use Rattle.std.specs.List.{flat_map, AllByRecursion}
use Rattle.hg_pages.specs.Slots.{CellFits, cell_text, slot_text}
use Rattle.hg_pages.proofs.encoded.is_text.Given as goal

abbrev pub invariant-loop-word : goal.invariant-loop-word
invariant-loop-word l = record {
  spelled : IsTrue l.are_same → take (12 * l.word) (drop 8 l.bytes) ≡ flat_map cell_text (take l.word l.cells);
  other : l.are_same ≡ false → l.bytes ≡ slot_text l.page l.cells → ⊥;
  fit : AllByRecursion CellFits (take l.word l.cells);
}
