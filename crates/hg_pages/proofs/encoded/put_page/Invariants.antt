use Rattle.std.proofs.Common.{◌≡◌, ◌+◌, ◌*◌, length, take}
use Rattle.std.specs.List.{AllByRecursion}
use Rattle.hg_pages.specs.Slots.{CellFits, slot_text}
use Rattle.hg_pages.proofs.encoded.put_page.Given as goal

abbrev pub invariant-loop-word : goal.invariant-loop-word
invariant-loop-word l = record {
  size : length l.bytes ≡ 3080;
  front : take (8 + 12 * l.word) l.bytes ≡ slot_text l.page (take l.word l.cells);
  fit : AllByRecursion CellFits (take l.word l.cells);
}
