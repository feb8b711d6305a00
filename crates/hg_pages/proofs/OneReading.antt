-- Bytes are the slot of one page, with one list of cells.
use Rattle.std.proofs.Common.{◌≡◌, ◌<◌, ◌*◌, ◌∙◌, ℕ, suc, List, [], ◌∷◌, length, get_or, refl, sym, arith}
use Rattle.hg_cells.specs.declared.cell.Cell.{Cell}
use Rattle.hg_cells.specs.declared.cell.Cell.TheVariants.{New}
use Rattle.hg_pages.specs.Slots.{CellFits, HasSlot, IsSlot, slot_text}
use Rattle.hg_pages.proofs.Decoding.{cell_bytes_are, each_at, number_bytes_are, one_cell, one_number}
use Rattle.hg_pages.proofs.Keeping.{one_at}

same_cells : (xs ys : List Cell) → length xs ≡ length ys → ((i : ℕ) → i < length xs → get_or xs i New ≡ get_or ys i New) → xs ≡ ys
same_cells [] [] size same = refl
same_cells [] (y ∷ ys) size same = absurd (cc size)
same_cells (x ∷ xs) [] size same = absurd (cc size)
same_cells (x ∷ xs) (y ∷ ys) size same =
    let first : x ≡ y = same 0 (omega arith) in
    let rest = same_cells xs ys (omega (arith, size)) (λ i lt. same (suc i) (omega (arith, lt))) in
    λ j. first j ∷ rest j

pub one_page : (bytes : List ℕ) (page other : ℕ) (cells others : List Cell) → IsSlot page cells bytes → IsSlot other others bytes → (page ≡ other) × (cells ≡ others)
one_page bytes page other cells others a b = (
  one_number page other (omega (arith, a.page_is.number)) (omega (arith, b.page_is.number)) (sym (number_bytes_are page cells bytes a) ∙ number_bytes_are other others bytes b),
  same_cells cells others (a.page_is.words ∙ sym b.page_is.words) (λ i lt.
      let inside : i < 256 = omega (arith, lt, a.page_is.words) in
      one_cell (get_or cells i New) (get_or others i New) (each_at CellFits cells i lt a.page_is.fit) (each_at CellFits others i (omega (arith, inside, b.page_is.words)) b.page_is.fit)
      (sym (cell_bytes_are page cells bytes i inside a) ∙ cell_bytes_are other others bytes i inside b)),
)

pub one_page_in : (file : List ℕ) (slot page other : ℕ) (cells others : List Cell) → HasSlot slot page cells file → HasSlot slot other others file → (page ≡ other) × (cells ≡ others)
one_page_in file slot page other cells others a b =
    let same : slot_text page cells ≡ slot_text other others = one_at file (3080 * slot) (slot_text page cells) (slot_text other others) (a.bytes.0 ∙ sym b.bytes.0) a.bytes.1 b.bytes.1 in
    one_page (slot_text page cells) page other cells others (record { page_is = a.page_is; spelling = refl }) (record { page_is = b.page_is; spelling = same })
