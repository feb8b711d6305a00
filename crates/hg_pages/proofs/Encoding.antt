-- The bytes of a page, cell by cell.
use Rattle.std.proofs.Common.{◌≡◌, ◌<◌, ◌+◌, ◌*◌, ◌∙◌, subst, ℕ, List, [], ◌∷◌, ◌++◌, length, take, drop, get_or, Some, refl, sym, ap, arith, length-append}
use Rattle.std.specs.Prelude.{slice_get}
use Rattle.std.specs.List.{flat_map, AllByRecursion}
use Rattle.std.specs.Int.{w64, to_be_bytes}
use Rattle.std.proofs.lemmas.List.{append_assoc, append-nil, flat_map_more, length-take-le, take_all, take_at, take_more}
use Rattle.std.proofs.lemmas.Option.{get_or_from_slice_get}
use Rattle.hg_cells.specs.declared.cell.Cell.{Cell}
use Rattle.hg_cells.specs.declared.cell.Cell.TheVariants.{New, Exclusive, SharedRead, SharedModified}
use Rattle.hg_disk.specs.State.{replaced}
use Rattle.hg_pages.specs.Slots.{CellFits, cell_text, slot_text}

pub length-cell_text : (c : Cell) → length (cell_text c) ≡ 12
length-cell_text New = refl
length-cell_text (Exclusive segment) = refl
length-cell_text (SharedRead threads locks) = refl
length-cell_text (SharedModified threads locks) = refl

pub length-cells_text : (cells : List Cell) → length (flat_map cell_text cells) ≡ 12 * length cells
length-cells_text [] = refl
length-cells_text (c ∷ cells) = omega (arith, length-append (cell_text c) (flat_map cell_text cells), length-cell_text c, length-cells_text cells)

pub length-slot_text : (page : ℕ) (cells : List Cell) → length (slot_text page cells) ≡ 8 + 12 * length cells
length-slot_text page cells = omega (arith, length-append (to_be_bytes w64 page) (flat_map cell_text cells), length-cells_text cells)

pub slot_more : (page i : ℕ) (cells : List Cell) (c : Cell) → i < length cells → get_or cells i New ≡ c → slot_text page (take i cells) ++ cell_text c ≡ slot_text page (take (i + 1) cells)
slot_more page i cells c lt is =
    flat_map_more cell_text (to_be_bytes w64 page) (take i cells) c
    ∙ ap (λ (l : List Cell). to_be_bytes w64 page ++ flat_map cell_text l) (ap (λ (x : Cell). take i cells ++ x ∷ []) (sym is) ∙ sym (take_more cells i New lt))

pub got : (cells : List Cell) (i : ℕ) (c : Cell) → slice_get cells i ≡ Some c → get_or cells i New ≡ c
got cells i c is = get_or_from_slice_get cells i c New is

pub take_whole : (cells : List Cell) → take (length cells) cells ≡ cells
take_whole [] = refl
take_whole (c ∷ cells) = ap (λ (l : List Cell). c ∷ l) (take_whole cells)

pub whole : (page : ℕ) (cells : List Cell) (bytes : List ℕ) (i : ℕ) → i ≡ 256 → length cells ≡ 256 → bytes ≡ slot_text page (take i cells) → bytes ≡ slot_text page cells
whole page cells bytes i end size is = is ∙ ap (λ (l : List Cell). slot_text page l) (ap (λ (n : ℕ). take n cells) (end ∙ sym size) ∙ take_whole cells)

-- one element more
pub each_more : (P : Cell → Type 0) (cells : List Cell) (c : Cell) → AllByRecursion P cells → P c → AllByRecursion P (cells ++ c ∷ [])
each_more P [] c each one = (one, tt)
each_more P (x ∷ cells) c each one = (each.0, each_more P cells c each.1 one)

pub fit_more : (cells : List Cell) (i : ℕ) (c : Cell) → i < length cells → get_or cells i New ≡ c → AllByRecursion CellFits (take i cells) → CellFits c → AllByRecursion CellFits (take (i + 1) cells)
fit_more cells i c lt is each one =
    subst (λ (l : List Cell). AllByRecursion CellFits l) (sym (take_more cells i New lt ∙ ap (λ (x : Cell). take i cells ++ x ∷ []) is)) (each_more CellFits (take i cells) c each one)

pub fit_whole : (cells : List Cell) (i : ℕ) → i ≡ 256 → length cells ≡ 256 → AllByRecursion CellFits (take i cells) → AllByRecursion CellFits cells
fit_whole cells i end size each = subst (λ (l : List Cell). AllByRecursion CellFits l) (ap (λ (n : ℕ). take n cells) (end ∙ sym size) ∙ take_whole cells) each

-- the front of a slot, with one cell more put behind it
pub put_more : (page i : ℕ) (cells : List Cell) (c : Cell) (old new : List ℕ) → i < length cells → i < 256 → length old ≡ 3080 → get_or cells i New ≡ c
    → take (8 + 12 * i) old ≡ slot_text page (take i cells) → new ≡ replaced old (8 + 12 * i) (cell_text c) → take (8 + 12 * (i + 1)) new ≡ slot_text page (take (i + 1) cells)
put_more page i cells c old new lt below size is front put =
    let at : ℕ = 8 + 12 * i in
    let rest : List ℕ = drop (at + length (cell_text c)) old in
    let next : 8 + 12 * (i + 1) ≡ at + 12 = omega arith in
    let long : length (take at old ++ cell_text c) ≡ at + 12 = omega (arith, length-append (take at old) (cell_text c), length-cell_text c, length-take-le at old (omega (arith, size, below))) in
    ap (λ (n : ℕ). take n new) next ∙ ap (λ (l : List ℕ). take (at + 12) l) (put ∙ sym (append_assoc (take at old) (cell_text c) rest)) ∙ take_at (take at old ++ cell_text c) rest (at + 12) long
    ∙ ap (λ (l : List ℕ). l ++ cell_text c) front ∙ slot_more page i cells c lt is

-- the number of the page is the front without cells
pub put_number : (page : ℕ) (cells : List Cell) (old new : List ℕ) → new ≡ replaced old 0 (to_be_bytes w64 page) → take (8 + 12 * 0) new ≡ slot_text page (take 0 cells)
put_number page cells old new put = ap (λ (l : List ℕ). take 8 l) put ∙ take_at (to_be_bytes w64 page) (drop 8 old) 8 refl ∙ sym (append-nil (to_be_bytes w64 page))

-- the front with all cells
pub put_all : (page i : ℕ) (cells : List Cell) (bytes : List ℕ) → i ≡ 256 → length cells ≡ 256 → length bytes ≡ 3080 → take (8 + 12 * i) bytes ≡ slot_text page (take i cells) → bytes ≡ slot_text page cells
put_all page i cells bytes end words size front =
    whole page cells bytes i end words (sym (take_all (8 + 12 * i) bytes (omega (arith, end, size))) ∙ front)
