-- The cells of a slot, read back one by one.
use Rattle.std.proofs.Common.{◌≡◌, ◌<◌, ◌+◌, ◌*◌, ◌^◌, ◌∙◌, ℕ, zero, suc, List, [], ◌∷◌, ◌++◌, length, take, drop, set, get_or, refl, sym, ap, subst, arith, length-drop, take-append-drop}
use Rattle.std.specs.List.{flat_map, AllByRecursion}
use Rattle.std.specs.Int.{w64, to_be_bytes, from_be_bytes}
use Rattle.std.proofs.lemmas.List.{append-nil, take_more, take_at, drop_at, drop-drop, take_all, take_more_set}
use Rattle.std.proofs.lemmas.Grind.{flat_map-append}
use Rattle.std.proofs.Math.Seq.{take-add}
use Rattle.std.proofs.lemmas.Nat.{from_be_bytes-to_be_bytes_4, from_be_bytes-to_be_bytes_8}
use Rattle.hg_cells.specs.declared.cell.Cell.{Cell}
use Rattle.hg_cells.specs.declared.cell.Cell.TheVariants.{New, Exclusive, SharedRead, SharedModified}
use Rattle.hg_pages.specs.Reading.{cell_bytes, cell_in}
use Rattle.hg_disk.proofs.Keeping.{read_held}
use Rattle.hg_pages.specs.Slots.{AreKnown, CellFits, HasSlot, IsSlot, cell_text, slot_text}
use Rattle.hg_pages.specs.Stored.{cell_in_slot}
use Rattle.hg_pages.proofs.Encoding.{each_more, length-cell_text, take_whole}

-- what is spelled is read again
pub cell_again : (c : Cell) → CellFits c → cell_in (cell_text c) ≡ c
cell_again New fits = refl
cell_again (Exclusive segment) fits = ap Exclusive (from_be_bytes-to_be_bytes_4 segment fits)
cell_again (SharedRead threads locks) fits = λ i. SharedRead (from_be_bytes-to_be_bytes_4 threads fits.0 i) (from_be_bytes-to_be_bytes_4 locks fits.1 i)
cell_again (SharedModified threads locks) fits = λ i. SharedModified (from_be_bytes-to_be_bytes_4 threads fits.0 i) (from_be_bytes-to_be_bytes_4 locks fits.1 i)

-- a cell has one spelling, and a spelling one cell
pub one_cell : (a b : Cell) → CellFits a → CellFits b → cell_text a ≡ cell_text b → a ≡ b
one_cell a b fits again same = sym (cell_again a fits) ∙ ap cell_in same ∙ cell_again b again

pub each_at : (P : Cell → Type 0) (cells : List Cell) (i : ℕ) → i < length cells → AllByRecursion P cells → P (get_or cells i New)
each_at P [] i lt each = absurd (omega arith)
each_at P (c ∷ cells) zero lt each = each.0
each_at P (c ∷ cells) (suc i) lt each = each_at P cells i (omega arith) each.1

-- the bytes of the cell at a place
piece : (cells : List Cell) (i : ℕ) → i < length cells → take 12 (drop (12 * i) (flat_map cell_text cells)) ≡ cell_text (get_or cells i New)
piece [] i lt = absurd (omega arith)
piece (c ∷ cells) zero lt = take_at (cell_text c) (flat_map cell_text cells) 12 (length-cell_text c)
piece (c ∷ cells) (suc i) lt =
    let next : 12 * suc i ≡ 12 + 12 * i = omega arith in
    ap (λ (n : ℕ). take 12 (drop n (flat_map cell_text (c ∷ cells)))) next
    ∙ ap (λ (l : List ℕ). take 12 l) (sym (drop-drop (12 * i) 12 (flat_map cell_text (c ∷ cells)))
    ∙ ap (λ (l : List ℕ). drop (12 * i) l) (drop_at (cell_text c) (flat_map cell_text cells) 12 (length-cell_text c)))
    ∙ piece cells i (omega arith)

number_first : (page : ℕ) → length (to_be_bytes w64 page) ≡ 8
number_first page = refl

-- the bytes of a word's cell in the text of a page
pub text_at : (page : ℕ) (cells : List Cell) (bytes : List ℕ) (i : ℕ) → i < 256 → length cells ≡ 256 → bytes ≡ slot_text page cells → cell_bytes bytes i ≡ cell_text (get_or cells i New)
text_at page cells bytes i lt words spelling =
    ap (λ (l : List ℕ). take 12 (drop (8 + 12 * i) l)) spelling
    ∙ ap (λ (l : List ℕ). take 12 l) (sym (drop-drop (12 * i) 8 (slot_text page cells)) ∙ ap (λ (l : List ℕ). drop (12 * i) l) (drop_at (to_be_bytes w64 page) (flat_map cell_text cells) 8 refl))
    ∙ piece cells i (omega (arith, lt, words))

-- the bytes of a word's cell in the slot of a page
pub cell_bytes_are : (page : ℕ) (cells : List Cell) (bytes : List ℕ) (i : ℕ) → i < 256 → IsSlot page cells bytes → cell_bytes bytes i ≡ cell_text (get_or cells i New)
cell_bytes_are page cells bytes i lt is = text_at page cells bytes i lt is.page_is.words is.spelling

-- the number of its page
pub number_bytes_are : (page : ℕ) (cells : List Cell) (bytes : List ℕ) → IsSlot page cells bytes → take 8 bytes ≡ to_be_bytes w64 page
number_bytes_are page cells bytes is = ap (λ (l : List ℕ). take 8 l) is.spelling ∙ take_at (to_be_bytes w64 page) (flat_map cell_text cells) 8 refl

pub one_number : (a b : ℕ) → a < 2 ^ 64 → b < 2 ^ 64 → to_be_bytes w64 a ≡ to_be_bytes w64 b → a ≡ b
one_number a b fits again same = sym (from_be_bytes-to_be_bytes_8 a fits) ∙ ap (from_be_bytes w64) same ∙ from_be_bytes-to_be_bytes_8 b again

-- the bytes of one cell more
pub spelled_more : (bytes : List ℕ) (cells : List Cell) (i : ℕ) (c : Cell) → i < length cells → take (12 * i) (drop 8 bytes) ≡ flat_map cell_text (take i cells) → cell_bytes bytes i ≡ cell_text c
    → take (12 * (i + 1)) (drop 8 bytes) ≡ flat_map cell_text (take (i + 1) (set cells i c))
spelled_more bytes cells i c lt so_far is =
    let next : 12 * (i + 1) ≡ 12 * i + 12 = omega arith in
    let there : take 12 (drop (12 * i) (drop 8 bytes)) ≡ cell_text c = ap (λ (l : List ℕ). take 12 l) (drop-drop (12 * i) 8 bytes) ∙ is in
    let more : flat_map cell_text (take (i + 1) (set cells i c)) ≡ flat_map cell_text (take i cells) ++ cell_text c =
    ap (λ (l : List Cell). flat_map cell_text l) (take_more_set cells i c lt) ∙ flat_map-append cell_text (take i cells) (c ∷ []) ∙ ap (λ (l : List ℕ). flat_map cell_text (take i cells) ++ l) (append-nil (cell_text c)) in
    ap (λ (n : ℕ). take n (drop 8 bytes)) next ∙ take-add (12 * i) 12 (drop 8 bytes) ∙ (λ j. so_far j ++ there j) ∙ sym more

pub each_set : (P : Cell → Type 0) (cells : List Cell) (i : ℕ) (c : Cell) → i < length cells → AllByRecursion P (take i cells) → P c → AllByRecursion P (take (i + 1) (set cells i c))
each_set P cells i c lt each one = subst (λ (l : List Cell). AllByRecursion P l) (sym (take_more_set cells i c lt)) (each_more P (take i cells) c each one)

-- all of them
pub decoded : (bytes : List ℕ) (page i segments : ℕ) (sets : List (List ℕ)) (cells : List Cell) → page < 2 ^ 54 → length bytes ≡ 3080 → i ≡ 256 → length cells ≡ 256 → take 8 bytes ≡ to_be_bytes w64 page
    → take (12 * i) (drop 8 bytes) ≡ flat_map cell_text (take i cells) → AllByRecursion CellFits (take i cells) → AreKnown segments sets (take i cells)
    → IsSlot page cells bytes × AreKnown segments sets cells
decoded bytes page i segments sets cells below size end words number text fit known =
    let all : take i cells ≡ cells = ap (λ (n : ℕ). take n cells) (end ∙ sym words) ∙ take_whole cells in
    let rest : take (12 * i) (drop 8 bytes) ≡ drop 8 bytes = take_all (12 * i) (drop 8 bytes) (omega (arith, end, size, length-drop 8 bytes)) in (
      record {
        page_is = record { number = below; words = words; fit = subst (λ (l : List Cell). AllByRecursion CellFits l) all fit };
        spelling = sym (take-append-drop 8 bytes) ∙ (λ j. number j ++ (sym rest ∙ text ∙ ap (λ (l : List Cell). flat_map cell_text l) all) j);
      },
      subst (λ (l : List Cell). AreKnown segments sets l) all known,
    )

-- one cell more of those that were compared
pub compared_more : (bytes : List ℕ) (cells : List Cell) (i : ℕ) → i < length cells → take (12 * i) (drop 8 bytes) ≡ flat_map cell_text (take i cells) → cell_bytes bytes i ≡ cell_text (get_or cells i New)
    → take (12 * (i + 1)) (drop 8 bytes) ≡ flat_map cell_text (take (i + 1) cells)
compared_more bytes cells i lt so_far is =
    let next : 12 * (i + 1) ≡ 12 * i + 12 = omega arith in
    let there : take 12 (drop (12 * i) (drop 8 bytes)) ≡ cell_text (get_or cells i New) = ap (λ (l : List ℕ). take 12 l) (drop-drop (12 * i) 8 bytes) ∙ is in
    let more : flat_map cell_text (take (i + 1) cells) ≡ flat_map cell_text (take i cells) ++ cell_text (get_or cells i New) =
    ap (λ (l : List Cell). flat_map cell_text l) (take_more cells i New lt) ∙ flat_map-append cell_text (take i cells) (get_or cells i New ∷ []) ∙ ap (λ (l : List ℕ). flat_map cell_text (take i cells) ++ l) (append-nil (cell_text (get_or cells i New))) in
    ap (λ (n : ℕ). take n (drop 8 bytes)) next ∙ take-add (12 * i) 12 (drop 8 bytes) ∙ (λ j. so_far j ++ there j) ∙ sym more

-- all cells were compared
pub compared : (page i : ℕ) (bytes : List ℕ) (cells : List Cell) → length bytes ≡ 3080 → i ≡ 256 → length cells ≡ 256 → to_be_bytes w64 page ≡ take 8 bytes → take (12 * i) (drop 8 bytes) ≡ flat_map cell_text (take i cells)
    → bytes ≡ slot_text page cells
compared page i bytes cells size end words number text =
    let all : take i cells ≡ cells = ap (λ (n : ℕ). take n cells) (end ∙ sym words) ∙ take_whole cells in
    let rest : take (12 * i) (drop 8 bytes) ≡ drop 8 bytes = take_all (12 * i) (drop 8 bytes) (omega (arith, end, size, length-drop 8 bytes)) in
    sym (take-append-drop 8 bytes) ∙ (λ j. sym number j ++ (sym rest ∙ text ∙ ap (λ (l : List Cell). flat_map cell_text l) all) j)

-- a cell of a slot of a file
pub stored : (slot page i : ℕ) (cells : List Cell) (file : List ℕ) → i < 256 → HasSlot slot page cells file → cell_in_slot file slot i ≡ get_or cells i New
stored slot page i cells file lt has =
    let there : take 3080 (drop (3080 * slot) file) ≡ slot_text page cells = sym (ap (λ (n : ℕ). take n (drop (3080 * slot) file)) has.bytes.0) ∙ read_held file (3080 * slot) (slot_text page cells) has.bytes.1 in
    ap cell_in (text_at page cells (take 3080 (drop (3080 * slot) file)) i lt has.page_is.words there) ∙ cell_again (get_or cells i New) (each_at CellFits cells i (omega (arith, lt, has.page_is.words)) has.page_is.fit)
