-- The cells of a page, put one after another.
use Rattle.std.proofs.Common.{◌≡◌, ◌≢◌, inl, inr, ◌∙◌, ◌+◌, ◌*◌, ◌/◌, ◌%◌, ◌<◌, ◌≤◌, ◌==◌, ℕ, Bool, List, get_or, slice_get, Some, if◌then◌else◌, sym, ap, subst, true, nat_lt, arith, eq-eqb, ne_eqb, lt-ltb}
use Rattle.std.proofs.lemmas.Bool.{and_from, cases_eq}
use Rattle.std.proofs.lemmas.Option.{get_or_from_slice_get}
use Rattle.hg_cells.specs.declared.cell.Cell.{Cell}
use Rattle.hg_cells.specs.declared.cell.Cell.TheVariants.{New}
use Rattle.hg_cells.specs.declared.paged.PagedWords.{PagedWords}
use Rattle.hg_cells.specs.Cells.{IsWithin}
use Rattle.hg_cells.specs.Paged.{AreWithin, cell_in}
use Rattle.hg_model.specs.History.{overlaps}
use Rattle.hg_saved.specs.Words.{PutsPage}

-- The words of the page before this place have these cells, and the words of other pages what they had.
pub record PutsFront (page : ℕ) (cells : List Cell) (place : ℕ) (old new : PagedWords) : Type 0 where
  pub inside : (i : ℕ) → i < place → cell_in new (256 * page + i) ≡ get_or cells i New
  pub outside : (w : ℕ) → w / 256 ≢ page → cell_in new w ≡ cell_in old w

-- one cell is set
abbrev pub Sets : (word : ℕ) → Cell → PagedWords → PagedWords → Type 0
Sets word cell old new = (w : ℕ) → cell_in new w ≡ (if w == word then cell else cell_in old w)

here : (word w : ℕ) (cell : Cell) (old new : PagedWords) → Sets word cell old new → w ≡ word → cell_in new w ≡ cell
here word w cell old new sets is = sets w ∙ ap (λ (b : Bool). if b then cell else cell_in old w) (eq-eqb w word is)

elsewhere : (word w : ℕ) (cell : Cell) (old new : PagedWords) → Sets word cell old new → (w ≡ word → ⊥) → cell_in new w ≡ cell_in old w
elsewhere word w cell old new sets other = sets w ∙ ap (λ (b : Bool). if b then cell else cell_in old w) (ne_eqb w word other)

pub one_more : (page : ℕ) (cells : List Cell) (place word : ℕ) (cell : Cell) (old mid new : PagedWords) → place < 256 → word ≡ 256 * page + place → slice_get cells place ≡ Some cell
    → PutsFront page cells place old mid → Sets word cell mid new → PutsFront page cells (place + 1) old new
one_more page cells place word cell old mid new small at is front sets = record {
  inside = λ i lt. elim (cases_eq i place) [
    | inl same ↦
        here word (256 * page + i) cell mid new sets (omega (arith, at, same))
        ∙ sym (get_or_from_slice_get cells place cell New is) ∙ ap (λ (n : ℕ). get_or cells n New) (sym same)
    | inr other ↦
        let less : i < place = omega (arith, lt, other) in
        elsewhere word (256 * page + i) cell mid new sets (λ e. other (omega (arith, at, e))) ∙ front.inside i less
  ];
  outside = λ w apart. elsewhere word w cell mid new sets (λ e. apart (omega (arith, at, e, small))) ∙ front.outside w apart;
}

pub whole : (page : ℕ) (cells : List Cell) (place : ℕ) (old new : PagedWords) → 256 ≤ place → PutsFront page cells place old new → PutsPage page cells old new
whole page cells place old new all front = record { inside = λ i lt. front.inside i (omega (arith, all, lt)); outside = front.outside }

-- cells within some counts keep the words within them
pub stays_within : (page : ℕ) (cells : List Cell) (old new : PagedWords) (n m : ℕ) → ((i : ℕ) → IsWithin n m (get_or cells i New)) → PutsPage page cells old new → AreWithin old n m → AreWithin new n m
stays_within page cells old new n m within puts before w =
    elim (cases_eq (w / 256) page) [
      | inl same ↦
          let at : 256 * page + w % 256 ≡ w = omega (arith, same) in
          subst (λ (v : ℕ). IsWithin n m (cell_in new v)) at (subst (λ (c : Cell). IsWithin n m c) (sym (puts.inside (w % 256) (omega arith))) (within (w % 256)))
      | inr other ↦ subst (λ (c : Cell). IsWithin n m c) (sym (puts.outside w other)) (before w)
    ]

-- four bytes from the address of a page on overlap its first word
pub first_word : (page : ℕ) → overlaps (page * 1024) 4 (256 * page) ≡ true
first_word page =
    and_from (nat_lt (page * 1024) (4 * (256 * page) + 4)) (nat_lt (4 * (256 * page)) (page * 1024 + 4)) (lt-ltb (page * 1024) (4 * (256 * page) + 4) (omega arith)) (lt-ltb (4 * (256 * page)) (page * 1024 + 4) (omega arith))
