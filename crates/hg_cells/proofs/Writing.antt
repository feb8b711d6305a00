-- A word of one page is written.
use Rattle.std.proofs.Common.{◌≡◌, ℕ, ◌+◌, ◌-◌, ◌/◌, ◌%◌, ◌<◌, ◌≤◌, Bool, true, false, cond, ◌&&◌, nat_eq, nat_le, nat_lt, List, ◌++◌, length, get_or, set, take, drop, replicate, Option, Some, None, is_some, option_map, refl, sym, ap, ◌∙◌, ⊎_elim, arith, eq-eqb, ne_eqb, slice_get, le-leb, lt-ltb, le-ltb, append_assoc, MatchOption}
use Rattle.std.specs.Cmp.{nat_eq_equiv}
use Rattle.std.proofs.lemmas.List.{get_or-take, get_or-drop, get_or-replicate, length-replicate, get_or-set_same, get_or-set_other, get_or_append_left, get_or-append_right, length-take-le}
use Rattle.std.proofs.lemmas.Bool.{lt-leb, and_from, and_left, and_right, cases_eq, cases_lt}
use Rattle.indexmap.specs.IndexMap.{IndexMap, IsUnique, get, values, with_value_at}
use Rattle.indexmap.proofs.CallerLemmas.{updates-with_value_at}
use Rattle.hg_cells.specs.declared.cell.Cell.{Cell}
use Rattle.hg_cells.specs.declared.cell.Cell.TheVariants.{New}
use Rattle.hg_cells.specs.Pages.{filled}
use Rattle.hg_cells.specs.Paged.{StandsIn, cell_at}
use Rattle.hg_cells.proofs.Places.{value_at}

-- the pages after one is written
pub written : {P S : Type 0} (m : IndexMap ℕ P S) (number place : ℕ) (page : P) → IsUnique nat_eq m → StandsIn m number place → (n : ℕ) → get nat_eq (with_value_at m place page) n ≡ cond (nat_eq number n) (Some page) (get nat_eq m n)
written m number place page unique h n = (updates-with_value_at m place page nat_eq_equiv unique number h.0 h.1).0 n

-- a page is given one cell
pub one_set : (old new : ℕ → Option (List Cell)) (word : ℕ) (cell : Cell) (cells : List Cell) → old (word / 256) ≡ Some cells → length cells ≡ 256
    → ((n : ℕ) → new n ≡ cond (nat_eq (word / 256) n) (Some (set cells (word % 256) cell)) (old n))
    → (w : ℕ) → cell_at (new (w / 256)) (w % 256) ≡ cond (nat_eq w word) cell (cell_at (old (w / 256)) (w % 256))
one_set old new word cell cells there len writes w =
    ⊎_elim
    (λ (same : word / 256 ≡ w / 256).
    let at = eq-eqb (word / 256) (w / 256) same in
    let before : old (w / 256) ≡ Some cells = ap old (sym same) ∙ there in
    ap (λ o. cell_at o (w % 256)) (writes (w / 256) ∙ ap (λ b. cond b (Some (set cells (word % 256) cell)) (old (w / 256))) at)
    ∙ ⊎_elim
    (λ (here : w ≡ word).
    ap (λ x. get_or (set cells (word % 256) cell) (x % 256) New) here
    ∙ get_or-set_same cells (word % 256) cell New (omega (arith, len))
    ∙ sym (ap (λ b. cond b cell (cell_at (old (w / 256)) (w % 256))) (eq-eqb w word here)))
    (λ (other : w ≡ word → ⊥).
    get_or-set_other cells (word % 256) (w % 256) cell New (λ e. other (omega (arith, same, e)))
    ∙ ap (λ o. cell_at o (w % 256)) (sym before)
    ∙ sym (ap (λ b. cond b cell (cell_at (old (w / 256)) (w % 256))) (ne_eqb w word other)))
    (cases_eq w word))
    (λ (apart : word / 256 ≡ w / 256 → ⊥).
    ap (λ o. cell_at o (w % 256)) (writes (w / 256) ∙ ap (λ b. cond b (Some (set cells (word % 256) cell)) (old (w / 256))) (ne_eqb (word / 256) (w / 256) apart))
    ∙ sym (ap (λ b. cond b cell (cell_at (old (w / 256)) (w % 256))) (ne_eqb w word (λ e. apart (ap (λ x. x / 256) (sym e))))))
    (cases_eq (word / 256) (w / 256))

-- some cells of a page are given one
filled_at : (cells : List Cell) (from to i : ℕ) (cell : Cell) → from ≤ to → to ≤ length cells → get_or (filled cells from to cell) i New ≡ cond (nat_le from i && nat_lt i to) cell (get_or cells i New)
filled_at cells from to i cell order within =
    let front = length-take-le from cells (omega arith) in
    ap (λ xs. get_or xs i New) (append_assoc (take from cells) (replicate (to - from) cell) (drop to cells))
    ∙ ⊎_elim
    (λ (low : i < from).
    get_or_append_left (take from cells) (replicate (to - from) cell ++ drop to cells) New i (omega (arith, front))
    ∙ get_or-take from cells i New low
    ∙ sym (ap (λ b. cond b cell (get_or cells i New)) (and_left (nat_le from i) (nat_lt i to) (lt-leb from i low))))
    (λ (above : from ≤ i).
    get_or-append_right (take from cells) (replicate (to - from) cell ++ drop to cells) from i New front above
    ∙ ⊎_elim
    (λ (in_range : i < to).
    get_or_append_left (replicate (to - from) cell) (drop to cells) New (i - from) (omega (arith, length-replicate (to - from) cell))
    ∙ get_or-replicate (to - from) (i - from) cell New (omega arith)
    ∙ sym (ap (λ b. cond b cell (get_or cells i New)) (and_from (nat_le from i) (nat_lt i to) (le-leb from i above) (lt-ltb i to in_range))))
    (λ (high : to ≤ i). let back : to + (i - from - (to - from)) ≡ i = omega arith in
    get_or-append_right (replicate (to - from) cell) (drop to cells) (to - from) (i - from) New (length-replicate (to - from) cell) (omega arith)
    ∙ get_or-drop to cells (i - from - (to - from)) New
    ∙ ap (λ (x : ℕ). get_or cells x New) back
    ∙ sym (ap (λ b. cond b cell (get_or cells i New)) (and_right (nat_le from i) (nat_lt i to) (le-ltb i to high))))
    (cases_lt i to))
    (cases_lt i from)

pub some_filled : (old new : ℕ → Option (List Cell)) (number from to : ℕ) (cell : Cell) (cells : List Cell) → old number ≡ Some cells → length cells ≡ 256 → from ≤ to → to ≤ 256
    → ((n : ℕ) → new n ≡ cond (nat_eq number n) (Some (filled cells from to cell)) (old n))
    → (w : ℕ) → cell_at (new (w / 256)) (w % 256) ≡ cond (nat_eq (w / 256) number && (nat_le from (w % 256) && nat_lt (w % 256) to)) cell (cell_at (old (w / 256)) (w % 256))
some_filled old new number from to cell cells there len order within writes w =
    ⊎_elim
    (λ (same : number ≡ w / 256).
    let before : old (w / 256) ≡ Some cells = ap old (sym same) ∙ there in
    ap (λ o. cell_at o (w % 256)) (writes (w / 256) ∙ ap (λ b. cond b (Some (filled cells from to cell)) (old (w / 256))) (eq-eqb number (w / 256) same))
    ∙ filled_at cells from to (w % 256) cell order (omega (arith, len))
    ∙ ap (λ o. cond (nat_le from (w % 256) && nat_lt (w % 256) to) cell (cell_at o (w % 256))) (sym before)
    ∙ sym (ap (λ b. cond (b && (nat_le from (w % 256) && nat_lt (w % 256) to)) cell (cell_at (old (w / 256)) (w % 256))) (eq-eqb (w / 256) number (sym same))))
    (λ (apart : number ≡ w / 256 → ⊥).
    ap (λ o. cell_at o (w % 256)) (writes (w / 256) ∙ ap (λ b. cond b (Some (filled cells from to cell)) (old (w / 256))) (ne_eqb number (w / 256) apart))
    ∙ sym (ap (λ b. cond (b && (nat_le from (w % 256) && nat_lt (w % 256) to)) cell (cell_at (old (w / 256)) (w % 256))) (ne_eqb (w / 256) number (λ e. apart (sym e)))))
    (cases_eq number (w / 256))

-- a page that was present is present
pub still_present : {X : Type 0} (b : Bool) (x : X) (o : Option X) → is_some o ≡ true → is_some (cond b (Some x) o) ≡ true
still_present true x o h = refl
still_present false x o h = h

-- what stands at the place of a page
pub stood : {P S : Type 0} (m : IndexMap ℕ P S) (number place : ℕ) (page : P) → StandsIn m number place → Some page ≡ slice_get (values m) place → get nat_eq m number ≡ Some page
stood m number place page h at = h.2 ∙ sym (value_at m.entries place (number, h.0) h.1) ∙ sym at

shown : {X Y : Type 0} (f : X → Y) (b : Bool) (x : X) (o : Option X) → option_map f (cond b (Some x) o) ≡ cond b (Some (f x)) (option_map f o)
shown f true x o = refl
shown f false x o = refl

-- the cells of the pages after one is written
pub pages_written : {P S : Type 0} (cells_of : P → List Cell) (m : IndexMap ℕ P S) (number place : ℕ) (page : P) → IsUnique nat_eq m → StandsIn m number place
    → (n : ℕ) → option_map cells_of (get nat_eq (with_value_at m place page) n) ≡ cond (nat_eq number n) (Some (cells_of page)) (option_map cells_of (get nat_eq m n))
pages_written cells_of m number place page unique h n = ap (option_map cells_of) (written m number place page unique h n) ∙ shown cells_of (nat_eq number n) page (get nat_eq m n)

-- a place where a page stands is no place where none does
pub none_stands : {P S : Type 0} (m : IndexMap ℕ P S) (number place : ℕ) → StandsIn m number place → None ≡ slice_get (values m) place → ⊥
none_stands m number place h none = absurd (some_none (sym (value_at m.entries place (number, h.0) h.1) ∙ sym none))
  where
    some_none : {X : Type 0} {x : X} → Some x ≡ None → ⊥
    some_none e = absurd (cc)

-- a page of new words where none was
pub page_added : {P S : Type 0} (cells_of : P → List Cell) (m new : IndexMap ℕ P S) (number : ℕ) (page : P) → get nat_eq m number ≡ None → cells_of page ≡ replicate 256 New
    → ((n : ℕ) → get nat_eq new n ≡ cond (nat_eq number n) (Some page) (get nat_eq m n))
    → (w : ℕ) → cell_at (option_map cells_of (get nat_eq new (w / 256))) (w % 256) ≡ cell_at (option_map cells_of (get nat_eq m (w / 256))) (w % 256)
page_added cells_of m new number page none fresh adds w =
    ap (λ o. cell_at (option_map cells_of o) (w % 256)) (adds (w / 256))
    ∙ ⊎_elim
    (λ (here : number ≡ w / 256).
    ap (λ b. cell_at (option_map cells_of (cond b (Some page) (get nat_eq m (w / 256)))) (w % 256)) (eq-eqb number (w / 256) here)
    ∙ ap (λ xs. get_or xs (w % 256) New) fresh
    ∙ get_or-replicate 256 (w % 256) New New (omega arith)
    ∙ ap (λ o. cell_at (option_map cells_of o) (w % 256)) (sym none ∙ ap (λ n. get nat_eq m n) here))
    (λ (other : number ≡ w / 256 → ⊥). ap (λ b. cell_at (option_map cells_of (cond b (Some page) (get nat_eq m (w / 256)))) (w % 256)) (ne_eqb number (w / 256) other))
    (cases_eq number (w / 256))

pub absent : {Q N : Type 0} (P : Q → Type 0) (r : Option Q) → is_some r ≡ false → MatchOption r N P → N
absent P None h n = n
absent P (Some x) h n = absurd (cc)
