-- The live map where words of a page are given a cell.
use Rattle.std.proofs.Common.{◌≡◌, ◌+◌, ◌-◌, ◌≤◌, ◌<◌, ◌/◌, ◌%◌, ◌==◌, ◌&&◌, ◌∙◌, ℕ, zero, suc, nat_le, nat_lt, Bool, true, false, cond, List, [], ◌∷◌, ◌++◌, length, take, drop, replicate, get_or, is_some, Option, Some, if◌then◌else◌, refl, sym, ap, subst, ⊎_elim, arith, le-leb, lt-ltb, le-ltb, append_assoc}
use Rattle.std.proofs.lemmas.List.{get_or-take, get_or-drop, get_or-replicate, length-replicate, get_or_append_left, get_or-append_right, length-take-le}
use Rattle.std.proofs.lemmas.Bool.{lt-leb, and_from, and_left, and_right, cases_lt}
use Rattle.hg_disk.specs.declared.disk.Disk as disk
use Rattle.hg_cells.specs.declared.cell.Cell.{Cell}
use Rattle.hg_cells.specs.declared.cell.Cell.TheVariants.{New}
use Rattle.hg_cells.specs.Cells.{IsWithin}
use Rattle.hg_cells.specs.Pages.{filled}
use Rattle.hg_pages.specs.Tables.{slot_in}
use Rattle.hg_cache.specs.declared.frame.Frame.{Frame}
use Rattle.hg_pool.specs.Kept.{AreWithin, IsFaithful, Went}
use Rattle.hg_pool.specs.Maps.{bytes_of, frame_in, in_frame_or, in_slot, live}
use Rattle.hg_pool.specs.Shown.{ShownPool}
use Rattle.hg_cache.proofs.Lookups.{same_number, turned}
use Rattle.hg_pool.proofs.Stepping.{the_some}

-- The frames after words of one page were given a cell.
pub record IsFilled (page from to : ℕ) (cell : Cell) (f : Frame) (old new : List (ℕ × Frame)) : Type 0 where
  pub there : frame_in old page ≡ Some f
  pub words : length f.cells ≡ 256
  pub in_order : from ≤ to
  pub in_page : to ≤ 256
  pub looks : (q : ℕ) → frame_in new q ≡ (if page == q then Some (record { cells = filled f.cells from to cell; is_dirty = true }) else frame_in old q)

abbrev pub is_inside : ℕ → ℕ → ℕ → ℕ → Bool
is_inside page from to w = (w / 256 == page) && (nat_le from (w % 256) && nat_lt (w % 256) to)

-- some cells of a page are given one
filled_at : (cells : List Cell) (from to i : ℕ) (cell : Cell) → from ≤ to → to ≤ length cells → get_or (filled cells from to cell) i New ≡ cond (nat_le from i && nat_lt i to) cell (get_or cells i New)
filled_at cells from to i cell order within =
    let front = length-take-le from cells (omega arith) in
    ap (λ xs. get_or xs i New) (append_assoc (take from cells) (replicate (to - from) cell) (drop to cells))
    ∙ ⊎_elim
    (λ (low : i < from).
    get_or_append_left (take from cells) (replicate (to - from) cell ++ drop to cells) New i (omega (arith, front))
    ∙ get_or-take from cells i New low
    ∙ sym (ap (λ b. cond b cell (get_or cells i New)) (and_left (nat_le from i) (nat_lt i to) (lt-leb from i low))))
    (λ (above : from ≤ i).
    get_or-append_right (take from cells) (replicate (to - from) cell ++ drop to cells) from i New front above
    ∙ ⊎_elim
    (λ (in_range : i < to).
    get_or_append_left (replicate (to - from) cell) (drop to cells) New (i - from) (omega (arith, length-replicate (to - from) cell))
    ∙ get_or-replicate (to - from) (i - from) cell New (omega arith)
    ∙ sym (ap (λ b. cond b cell (get_or cells i New)) (and_from (nat_le from i) (nat_lt i to) (le-leb from i above) (lt-ltb i to in_range))))
    (λ (high : to ≤ i). let back : to + (i - from - (to - from)) ≡ i = omega arith in
    get_or-append_right (replicate (to - from) cell) (drop to cells) (to - from) (i - from) New (length-replicate (to - from) cell) (omega arith)
    ∙ get_or-drop to cells (i - from - (to - from)) New
    ∙ ap (λ (x : ℕ). get_or cells x New) back
    ∙ sym (ap (λ b. cond b cell (get_or cells i New)) (and_right (nat_le from i) (nat_lt i to) (le-ltb i to high))))
    (cases_lt i to))
    (cases_lt i from)

-- a word of a page in its frame
word_filled : (page from to : ℕ) (cell : Cell) (f : Frame) (old new : List (ℕ × Frame)) (stored : Cell) (w : ℕ) → IsFilled page from to cell f old new
    → in_frame_or (frame_in new (w / 256)) stored (w % 256) ≡ cond (is_inside page from to w) cell (in_frame_or (frame_in old (w / 256)) stored (w % 256))
word_filled page from to cell f old new stored w h = ap (λ (o : Option Frame). in_frame_or o stored (w % 256)) (h.looks (w / 256)) ∙ by (page == (w / 256)) refl
  where
    by : (b : Bool) → (page == (w / 256)) ≡ b
        → in_frame_or (cond b (Some (record { cells = filled f.cells from to cell; is_dirty = true })) (frame_in old (w / 256))) stored (w % 256) ≡ cond (is_inside page from to w) cell (in_frame_or (frame_in old (w / 256)) stored (w % 256))
    by true test =
        let here : frame_in old (w / 256) ≡ Some f = ap (λ (n : ℕ). frame_in old n) (sym (same_number page (w / 256) test)) ∙ h.there in
        filled_at f.cells from to (w % 256) cell h.in_order (let le = h.in_page in omega (arith, le, h.words))
        ∙ sym (ap (λ (b : Bool). cond (b && (nat_le from (w % 256) && nat_lt (w % 256) to)) cell (get_or f.cells (w % 256) New)) (turned (w / 256) page ∙ test))
        ∙ sym (ap (λ (o : Option Frame). cond (is_inside page from to w) cell (in_frame_or o stored (w % 256))) here)
    by false test =
        sym (ap (λ (b : Bool). cond (b && (nat_le from (w % 256) && nat_lt (w % 256) to)) cell (in_frame_or (frame_in old (w / 256)) stored (w % 256))) (turned (w / 256) page ∙ test))

-- the cells of the frames stay within what they name
module _ (P : Cell → Type 0) (new_is : P New) where
  of_both : (xs ys : List Cell) → ((i : ℕ) → P (get_or xs i New)) → ((i : ℕ) → P (get_or ys i New)) → (i : ℕ) → P (get_or (xs ++ ys) i New)
  of_both [] ys a b i = b i
  of_both (x ∷ xs) ys a b zero = a 0
  of_both (x ∷ xs) ys a b (suc i) = of_both xs ys (λ j. a (suc j)) b i

  of_take : (n : ℕ) (xs : List Cell) → ((i : ℕ) → P (get_or xs i New)) → (i : ℕ) → P (get_or (take n xs) i New)
  of_take zero xs h i = new_is
  of_take (suc n) [] h i = new_is
  of_take (suc n) (x ∷ xs) h zero = h 0
  of_take (suc n) (x ∷ xs) h (suc i) = of_take n xs (λ j. h (suc j)) i

  of_drop : (n : ℕ) (xs : List Cell) → ((i : ℕ) → P (get_or xs i New)) → (i : ℕ) → P (get_or (drop n xs) i New)
  of_drop zero xs h i = h i
  of_drop (suc n) [] h i = new_is
  of_drop (suc n) (x ∷ xs) h i = of_drop n xs (λ j. h (suc j)) i

  of_replicate : (n : ℕ) (cell : Cell) → P cell → (i : ℕ) → P (get_or (replicate n cell) i New)
  of_replicate zero cell is i = new_is
  of_replicate (suc n) cell is zero = is
  of_replicate (suc n) cell is (suc i) = of_replicate n cell is i

pub frames_within : (page from to : ℕ) (cell : Cell) (f : Frame) (old new : List (ℕ × Frame)) (n m : ℕ) → IsFilled page from to cell f old new → IsWithin n m cell → AreWithin old n m → AreWithin new n m
frames_within page from to cell f old new n m h is within q e there = by (page == q) (sym (h.looks q) ∙ there)
  where
    by : (b : Bool) → cond b (Some (record { cells = filled f.cells from to cell; is_dirty = true })) (frame_in old q) ≡ Some e → (i : ℕ) → IsWithin n m (get_or e.cells i New)
    by true found =
        let same : record { cells = filled f.cells from to cell; is_dirty = true } ≡ e = cc found in
        subst (λ (x : Frame). (i : ℕ) → IsWithin n m (get_or x.cells i New)) same
        (let each = within page f h.there in
        of_both (IsWithin n m) tt (take from f.cells ++ replicate (to - from) cell) (drop to f.cells) (of_both (IsWithin n m) tt (take from f.cells) (replicate (to - from) cell) (of_take (IsWithin n m) tt from f.cells each) (of_replicate (IsWithin n m) tt (to - from) cell is))
        (of_drop (IsWithin n m) tt to f.cells each))
    by false found = within q e found

pub still_present : (page from to : ℕ) (cell : Cell) (f : Frame) (old new : List (ℕ × Frame)) (q : ℕ) → IsFilled page from to cell f old new → is_some (frame_in old q) ≡ true → is_some (frame_in new q) ≡ true
still_present page from to cell f old new q h is = ap is_some (h.looks q) ∙ by (page == q)
  where
    by : (b : Bool) → is_some (cond b (Some (record { cells = filled f.cells from to cell; is_dirty = true })) (frame_in old q)) ≡ true
    by true = refl
    by false = is

module _ {D : Type 0} (g : disk.Ghosts D) where
  pub live_filled : (page from to : ℕ) (cell : Cell) (f : Frame) (old new : ShownPool D) → new ≡ record old { frames = new.frames } → IsFilled page from to cell f old.frames new.frames → (w : ℕ)
      → live g new w ≡ cond (is_inside page from to w) cell (live g old w)
  live_filled page from to cell f old new rest h w =
      ap (λ (p : ShownPool D). live g p w) rest ∙ word_filled page from to cell f old.frames new.frames (in_slot (bytes_of g old) (slot_in old.live (w / 256)) (w % 256)) w h

  pub faithful_filled : (page from to : ℕ) (cell : Cell) (old new : ShownPool D) (n m : ℕ) → Went g old new → ((w : ℕ) → live g new w ≡ cond (is_inside page from to w) cell (live g old w)) → IsWithin n m cell → IsFaithful g old n m → IsFaithful g new n m
  faithful_filled page from to cell old new n m went cells is h = record {
    whole = went.whole h.whole;
    within = λ w. subst (λ (c : Cell). IsWithin n m c) (sym (cells w)) (by (is_inside page from to w) (live g old w) (h.within w));
  }
    where
      by : (b : Bool) (c : Cell) → IsWithin n m c → IsWithin n m (cond b cell c)
      by true c was = is
      by false c was = was

pub is_filled : (page from to : ℕ) (cell : Cell) (old new : List (ℕ × Frame)) → is_some (frame_in old page) ≡ true → from ≤ to → to ≤ 256
    → ((f : Frame) → frame_in old page ≡ Some f → (length f.cells ≡ 256) × ((q : ℕ) → frame_in new q ≡ (if page == q then Some (record { cells = filled f.cells from to cell; is_dirty = true }) else frame_in old q)))
    → (f : Frame) × IsFilled page from to cell f old new
is_filled page from to cell old new there in_order in_page put =
    let found = the_some (frame_in old page) there in
    let made = put found.0 found.1 in
    (found.0, record { there = found.1; words = made.0; in_order = in_order; in_page = in_page; looks = made.1 })
