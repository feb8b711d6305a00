-- The pages of an event, and what a map of words says of them.
use Rattle.std.proofs.Common.{◌≡◌, ◌⊎◌, inl, inr, ⊎_elim, ◌==◌, ◌∙◌, ap, le-leb, ◌+◌, ◌-◌, ◌*◌, ◌/◌, ◌%◌, ◌<◌, ◌≤◌, ℕ, zero, suc, nat_lt, nat_le, min, Bool, true, false, ◌&&◌, refl, List, [], ◌∷◌, get_or, slice_get, Option, Some, None, IfSome, subst, arith, lt-ltb}
use Rattle.std.proofs.lemmas.Bool.{and_from, cases_lt, ltb-true}
use Rattle.hg_model.specs.History.{overlaps}
use Rattle.hg_cache.proofs.Lookups.{itself}
use Rattle.hg_pool.specs.OfWords.{IsCovered}
use Rattle.hg_cells.specs.declared.cell.Cell.{Cell}
use Rattle.hg_cells.specs.declared.cell.Cell.TheVariants.{New}

pub overlapped : (at len w : ℕ) → at < 4 * w + 4 → 4 * w < at + len → overlaps at len w ≡ true
overlapped at len w low high = and_from (nat_lt at (4 * w + 4)) (nat_lt (4 * w) (at + len)) (lt-ltb at (4 * w + 4) low) (lt-ltb (4 * w) (at + len) high)

bounds : (at len w : ℕ) → overlaps at len w ≡ true → (at < 4 * w + 4) × (4 * w < at + len)
bounds at len w is = (ltb-true at (4 * w + 4) (both (nat_lt at (4 * w + 4)) (nat_lt (4 * w) (at + len)) is).0, ltb-true (4 * w) (at + len) (both (nat_lt at (4 * w + 4)) (nat_lt (4 * w) (at + len)) is).1)
  where
    both : (x y : Bool) → (x && y) ≡ true → (x ≡ true) × (y ≡ true)
    both true y is = (refl, is)
    both false y is = absurd (cc is)

-- a page behind the first one and before the last one is covered
pub between : (at len first last w : ℕ) → first ≡ at / 1024 → last ≡ (at + (len - 1)) / 1024 → overlaps at len w ≡ true → (w / 256 ≡ first) ⊎ ((w / 256 ≡ last) ⊎ IsCovered at len (w / 256))
between at len first last w is_first is_last is =
    let b = bounds at len w is in
    ⊎_elim
    (λ (behind : first < w / 256).
    ⊎_elim (λ (before : w / 256 < last). inr (inr (λ v page. overlapped at len v (omega (arith, page, behind, is_first)) (omega (arith, page, before, is_last)))))
    (λ (end : last ≤ w / 256). inr (inl (omega (arith, end, is_last, b.1))))
    (cases_lt (w / 256) last))
    (λ (start : w / 256 ≤ first). inl (omega (arith, start, is_first, b.0)))
    (cases_lt first (w / 256))

-- and where the bytes begin with a page, each page before the last one
pub from_the_front : (at len last w : ℕ) → at / 4 % 256 ≡ 0 → last ≡ (at + (len - 1)) / 1024 → overlaps at len w ≡ true → (w / 256 ≡ last) ⊎ IsCovered at len (w / 256)
from_the_front at len last w front is_last is =
    let b = bounds at len w is in
    ⊎_elim (λ (before : w / 256 < last). inr (λ v page. overlapped at len v (omega (arith, page, front, b.0)) (omega (arith, page, before, is_last))))
    (λ (end : last ≤ w / 256). inl (omega (arith, end, is_last, b.1)))
    (cases_lt (w / 256) last)

-- each page from the first one to the last one has an overlapped word
pub page_overlapped : (at len q : ℕ) → 0 < len → at / 1024 ≤ q → q ≤ (at + (len - 1)) / 1024 → (w : ℕ) × (overlaps at len w ≡ true) × (w / 256 ≡ q)
page_overlapped at len q some low high =
    ⊎_elim
    (λ (inside : at / 4 < 256 * q). (256 * q, overlapped at len (256 * q) (omega (arith, inside)) (omega (arith, high, some)), omega arith))
    (λ (front : 256 * q ≤ at / 4). (at / 4, overlapped at len (at / 4) (omega arith) (omega (arith, some)), omega (arith, front, low)))
    (cases_lt (at / 4) (256 * q))

-- and an overlapped word lies in one of them
pub page_between : (at len w : ℕ) → overlaps at len w ≡ true → (at / 1024 ≤ w / 256) × (w / 256 ≤ (at + (len - 1)) / 1024)
page_between at len w is = let b = bounds at len w is in (omega (arith, b.0), omega (arith, b.1))

-- how far one step goes, to the end of a page or of the words
pub steps : (word end count : ℕ) → word < end → count ≡ min (end - word) (256 - word % 256) → (word + count ≤ end) × (word % 256 + count ≤ 256) × (((word + count) % 256 ≡ 0) ⊎ (word + count ≡ end))
steps word end count less is = by (cases_lt (end - word) (256 - word % 256))
  where
    by : ((end - word) < (256 - word % 256)) ⊎ ((256 - word % 256) ≤ (end - word)) → (word + count ≤ end) × (word % 256 + count ≤ 256) × (((word + count) % 256 ≡ 0) ⊎ (word + count ≡ end))
    by (inl first) = let at : count ≡ end - word = grind arith in (omega (arith, at, less), omega (arith, at, first), inr (omega (arith, at, less)))
    by (inr second) = let at : count ≡ 256 - word % 256 = grind arith in (omega (arith, at, second), omega (arith, at), inl (omega (arith, at)))

-- the words of one step
pub is_in_step : (word count w : ℕ) → word % 256 + count ≤ 256 → word ≤ w → w < word + count → ((w / 256 == (word / 256)) && (nat_le (word % 256) (w % 256) && nat_lt (w % 256) (word % 256 + count))) ≡ true
is_in_step word count w fits low high =
    let same : w / 256 ≡ word / 256 = omega (arith, fits, low, high) in
    and_from (w / 256 == (word / 256)) (nat_le (word % 256) (w % 256) && nat_lt (w % 256) (word % 256 + count)) (ap (λ (n : ℕ). n == (word / 256)) same ∙ itself (word / 256))
    (and_from (nat_le (word % 256) (w % 256)) (nat_lt (w % 256) (word % 256 + count)) (le-leb (word % 256) (w % 256) (omega (arith, same, low))) (lt-ltb (w % 256) (word % 256 + count) (omega (arith, same, high))))

-- Where the words go on that are made new: the page of a word that is covered has its first word there, and all of them.
pub whole_page : (at len word end count : ℕ) → 0 < len → end ≡ (at + (len - 1)) / 4 + 1 → word < end → (word ≡ at / 4) ⊎ ((word % 256 ≡ 0) ⊎ (word ≡ end)) → count ≡ min (end - word) (256 - word % 256)
    → IsCovered at len (word / 256) → (word % 256 ≡ 0) × (word % 256 + count ≡ 256)
whole_page at len word end count some is_end less begins is covered =
    let step = steps word end count less is in
    (front, ⊎_elim (λ (page : (word + count) % 256 ≡ 0). omega (arith, page, front, step.1, last, less)) (λ (over : word + count ≡ end). omega (arith, over, front, step.1, last)) step.2)
  where
    low : 256 * (word / 256) / 256 ≡ word / 256
    low = omega arith

    high : (256 * (word / 256) + 255) / 256 ≡ word / 256
    high = omega arith

    first : at / 4 ≤ 256 * (word / 256)
    first = omega (arith, (bounds at len (256 * (word / 256)) (covered (256 * (word / 256)) low)).0)

    last : 256 * (word / 256) + 256 ≤ end
    last = omega (arith, is_end, some, (bounds at len (256 * (word / 256) + 255) (covered (256 * (word / 256) + 255) high)).1)

    front : word % 256 ≡ 0
    front = ⊎_elim (λ same. omega (arith, same, first)) (λ rest. ⊎_elim (λ on. on) (λ over. absurd (omega (arith, over, less))) rest) begins

-- what holds of the page of each word holds of the first page and of the last one
pub at_first : (P : ℕ → Type 0) (at len first : ℕ) → 0 < len → first ≡ at / 1024 → ((w : ℕ) → overlaps at len w ≡ true → P (w / 256)) → P first
at_first P at len first some is all = let page : at / 4 / 256 ≡ first = omega (arith, is) in subst P page (all (at / 4) (overlapped at len (at / 4) (omega arith) (omega (arith, some))))

pub at_last : (P : ℕ → Type 0) (at len last : ℕ) → 0 < len → last ≡ (at + (len - 1)) / 1024 → ((w : ℕ) → overlaps at len w ≡ true → P (w / 256)) → P last
at_last P at len last some is all =
    let page : (at + (len - 1)) / 4 / 256 ≡ last = omega (arith, is) in
    subst P page (all ((at + (len - 1)) / 4) (overlapped at len ((at + (len - 1)) / 4) (omega (arith, some)) (omega (arith, some))))

pub got : (cells : List Cell) (i : ℕ) (cell : Cell) → slice_get cells i ≡ Some cell → get_or cells i New ≡ cell
got [] i cell is = absurd (cc is)
got (x ∷ xs) zero cell is = cc is
got (x ∷ xs) (suc i) cell is = got xs i cell is

-- the cell that words of a page all have is one of the page's
pub of_same : (r : Option Cell) (cells : List Cell) (from to : ℕ) (P : Cell → Type 0) → from < to → IfSome r (λ cell. (i : ℕ) → from ≤ i → i < to → slice_get cells i ≡ Some cell) → P (get_or cells from New) → IfSome r P
of_same None cells from to P some same is = tt
of_same (Some cell) cells from to P some same is = subst P (got cells from cell (same from (omega arith) some)) is
