-- Pages whose slots lie side by side, in a list and in a run that was read.
use Rattle.std.proofs.Common.{◌≡◌, ◌≢◌, ◌⊎◌, inl, inr, ◌<◌, ◌≤◌, ◌+◌, ◌-◌, ◌*◌, ◌∙◌, ℕ, zero, suc, List, [], ◌∷◌, ◌++◌, length, take, drop, get_or, slice_get, Some, All, refl, sym, subst, arith, length-append, length-drop, length-take}
use Rattle.std.proofs.Math.Seq.{take-add}
use Rattle.std.proofs.lemmas.Bool.{cases_lt}
use Rattle.std.proofs.lemmas.List.{get_or-append_right, get_or-drop, get_or-take, get_or_append_left}
use Rattle.std.proofs.lemmas.Option.{get_or_from_slice_get, slice_get-get_or, slice_get_within}
use Rattle.hg_disk.specs.declared.disk.Disk as disk
use Rattle.hg_pages.specs.Files.{WasRead}
use Rattle.hg_pages.specs.Runs.{HasRun, bytes_in_run}
use Rattle.hg_pages.specs.Slots.{HasBytes, HasPage, IsOutside, slot_text}
use Rattle.hg_pages.specs.declared.slot_file.SlotFile.{SlotFile}
use Rattle.hg_pages.proofs.Keeping.{has_page, one_at}
use Rattle.hg_root.specs.declared.parts.PageSlot.{PageSlot}
use Rattle.hg_checkpoint.specs.NamedPages.{HasSomePage}
use Rattle.hg_checkpoint.specs.Runs.{HasEachPage, IsLongestRun, LieSideBySide}
use Rattle.hg_checkpoint.proofs.Calling.{read_on}

-- a page of the front, and of the list
in_front : (pages : List PageSlot) (n i : ℕ) (p : PageSlot) → slice_get (take n pages) i ≡ Some p → (i < n) × (slice_get pages i ≡ Some p)
in_front pages zero i p is = absurd (cc is)
in_front [] (suc n) i p is = absurd (cc is)
in_front (q ∷ pages) (suc n) zero p is = (omega arith, is)
in_front (q ∷ pages) (suc n) (suc i) p is = let there = in_front pages n i p is in (omega (arith, there.0), there.1)

of_front : (pages : List PageSlot) (n i : ℕ) (p : PageSlot) → i < n → slice_get pages i ≡ Some p → slice_get (take n pages) i ≡ Some p
of_front pages zero i p lt is = absurd (omega (arith, lt))
of_front [] (suc n) i p lt is = absurd (cc is)
of_front (q ∷ pages) (suc n) zero p lt is = is
of_front (q ∷ pages) (suc n) (suc i) p lt is = of_front pages n i p (omega (arith, lt)) is

-- pages that lie one behind the other from the first on
from_first : (pages : List PageSlot) (p : PageSlot) → ((i : ℕ) (q : PageSlot) → slice_get pages i ≡ Some q → q.slot ≡ p.slot + i) → LieSideBySide pages
from_first pages p each i j a b one other = omega (arith, each i a one, each j b other)

-- the first page alone
pub one_alone : (pages : List PageSlot) → LieSideBySide (take 1 pages)
one_alone pages i j p q one other =
    let first = in_front pages 1 i p one in
    let second = in_front pages 1 j q other in
    same i j first.0 second.0 first.1 second.1
  where
    same : (i j : ℕ) → i < 1 → j < 1 → slice_get pages i ≡ Some p → slice_get pages j ≡ Some q → p.slot + j ≡ q.slot + i
    same zero zero a b has also = let is : p ≡ q = cc (sym has ∙ also) in λ k. (is k).slot + 0
    same zero (suc j) a b has also = absurd (omega (arith, b))
    same (suc i) j a b has also = absurd (omega (arith, a))

-- one page more, in the next slot
pub one_more : (pages : List PageSlot) (n : ℕ) (p q : PageSlot) → 1 ≤ n → slice_get pages 0 ≡ Some p → slice_get pages n ≡ Some q → q.slot ≡ p.slot + n → LieSideBySide (take n pages) → LieSideBySide (take (n + 1) pages)
one_more pages n p q some first last next run =
    from_first (take (n + 1) pages) p (λ i a is.
    let there = in_front pages (n + 1) i a is in
    place i a there.0 there.1 (cases_lt i n))
  where
    place : (i : ℕ) (a : PageSlot) → i < n + 1 → slice_get pages i ≡ Some a → (i < n) ⊎ (n ≤ i) → a.slot ≡ p.slot + i
    place i a lt has (inl before) =
        let is = run 0 i p a (of_front pages n 0 p (omega (arith, some)) first) (of_front pages n i a before has) in
        omega (arith, is)
    place i a lt has (inr behind) =
        let here : i ≡ n = omega (arith, lt, behind) in
        let same : a ≡ q = cc (sym has ∙ (λ k. slice_get pages (here k)) ∙ last) in
        (λ k. (same k).slot) ∙ next ∙ (λ k. p.slot + sym here k)

-- a page in another slot than the next one
pub gap : (pages : List PageSlot) (n : ℕ) (p q : PageSlot) → slice_get pages 0 ≡ Some p → slice_get pages n ≡ Some q → q.slot ≢ p.slot + n → ¬ LieSideBySide (take (n + 1) pages)
gap pages n p q first last apart run =
    let is = run 0 n p q (of_front pages (n + 1) 0 p (omega arith) first) (of_front pages (n + 1) n q (omega arith) last) in
    apart (omega (arith, is))

-- what holds of the page at each place so far
pub place_more : (P : ℕ → PageSlot → Type 0) (pages : List PageSlot) (n : ℕ) (d : PageSlot) → n < length pages → P n (get_or pages n d) → ((i : ℕ) (p : PageSlot) → i < n → slice_get pages i ≡ Some p → P i p)
    → (i : ℕ) (p : PageSlot) → i < n + 1 → slice_get pages i ≡ Some p → P i p
place_more P pages n d inside here before i p lt is = place (cases_lt i n)
  where
    place : (i < n) ⊎ (n ≤ i) → P i p
    place (inl less) = before i p less is
    place (inr more) =
        let same : i ≡ n = omega (arith, lt, more) in
        let page : get_or pages n d ≡ p = get_or_from_slice_get pages n p d (subst (λ (k : ℕ). slice_get pages k ≡ Some p) same is) in
        subst (λ (k : ℕ). P k p) (sym same) (subst (P n) page here)

module _ (segments : ℕ) (sets : List (List ℕ)) (run file : List ℕ) (pages : List PageSlot) (p : PageSlot) (first : slice_get pages 0 ≡ Some p) (side : LieSideBySide pages) (has : HasRun p.slot (length pages) run file) where
  -- what the run has for each page stands in the file
  pub each_there : HasEachPage segments sets run pages → All (HasSomePage segments sets file) pages
  each_there each i d lt =
      let q = get_or pages i d in
      let is : slice_get pages i ≡ Some q = slice_get-get_or pages i d lt in
      let page = each i q is in
      let slot : p.slot + i ≡ q.slot = side 0 i p q first is ∙ omega arith in
      (page.0, subst (λ (n : ℕ). HasPage segments sets n q.page page.0 file) slot (has_page file (bytes_in_run run i) segments (p.slot + i) q.page sets page.0 (has i lt) page.1 page.2))

  -- what stands in the file for each page, the run has
  pub each_here : All (HasSomePage segments sets file) pages → HasEachPage segments sets run pages
  each_here all i q is =
      let lt : i < length pages = slice_get_within pages i q is in
      let found = subst (HasSomePage segments sets file) (get_or_from_slice_get pages i q q is) (all i q lt) in
      let slot : p.slot + i ≡ q.slot = side 0 i p q first is ∙ omega arith in
      let there : HasBytes q.slot (bytes_in_run run i) file = subst (λ (n : ℕ). HasBytes n (bytes_in_run run i) file) slot (has i lt) in
      let bytes = found.1.stands.bytes in (
        found.0,
        record { page_is = found.1.stands.page_is; spelling = one_at file (3080 * q.slot) (bytes_in_run run i) (slot_text q.page found.0) (there.0 ∙ sym bytes.0) there.1 bytes.1 },
        found.1.known,
      )

-- if the last slot lies outside the file, it has not each page
pub none_outside : (segments : ℕ) (sets : List (List ℕ)) (file : List ℕ) (pages : List PageSlot) (p : PageSlot) → 1 ≤ length pages → slice_get pages 0 ≡ Some p → LieSideBySide pages → IsOutside (p.slot + length pages - 1) file → ¬ All (HasSomePage segments sets file) pages
none_outside segments sets file pages p some first side outside all =
    let last = length pages - 1 in
    let lt : last < length pages = omega (arith, some) in
    let q = get_or pages last p in
    let slot : q.slot ≡ p.slot + length pages - 1 = let is = side 0 last p q first (slice_get-get_or pages last p lt) in omega (arith, is, some) in
    let found = all last p lt in
    outside (slot_text q.page found.0) (subst (λ (n : ℕ). HasBytes n (slot_text q.page found.0) file) slot found.1.stands.bytes)

module _ {X : Type 0} (P : X → Type 0) where
  joined_each : (xs ys : List X) → All P xs → All P ys → All P (xs ++ ys)
  joined_each xs ys front back i d lt = place (cases_lt i (length xs))
    where
      place : (i < length xs) ⊎ (length xs ≤ i) → P (get_or (xs ++ ys) i d)
      place (inl before) = subst P (sym (get_or_append_left xs ys d i before)) (front i d before)
      place (inr behind) =
          let inside : i - length xs < length ys = omega (arith, behind, lt, length-append xs ys) in
          subst P (sym (get_or-append_right xs ys (length xs) i d refl behind)) (back (i - length xs) d inside)

  -- a part more
  pub part_more : (xs : List X) (at count : ℕ) → All P (take at xs) → All P (take count (drop at xs)) → All P (take (at + count) xs)
  part_more xs at count front part = subst (All P) (sym (take-add at count xs)) (joined_each (take at xs) (take count (drop at xs)) front part)

  -- of all, a part
  pub part_of : (xs : List X) (at count : ℕ) → All P xs → All P (take count (drop at xs))
  part_of xs at count all i d lt =
      let less : i < count = omega (arith, lt, length-take count (drop at xs)) in
      let within : at + i < length xs = omega (arith, lt, length-take count (drop at xs), length-drop at xs) in
      subst P (sym (get_or-take count (drop at xs) i d less ∙ get_or-drop at xs i d)) (all (at + i) d within)

-- a part of pages that lie side by side
behind : (pages : List PageSlot) (at i : ℕ) (p : PageSlot) → slice_get (drop at pages) i ≡ Some p → slice_get pages (at + i) ≡ Some p
behind pages zero i p is = let here : i ≡ 0 + i = omega arith in subst (λ (n : ℕ). slice_get pages n ≡ Some p) here is
behind [] (suc at) i p is = absurd (cc is)
behind (q ∷ pages) (suc at) i p is = let here : suc (at + i) ≡ suc at + i = omega arith in subst (λ (n : ℕ). slice_get (q ∷ pages) n ≡ Some p) here (behind pages at i p is)

part_side : (pages : List PageSlot) (at count : ℕ) → LieSideBySide pages → LieSideBySide (take count (drop at pages))
part_side pages at count side i j p q one other =
    let is = side (at + i) (at + j) p q (behind pages at i p (in_front (drop at pages) count i p one).1) (behind pages at j q (in_front (drop at pages) count j q other).1) in
    omega (arith, is)

module _ {D : Type 0} (g : disk.Ghosts D) where
  -- The first n pages were read by full runs, and maybe a last one.
  pub record ByRuns (old new : SlotFile D) (pages : List PageSlot) (n : ℕ) : Type 0 where
    pub calls : ℕ
    pub read : WasRead g calls old new
    pub full : n < length pages → n ≡ 21 * calls
    pub few : (m : ℕ) → length pages ≤ 21 * m → calls ≤ m

  -- one call more stays among those that are enough
  pub enough : (old new : SlotFile D) (pages : List PageSlot) (at m : ℕ) (so_far : ByRuns old new pages at) → at < length pages → length pages ≤ 21 * m → so_far.calls + 1 ≤ m
  enough old new pages at m so_far lt le = omega (arith, so_far.full lt, lt, le)

  pub by_more : (old mid new : SlotFile D) (pages : List PageSlot) (at count : ℕ) → LieSideBySide pages → at < length pages → IsLongestRun (drop at pages) count → ByRuns old mid pages at → WasRead g 1 mid new
      → ByRuns old new pages (at + count)
  by_more old mid new pages at count side lt is so_far one = record {
    calls = so_far.calls + 1;
    read = read_on g so_far.calls 1 old mid new so_far.read one;
    full = λ inside.
        let more : count < length (drop at pages) = omega (arith, inside, length-drop at pages) in
        filled (cases_lt count 21) more;
    few = λ m le. enough old mid pages at m so_far lt le;
  }
    where
      filled : (count < 21) ⊎ (21 ≤ count) → count < length (drop at pages) → at + count ≡ 21 * (so_far.calls + 1)
      filled (inl short) more = absurd (is.longest more short (part_side pages at (count + 1) side))
      filled (inr whole) more = omega (arith, whole, is.most, so_far.full lt)
