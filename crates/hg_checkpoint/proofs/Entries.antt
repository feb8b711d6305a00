-- The pages of a root as the entries of a table.
use Rattle.std.proofs.Common.{◌≡◌, ◌≢◌, ◌<◌, ◌^◌, ℕ, zero, suc, List, [], ◌∷◌, length, map, get_or, All, refl, sym, ap, subst, arith}
use Rattle.std.specs.List.{AllByRecursion, AllPairs}
use Rattle.std.specs.List.Sorted.{IsStrictlyIncreasing}
use Rattle.std.proofs.lemmas.List.{get_or-map, length-map}
use Rattle.hg_pages.specs.Tables.{AreEntries}
use Rattle.hg_pool.specs.Tables.{AreBelow}
use Rattle.hg_root.specs.Lawful.{HaveSlots}
use Rattle.hg_root.specs.declared.parts.PageSlot.{PageSlot}
use Rattle.hg_checkpoint.specs.NamedPages.{entries_of}

abbrev none : PageSlot
none = record { page = 0; slot = 0 }

abbrev entry_of : PageSlot → ℕ × ℕ
entry_of p = (p.page, p.slot)

pages_are : (pages : List PageSlot) → map (λ p. p.page) pages ≡ map (λ (e : ℕ × ℕ). e.0) (entries_of pages)
pages_are [] = refl
pages_are (p ∷ pages) = ap (λ (l : List ℕ). p.page ∷ l) (pages_are pages)

slots_are : (pages : List PageSlot) → map (λ p. p.slot) pages ≡ map (λ (e : ℕ × ℕ). e.1) (entries_of pages)
slots_are [] = refl
slots_are (p ∷ pages) = ap (λ (l : List ℕ). p.slot ∷ l) (slots_are pages)

pub are_entries : (pages : List PageSlot) → HaveSlots pages → AreEntries (entries_of pages)
are_entries pages are = record {
  rising = subst IsStrictlyIncreasing (pages_are pages) are.rising;
  distinct = subst (AllPairs ◌≢◌) (slots_are pages) are.distinct;
}

-- slots that the caps allow
pub are_below : (slots : ℕ) (pages : List PageSlot) → HaveSlots pages → All (λ p. p.slot < slots) pages → AreBelow slots (entries_of pages)
are_below slots pages are below i d lt =
    let inside : i < length pages = omega (arith, lt, length-map pages entry_of) in
    let p = get_or pages i none in
    let here : get_or (entries_of pages) i d ≡ entry_of p = get_or-map entry_of pages i none d inside in
    subst (λ (e : ℕ × ℕ). (e.0 < 2 ^ 54) × (e.1 < slots)) (sym here) ((are.each i none inside).0, below i none inside)

-- the pages behind are greater
pub greater : (n : ℕ) (pages : List PageSlot) (i : ℕ) (d : PageSlot) → AllByRecursion (λ e. n < e.0) (entries_of pages) → i < length pages → n < (get_or pages i d).page
greater n [] i d each lt = absurd (omega (arith, lt))
greater n (p ∷ pages) zero d each lt = each.0
greater n (p ∷ pages) (suc i) d each lt = greater n pages i d each.1 (omega (arith, lt))
