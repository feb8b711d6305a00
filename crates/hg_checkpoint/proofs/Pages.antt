-- A checkpoint from the pages that its slots have.
use Rattle.std.proofs.Common.{◌≡◌, ◌<◌, ◌==◌, ℕ, zero, suc, true, List, [], ◌∷◌, length, get_or, All, if◌then◌else◌, refl, sym, subst, arith, rules}
use Rattle.hg_cells.specs.declared.cell.Cell.{Cell}
use Rattle.hg_pages.specs.Marks.{ArePagesRising}
use Rattle.hg_pages.specs.Slots.{HasPage}
use Rattle.hg_pages.proofs.Places.{in_order}
use Rattle.hg_pages.proofs.Rising.{below_apart, if_false, if_true}
use Rattle.hg_root.specs.Lawful.{HaveSlots}
use Rattle.hg_root.specs.Parts.{Parts}
use Rattle.hg_root.specs.declared.parts.PageSlot.{PageSlot}
use Rattle.hg_checkpoint.specs.NamedPages.{HasPagesOf, HasSomePage, entries_of}
use Rattle.hg_checkpoint.proofs.Entries.{are_entries, greater}

module _ (segments : ℕ) (sets : List (List ℕ)) (slots : List ℕ) where
  behind : (p : PageSlot) (pages : List PageSlot) → All (HasSomePage segments sets slots) (p ∷ pages) → All (HasSomePage segments sets slots) pages
  behind p pages all i d lt = all (suc i) d (omega (arith, lt))

  first : (p : PageSlot) (pages : List PageSlot) → All (HasSomePage segments sets slots) (p ∷ pages) → HasSomePage segments sets slots p
  first p pages all = all 0 p (omega arith)

  -- the cells of a page, in the slot of the first entry that has its number
  abbrev cells_in : (pages : List PageSlot) → All (HasSomePage segments sets slots) pages → ℕ → List Cell
  cells_in [] all page = []
  cells_in (p ∷ pages) all page = if p.page == page then (first p pages all).0 else cells_in pages (behind p pages all) page

  have : (pages : List PageSlot) (all : All (HasSomePage segments sets slots) pages) → ArePagesRising (entries_of pages)
      → All (λ p. HasPage segments sets p.slot p.page (cells_in pages all p.page) slots) pages
  have [] all rising i d lt = absurd (omega (arith, lt))
  have (p ∷ pages) all rising zero d lt =
      let here : (p.page == p.page) ≡ true = grind rules in
      subst (λ (l : List Cell). HasPage segments sets p.slot p.page l slots)
      (sym (if_true (p.page == p.page) (first p pages all).0 (cells_in pages (behind p pages all) p.page) here)) (first p pages all).1
  have (p ∷ pages) all rising (suc i) d lt =
      let q = get_or pages i d in
      let inside : i < length pages = omega (arith, lt) in
      subst (λ (l : List Cell). HasPage segments sets q.slot q.page l slots)
      (sym (if_false (p.page == q.page) (first p pages all).0 (cells_in pages (behind p pages all) q.page) (below_apart p.page q.page (greater p.page pages i d rising.0 inside))))
      (have pages (behind p pages all) rising.1 i d inside)

pub standing : (root : Parts) (slots : List ℕ) → HaveSlots root.pages → All (HasSomePage (length root.segments) root.sets slots) root.pages → HasPagesOf root slots
standing root slots are all =
    let rising = (in_order (entries_of root.pages) (are_entries root.pages are)).rising in
    (record { root = root; cells_of = cells_in (length root.segments) root.sets slots root.pages all }, refl, have (length root.segments) root.sets slots root.pages all rising)

pub each_stands : (root : Parts) (slots : List ℕ) → HasPagesOf root slots → All (HasSomePage (length root.segments) root.sets slots) root.pages
each_stands root slots has =
    let c = has.0 in
    subst (λ (r : Parts). All (HasSomePage (length r.segments) r.sets slots) r.pages) has.1 (λ i d lt. (c.cells_of (get_or c.root.pages i d).page, has.2 i d lt))
