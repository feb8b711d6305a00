-- The pages of a root, taken one after another.
use Rattle.std.proofs.Common.{◌≡◌, ◌∙◌, ◌+◌, ◌/◌, ◌%◌, ◌*◌, ◌<◌, ◌≤◌, ◌==◌, ◌||◌, ℕ, Bool, true, false, List, All, length, take, get_or, if◌then◌else◌, refl, sym, ap, subst, arith, eq-eqb}
use Rattle.std.proofs.lemmas.List.Folds.{list_any_more}
use Rattle.std.proofs.lemmas.List.{take_all}
use Rattle.hg_cells.specs.declared.cell.Cell.{Cell}
use Rattle.hg_cells.specs.declared.cell.Cell.TheVariants.{New}
use Rattle.hg_cells.specs.declared.paged.PagedWords.{PagedWords}
use Rattle.hg_cells.specs.Paged.{cell_in}
use Rattle.hg_pages.specs.Slots.{HasPage}
use Rattle.hg_pages.proofs.OneReading.{one_page_in}
use Rattle.hg_pages.proofs.Rising.{equal}
use Rattle.hg_root.specs.Parts.{Parts}
use Rattle.hg_root.specs.declared.parts.PageSlot.{PageSlot}
use Rattle.hg_contents.specs.Images.{has_slot}
use Rattle.hg_saved.specs.Words.{HasWordsOf, HaveCells, PutsPages, TakesPage, TakesPages}

or_true : (b : Bool) → (b || true) ≡ true
or_true true = refl
or_true false = refl

or_false : (b : Bool) → (b || false) ≡ b
or_false true = refl
or_false false = refl

module _ (segments : ℕ) (sets : List (List ℕ)) (slots : List ℕ) (pages : List PageSlot) where
  -- The words of the first n pages have the cells of their slots.
  abbrev pub TakesFront : ℕ → PagedWords → PagedWords → Type 0
  TakesFront n old new = (cells_of : ℕ → List Cell) → HaveCells segments sets slots pages cells_of → PutsPages (take n pages) cells_of old new

  pub none_yet : (old : PagedWords) → TakesFront 0 old old
  none_yet old cells_of have w = refl

  pub one_more : (n : ℕ) (d : PageSlot) (old mid new : PagedWords) → n < length pages → TakesPage segments sets slots (get_or pages n d) mid new → TakesFront n old mid → TakesFront (n + 1) old new
  one_more n d old mid new lt taken before cells_of have w = at (p.page == w / 256) refl
    where
      p : PageSlot
      p = get_or pages n d

      same : cells_of p.page ≡ taken.0
      same = (one_page_in slots p.slot p.page p.page (cells_of p.page) taken.0 (have n d lt).stands taken.1.stands).1

      value : Bool → Cell
      value b = if b then get_or (cells_of (w / 256)) (w % 256) New else cell_in old w

      more : has_slot (take (n + 1) pages) (w / 256) ≡ (has_slot (take n pages) (w / 256) || (p.page == w / 256))
      more = list_any_more (λ (q : PageSlot). q.page == w / 256) pages n d lt

      at : (b : Bool) → (p.page == w / 256) ≡ b → cell_in new w ≡ value (has_slot (take (n + 1) pages) (w / 256))
      at true is =
          let page : p.page ≡ w / 256 = equal p.page (w / 256) is in
          let word : 256 * p.page + w % 256 ≡ w = omega (arith, page) in
          ap (cell_in new) (sym word) ∙ taken.2.inside (w % 256) (omega arith) ∙ ap (λ (cells : List Cell). get_or cells (w % 256) New) (sym same)
          ∙ ap (λ (n : ℕ). get_or (cells_of n) (w % 256) New) page
          ∙ sym (ap value (more ∙ ap (λ (b : Bool). has_slot (take n pages) (w / 256) || b) is ∙ or_true (has_slot (take n pages) (w / 256))))
      at false is =
          taken.2.outside w (λ e. absurd (apart e)) ∙ before cells_of have w
          ∙ sym (ap value (more ∙ ap (λ (b : Bool). has_slot (take n pages) (w / 256) || b) is ∙ or_false (has_slot (take n pages) (w / 256))))
        where
          apart : w / 256 ≡ p.page → ⊥
          apart e = absurd (cc (is, eq-eqb p.page (w / 256) (sym e)))

  pub all_taken : (n : ℕ) (old new : PagedWords) → length pages ≤ n → TakesFront n old new → TakesPages segments sets slots pages old new
  all_taken n old new all front = subst (λ (l : List PageSlot). (cells_of : ℕ → List Cell) → HaveCells segments sets slots pages cells_of → PutsPages l cells_of old new) (take_all n pages all) front

-- the words that were taken, in a map of new words, are those of each checkpoint with these parts
pub words_are : (root : Parts) (slots : List ℕ) (old new : PagedWords) → ((w : ℕ) → cell_in old w ≡ New) → TakesPages (length root.segments) root.sets slots root.pages old new → HasWordsOf root slots new
words_are root slots old new fresh taken c is has w =
    let have : HaveCells (length root.segments) root.sets slots root.pages c.cells_of =
    subst (λ (r : Parts). All (λ p. HasPage (length r.segments) r.sets p.slot p.page (c.cells_of p.page) slots) r.pages) is has in
    taken c.cells_of have w
    ∙ ap (λ (x : Cell). if has_slot root.pages (w / 256) then get_or (c.cells_of (w / 256)) (w % 256) New else x) (fresh w)
    ∙ ap (λ (r : Parts). if has_slot r.pages (w / 256) then get_or (c.cells_of (w / 256)) (w % 256) New else New) (sym is)

-- the same, with other names of the numbers
pub words_by : (root : Parts) (slots : List ℕ) (n : ℕ) (pages : List PageSlot) (old new : PagedWords) → n ≡ length root.segments → pages ≡ root.pages → ((w : ℕ) → cell_in old w ≡ New)
    → TakesPages n root.sets slots pages old new → HasWordsOf root slots new
words_by root slots n pages old new count are fresh taken =
    words_are root slots old new fresh
    (subst (λ (m : ℕ). TakesPages m root.sets slots root.pages old new) count (subst (λ (l : List PageSlot). TakesPages n root.sets slots l old new) are taken))
