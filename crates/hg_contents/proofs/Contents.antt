-- An image has one content.
use Rattle.std.proofs.Common.{◌≡◌, ◌∙◌, ◌/◌, ◌%◌, ◌||◌, inl, inr, ℕ, suc, Bool, true, false, List, [], ◌∷◌, drop, map, get_or, All, Option, Some, None, if◌then◌else◌, refl, sym, ap, subst, arith}
use Rattle.std.specs.Prelude.{IfSome}
use Rattle.std.proofs.lemmas.Bool.{cases_eq, ne_eqb}
use Rattle.hg_model.specs.declared.event.Named.{Named}
use Rattle.hg_model.specs.Contents.{Content}
use Rattle.hg_model.specs.Change.{followed}
use Rattle.hg_cells.specs.declared.cell.Cell.{Cell}
use Rattle.hg_cells.specs.declared.cell.Cell.TheVariants.{New}
use Rattle.hg_cells.specs.Cells.{meaning}
use Rattle.hg_detect.specs.Shown.{report_of}
use Rattle.hg_gate.specs.Batches.{header}
use Rattle.hg_journal.proofs.Journals.{one_reading}
use Rattle.hg_pages.proofs.OneReading.{one_page_in}
use Rattle.hg_root.specs.declared.parts.PageSlot.{PageSlot}
use Rattle.hg_root.specs.Checking.{last_number}
use Rattle.hg_root.specs.Checkpoints.{Checkpoint, HasPages, root_of}
use Rattle.hg_root.specs.Parts.{Parts}
use Rattle.hg_root.proofs.Choosing.{one_newest}
use Rattle.hg_contents.specs.Images.{cell_of, content_of, has_slot, start_of}
use Rattle.hg_contents.specs.Laws.{ContentIsUnique}

abbrev with_cells : Parts → (ℕ → List Cell) → Checkpoint
with_cells root cells_of = record { root = root; cells_of = cells_of }

same_at : (pages : List PageSlot) (f g : ℕ → List Cell) (page : ℕ) → All (λ p. f p.page ≡ g p.page) pages → has_slot pages page ≡ true → f page ≡ g page
same_at [] f g page all has = absurd (cc has)
same_at (p ∷ pages) f g page all has =
    elim (cases_eq p.page page) [
      | inl same ↦ subst (λ (n : ℕ). f n ≡ g n) same (all 0 p (omega arith))
      | inr other ↦ same_at pages f g page (λ i d lt. all (suc i) d (omega (arith, lt))) (ap (λ (b : Bool). b || has_slot pages page) (sym (ne_eqb p.page page other)) ∙ has)
    ]

same_word : (b : Bool) (xs ys : List Cell) (k : ℕ) → (b ≡ true → xs ≡ ys) → (if b then get_or xs k New else New) ≡ (if b then get_or ys k New else New)
same_word true xs ys k same = ap (λ (l : List Cell). get_or l k New) (same refl)
same_word false xs ys k same = refl

-- of one root, a file of slots has the cells of one checkpoint
module _ (root : Parts) (f g : ℕ → List Cell) (slots : List ℕ) (one : HasPages slots (with_cells root f)) (other : HasPages slots (with_cells root g)) where
  same_pages : All (λ p. f p.page ≡ g p.page) root.pages
  same_pages i d lt =
      let p = get_or root.pages i d in
      (one_page_in slots p.slot p.page p.page (f p.page) (g p.page) (one i d lt).stands (other i d lt).stands).1

  same_cell : (w : ℕ) → cell_of (with_cells root f) w ≡ cell_of (with_cells root g) w
  same_cell w = same_word (has_slot root.pages (w / 256)) (f (w / 256)) (g (w / 256)) (w % 256) (same_at root.pages f g (w / 256) same_pages)

  one_content : content_of (with_cells root f) ≡ content_of (with_cells root g)
  one_content = λ i. record {
    events = root.events;
    segments = root.segments;
    threads = root.threads;
    words = λ w. meaning root.sets (same_cell w i);
    reports = map (report_of root.sets) root.reports;
    total = root.total;
    last = last_number root.sources;
  }

pub one_start : (a b : Option Checkpoint) (slots : List ℕ) → root_of a ≡ root_of b → IfSome a (HasPages slots) → IfSome b (HasPages slots) → start_of a ≡ start_of b
one_start None None slots same one other = refl
one_start None (Some b) slots same one other = absurd cc
one_start (Some a) None slots same one other = absurd cc
one_start (Some a) (Some b) slots same one other =
    let root : a.root ≡ b.root = cc in
    ap (λ (r : Parts). content_of (with_cells r a.cells_of)) root
    ∙ one_content b.root a.cells_of b.cells_of slots (subst (λ (r : Parts). HasPages slots (with_cells r a.cells_of)) root one) other

some_is : (c d : Content) → Some c ≡ Some d → c ≡ d
some_is c d is = cc

pub content_is_unique : ContentIsUnique
content_is_unique image c d small short a b =
    let one = a.stands in
    let other = b.stands in
    let root = one_newest (root_of a.checkpoint) one.former (root_of b.checkpoint) other.former image.root0 image.root1 small short one.newest other.newest in
    let start = one_start a.checkpoint b.checkpoint image.slots root one.stand.0 other.stand.0 in
    let events = one_reading header image.journal a.events b.events a.journal b.journal in
    some_is c d
    (sym a.gives.leads ∙ ap (λ (s : Content). followed s (drop s.events a.events)) start
    ∙ ap (λ (es : List Named). followed (start_of b.checkpoint) (drop (start_of b.checkpoint).events es)) events ∙ b.gives.leads)
