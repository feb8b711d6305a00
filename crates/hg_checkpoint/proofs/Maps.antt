-- The map of a pool that was made of a root: its cells are those of each checkpoint with the root's parts.
use Rattle.std.proofs.Common.{◌≡◌, ◌<◌, ◌/◌, ◌%◌, ◌∙◌, ◌==◌, ◌||◌, ℕ, suc, Bool, true, false, List, [], ◌∷◌, length, map, get_or, All, IsTrue, Option, Some, None, if◌then◌else◌, refl, sym, ap, subst, arith}
use Rattle.hg_cells.specs.declared.cell.Cell.{Cell}
use Rattle.hg_cells.specs.declared.cell.Cell.TheVariants.{New}
use Rattle.hg_cells.specs.Cells.{IsWithin, meaning}
use Rattle.hg_contents.specs.Images.{cell_of, content_of, has_slot}
use Rattle.hg_detect.specs.Shown.{content, report_of}
use Rattle.hg_disk.specs.declared.disk.Disk as disk
use Rattle.hg_pages.specs.Files.{known}
use Rattle.hg_pages.specs.Slots.{HasPage}
use Rattle.hg_pages.specs.Tables.{slot_in}
use Rattle.hg_pages.specs.declared.slot_file.SlotFile.{SlotFile}
use Rattle.hg_pages.proofs.Decoding.{stored}
use Rattle.hg_pages.proofs.Rising.{equal}
use Rattle.hg_pool.specs.Kept.{HasSome, IsFaithful}
use Rattle.hg_pool.specs.Maps.{in_slot, live}
use Rattle.hg_pool.proofs.FromSlots.{cells_within}
use Rattle.hg_root.specs.Checkpoints.{Checkpoint, HasPages}
use Rattle.hg_root.specs.Parts.{Parts}
use Rattle.hg_root.specs.Roots.{IsWhole, parts_of}
use Rattle.hg_root.specs.declared.parts.PageSlot.{PageSlot}
use Rattle.hg_root.specs.declared.root.Root.{Root}
use Rattle.hg_checkpoint.specs.declared.limits.Limits.{Limits}
use Rattle.hg_checkpoint.specs.Restoring.{detector_of, pool_of}
use Rattle.hg_checkpoint.specs.NamedPages.{HasPagesOf, HasSomePage, entries_of}
use Rattle.hg_checkpoint.proofs.Pages.{each_stands}

module _ (segments : ℕ) (sets : List (List ℕ)) (slots : List ℕ) where
  -- a word of a page, by the table and by the checkpoint
  word : (pages : List PageSlot) (f : ℕ → List Cell) → All (λ p. HasPage segments sets p.slot p.page (f p.page) slots) pages → (page i : ℕ) → i < 256
      → in_slot slots (slot_in (entries_of pages) page) i ≡ (if has_slot pages page then get_or (f page) i New else New)
  word [] f all page i lt = refl
  word (p ∷ pages) f all page i lt = at (p.page == page) refl (word pages f (λ k d less. all (suc k) d (omega (arith, less))) page i lt)
    where
      at : (b : Bool) → (p.page == page) ≡ b → in_slot slots (slot_in (entries_of pages) page) i ≡ (if has_slot pages page then get_or (f page) i New else New)
          → in_slot slots (if b then Some p.slot else slot_in (entries_of pages) page) i ≡ (if b || has_slot pages page then get_or (f page) i New else New)
      at true test rest = stored p.slot p.page i (f p.page) slots lt (all 0 p (omega arith)).stands ∙ ap (λ (n : ℕ). get_or (f n) i New) (equal p.page page test)
      at false test rest = rest

  -- the page that a table names in a slot
  found : (pages : List PageSlot) → All (HasSomePage segments sets slots) pages → (page slot : ℕ) → slot_in (entries_of pages) page ≡ Some slot → HasSomePage segments sets slots (record { page = page; slot = slot })
  found [] all page slot is = absurd (cc is)
  found (p ∷ pages) all page slot is = at (p.page == page) refl is (found pages (λ k d less. all (suc k) d (omega (arith, less))) page slot)
    where
      at : (b : Bool) → (p.page == page) ≡ b → (if b then Some p.slot else slot_in (entries_of pages) page) ≡ Some slot
          → (slot_in (entries_of pages) page ≡ Some slot → HasSomePage segments sets slots (record { page = page; slot = slot })) → HasSomePage segments sets slots (record { page = page; slot = slot })
      at true test here rest =
          let same : p.slot ≡ slot = cc here in
          subst (λ (n : ℕ). HasSomePage segments sets slots (record { page = page; slot = n })) same
          (subst (λ (n : ℕ). HasSomePage segments sets slots (record { page = n; slot = p.slot })) (equal p.page page test) (all 0 p (omega arith)))
      at false test here rest = rest here

  within : (pages : List PageSlot) → All (HasSomePage segments sets slots) pages → (page i : ℕ) → i < 256 → IsWithin segments (length sets) (in_slot slots (slot_in (entries_of pages) page) i)
  within pages all page i lt = at (slot_in (entries_of pages) page) refl
    where
      at : (o : Option ℕ) → slot_in (entries_of pages) page ≡ o → IsWithin segments (length sets) (in_slot slots o i)
      at None is = tt
      at (Some slot) is =
          let has = found pages all page slot is in
          subst (λ (c : Cell). IsWithin segments (length sets) c) (sym (stored slot page i has.0 slots lt has.1.stands)) (cells_within segments sets has.0 has.1.known i)

abbrev with_cells : Parts → (ℕ → List Cell) → Checkpoint
with_cells root cells_of = record { root = root; cells_of = cells_of }

module _ {D : Type 0} (g : disk.Ghosts D) (root : Root) (caps : Limits) (file : SlotFile D) where
  same_cell : (f : ℕ → List Cell) → HasPages (known g file) (with_cells (parts_of root) f) → (w : ℕ) → live g (pool_of root.pages.items caps file) w ≡ cell_of (with_cells (parts_of root) f) w
  same_cell f has w = word (length root.segments.items) root.sets.sets (known g file) root.pages.items f has (w / 256) (w % 256) (omega arith)

  with_parts : (f : ℕ → List Cell) → IsWhole root → HasPages (known g file) (with_cells (parts_of root) f) → content (live g) (detector_of root caps file) ≡ content_of (with_cells (parts_of root) f)
  with_parts f whole has = λ i. record {
    events = root.state.events;
    segments = root.segments.items;
    threads = root.state.threads;
    words = λ w. meaning root.sets.sets (same_cell f has w i);
    reports = map (report_of root.sets.sets) root.reports.items;
    total = root.total;
    last = λ source. whole.last source i;
  }

  pub same_content : (c : Checkpoint) → IsWhole root → c.root ≡ parts_of root → HasPages (known g file) c → content (live g) (detector_of root caps file) ≡ content_of c
  same_content c whole is has =
      subst (λ (r : Parts). HasPages (known g file) (with_cells r c.cells_of) → content (live g) (detector_of root caps file) ≡ content_of (with_cells r c.cells_of)) (sym is) (with_parts c.cells_of whole) has

  pub is_faithful : IsTrue g.is_honest → HasPagesOf (parts_of root) (known g file) → IsFaithful g (pool_of root.pages.items caps file) (length root.segments.items) (length root.sets.sets)
  is_faithful honest has =
      let all = each_stands (parts_of root) (known g file) has in
      let some : (page slot : ℕ) → slot_in (entries_of root.pages.items) page ≡ Some slot → HasSome slot page (known g file) = λ page slot is. (let p = found (length root.segments.items) root.sets.sets (known g file) root.pages.items all page slot is in (p.0, p.1.stands)) in
      record {
        whole = record { honest = honest; pages = λ page. record { live_page = some page; frozen_page = some page; clean = λ f is. absurd (cc is) } };
        within = λ w. within (length root.segments.items) root.sets.sets (known g file) root.pages.items all (w / 256) (w % 256) (omega arith);
      }
