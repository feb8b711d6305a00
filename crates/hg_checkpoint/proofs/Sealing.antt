-- The next checkpoint, once its pages are durable and its root is opened.
use Rattle.std.proofs.Common.{◌≡◌, ◌+◌, ◌*◌, ◌≤◌, ℕ, List, ◌++◌, length, get_or, Option, Some, None, inl, refl, sym, ap, subst, arith, length-append}
use Rattle.std.specs.Prelude.{IfSome}
use Rattle.hg_disk.specs.declared.disk.Disk as disk
use Rattle.hg_disk.specs.Laws.{Holds}
use Rattle.hg_disk.specs.Moments.{Leaves}
use Rattle.hg_cells.specs.declared.cell.Cell.{Cell}
use Rattle.hg_pages.specs.Slots.{slot_text}
use Rattle.hg_pages.specs.Tables.{AreEntries}
use Rattle.hg_pool.specs.Kept.{SameMap}
use Rattle.hg_pool.specs.Maps.{IsSealed, disk_of, frozen}
use Rattle.hg_pool.specs.Shown.{ShownPool}
use Rattle.hg_pool.specs.Tables.{IsNameable}
use Rattle.hg_root.specs.Checkpoints.{Checkpoint, HasPages, HasSlotsOf, LieWithin, root_of}
use Rattle.hg_root.specs.Grammar.{HeadFits, pages_text}
use Rattle.hg_root.specs.Lawful.{IsLawfulHead, IsRoot, IsWritten}
use Rattle.hg_root.specs.Newest.{IsBelow}
use Rattle.hg_root.specs.Parts.{Parts}
use Rattle.hg_contents.specs.Maps.{IsKnownTo, checkpoint_of}
use Rattle.hg_checkpoint.specs.Standing.{IsHead, root_with}
use Rattle.hg_checkpoint.specs.Tables.{HasTable, Names, pages_of}
use Rattle.hg_checkpoint.proofs.Tables.{fit, has_entry, have_slots}
use Rattle.hg_checkpoint.proofs.Staying.{sealed_slots}

-- ---- its root

fits_with : (p : Parts) (table : List (ℕ × ℕ)) → HeadFits p → HeadFits (root_with p table)
fits_with p table h = record {
  number = h.number;
  events = h.events;
  segment_count = h.segment_count;
  segments = h.segments;
  thread_count = h.thread_count;
  threads = h.threads;
  set_count = h.set_count;
  sets = h.sets;
  total = h.total;
  report_count = h.report_count;
  reports = h.reports;
  source_count = h.source_count;
  sources = h.sources;
}

head_with : (p : Parts) (table : List (ℕ × ℕ)) → IsLawfulHead p → IsLawfulHead (root_with p table)
head_with p table h = record {
  fits = fits_with p table h.fits;
  number = h.number;
  events = h.events;
  segment_count = h.segment_count;
  segments = h.segments;
  threads = h.threads;
  named = h.named;
  held = h.held;
  sets = h.sets;
  total = h.total;
  kept = h.kept;
  reports = h.reports;
  order = h.order;
  sources = h.sources;
}

pub is_written : (now : Option Checkpoint) (p : Parts) (head : List ℕ) (number slots : ℕ) (table : List (ℕ × ℕ)) → IsHead now p head number → IsNameable slots table → IsWritten (head ++ pages_text (pages_of table)) (root_with p table)
is_written now p head number slots table is nameable = record {
  text = ap (λ (front : List ℕ). front ++ pages_text (pages_of table)) is.text;
  lawful = record { head = head_with p table is.lawful; pages_fit = fit slots table nameable; pages = have_slots slots table nameable };
}

-- a body that is written is a root's
pub as_root : (body : List ℕ) (p : Parts) → IsWritten body p → IsRoot body p
as_root body p is = record { spelled = inl is.text; lawful = is.lawful }

pub below_with : (root : Option Parts) (p : Parts) (table : List (ℕ × ℕ)) → IsBelow root (Some p) → IsBelow root (Some (root_with p table))
below_with None p table is = tt
below_with (Some former) p table is = is

-- ---- its slots

lies : (file bytes : List ℕ) (slot : ℕ) → length bytes ≡ 3080 → Holds file (3080 * slot) bytes → 3080 * slot + 3080 ≤ length file
lies file bytes slot long holds =
    let whole : length file ≡ length (holds.before ++ (bytes ++ holds.after)) = ap (λ (l : List ℕ). length l) holds.whole in
    omega (arith, whole, long, holds.place, length-append holds.before (bytes ++ holds.after), length-append bytes holds.after)

pages_lie : (c : Checkpoint) (file : List ℕ) → HasPages file c → LieWithin file c.root
pages_lie c file has i d lt =
    let p = get_or c.root.pages i d in
    let page = (has i d lt).stands.bytes in
    lies file (slot_text p.page (c.cells_of p.page)) p.slot page.0 page.1

former_lies : (now : Option Checkpoint) (file : List ℕ) → IfSome now (HasPages file) → IfSome (root_of now) (LieWithin file)
former_lies None file has = tt
former_lies (Some c) file has = pages_lie c file has

module _ {D : Type 0} (g : disk.Ghosts D) where
  pub next_slots : (p : ShownPool D) (now : Option Checkpoint) (former : Option Parts) (parts : Parts) (cells : ℕ → Cell) → IsSealed g p → AreEntries p.frozen → SameMap cells (frozen g p) → IsKnownTo parts cells
      → Leaves (HasSlotsOf now former) (g.state (disk_of p)) → Leaves (HasSlotsOf (Some (checkpoint_of (root_with parts p.frozen) cells)) (root_of now)) (g.state (disk_of p))
  next_slots p now former parts cells sealed entries words known leaves = λ image is.
      let root = root_with parts p.frozen in
      let same : frozen g p ≡ cells = λ i w. words w i in
      let table : HasTable root p.frozen = record { pages = refl; entries = entries } in
      let known_there : IsKnownTo root (frozen g p) = subst (λ (map : ℕ → Cell). IsKnownTo root map) (sym same) known in
      let pages : HasPages image (checkpoint_of root (frozen g p)) = sealed_slots g p root sealed table known_there image is in
      (subst (λ (map : ℕ → Cell). HasPages image (checkpoint_of root map)) same pages, former_lies now image (leaves image is).0)

  -- ---- its root is opened

  pub opened_slots : (old new : ShownPool D) (P : List ℕ → Type 0) → new ≡ record old { root = old.frozen } → Leaves P (g.state (disk_of old)) → Leaves P (g.state (disk_of new))
  opened_slots old new P is leaves = subst (λ (p : ShownPool D). Leaves P (g.state (disk_of p))) (sym is) leaves

pub opened_names : {D : Type 0} (old new : ShownPool D) (root : Parts) → new ≡ record old { root = old.frozen } → Names old.frozen root → Names new.root root
opened_names old new root is names = subst (λ (table : List (ℕ × ℕ)). Names table root) (sym (ap (λ p. p.root) is)) names

pub named_rows : (parts : Parts) (table : List (ℕ × ℕ)) → AreEntries table → Names table (root_with parts table)
named_rows parts table entries i d lt = has_entry (root_with parts table) table i d (record { pages = refl; entries = entries }) lt
