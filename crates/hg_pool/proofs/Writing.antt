-- A page is written to a slot that no table names.
use Rattle.std.proofs.Common.{◌≡◌, ◌≢◌, ◌⊎◌, inl, inr, ◌≤◌, ◌∙◌, ℕ, true, false, Option, Some, None, List, length, get_or, refl, sym, ap, subst}
use Rattle.hg_disk.specs.declared.disk.Disk as disk
use Rattle.hg_disk.specs.Moments.{Leaves, LeavesOnly}
use Rattle.hg_cells.specs.declared.cell.Cell.{Cell}
use Rattle.hg_cells.specs.declared.cell.Cell.TheVariants.{New}
use Rattle.hg_pages.specs.Slots.{HasBytes, HasSlot, IsSlot}
use Rattle.hg_pages.specs.Tables.{IsNamed}
use Rattle.hg_pages.specs.declared.slot_file.SlotFile.{SlotFile}
use Rattle.hg_pool.specs.Kept.{BreaksByFailure, Stays}
use Rattle.hg_cache.specs.declared.frame.Frame.{Frame}
use Rattle.hg_pages.specs.Tables.{slot_in}
use Rattle.hg_pool.specs.Maps.{bytes_of, copy_in, disk_of, frame_in, frozen_at, frozen_by, in_copy_or, in_frame_or, in_slot, is_broken, live_at}
use Rattle.hg_pool.specs.Shown.{ShownPool}
use Rattle.hg_pool.proofs.Changing.{Same, SlotsStay, written_file}
use Rattle.hg_pool.proofs.Stepping.{stays_all}

module _ {D : Type 0} (g : disk.Ghosts D) (old : ShownPool D) (file : SlotFile D) (slot : ℕ) (not_root : ¬ IsNamed old.root slot) (not_frozen : ¬ IsNamed old.frozen slot) (not_live : ¬ IsNamed old.live slot)
    (others : (other : ℕ) (bytes : List ℕ) → other ≢ slot → HasBytes other bytes (bytes_of g old) → HasBytes other bytes (bytes_of g (record old { file = file }))) where
  abbrev after : ShownPool D
  after = record old { file = file }

  apart : (s : ℕ) (bytes : List ℕ) → IsNamed old.live s ⊎ IsNamed old.frozen s → s ≢ slot
  apart s bytes (inl named) same = not_live (subst (λ (n : ℕ). IsNamed old.live n) same named)
  apart s bytes (inr named) same = not_frozen (subst (λ (n : ℕ). IsNamed old.frozen n) same named)

  stay : SlotsStay g old after
  stay s bytes named has = others s bytes (apart s bytes named) has

  same : (q : ℕ) → Same q old after
  same q = record { frames = refl; live = refl; frozen = refl; waiting = refl; copies = refl }

  pub stays_written : ((other : ℕ) (bytes : List ℕ) → other ≢ slot → Leaves (HasBytes other bytes) (g.state (disk_of old)) → LeavesOnly g (disk_of old) (disk_of after) (HasBytes other bytes))
      → ((n : ℕ) → Leaves (λ image. n ≤ length image) (g.state (disk_of old)) → LeavesOnly g (disk_of old) (disk_of after) (λ image. n ≤ length image))
      → (is_broken after ≡ false → is_broken old ≡ false) → BreaksByFailure g old after → Stays g old after
  stays_written moments long works breaks =
      stays_all g old after (written_file g old after slot not_root not_frozen moments long works breaks refl (λ q s is. is) (λ sealed. sealed) (λ sealed. refl) (refl, refl) (λ none. none)) stay same

-- what was written stands there
pub stands : (slot page : ℕ) (cells : List Cell) (bytes file : List ℕ) → IsSlot page cells bytes → HasBytes slot bytes file → HasSlot slot page cells file
stands slot page cells bytes file is has = record { page_is = is.page_is; bytes = subst (λ (l : List ℕ). HasBytes slot l file) is.spelling has }

in_copy : (o : Option (List Cell)) (frame : Option Frame) (stored also : Cell) (i : ℕ) → (o ≡ None → (f : Frame) × (frame ≡ Some f) × (f.is_dirty ≡ true)) → in_copy_or o (in_frame_or frame also i) i ≡ in_copy_or o (in_frame_or frame stored i) i
in_copy (Some cells) frame stored also i present = refl
in_copy None frame stored also i present = let f = present refl in ap (λ (x : Option Frame). in_frame_or x also i) f.1 ∙ sym (ap (λ (x : Option Frame). in_frame_or x stored i) f.1)

-- the frozen cells of a page that waits stand in no file
pub frozen_waiting : {D : Type 0} (p : ShownPool D) (file also : List ℕ) (page slot i : ℕ) → slot_in p.waiting page ≡ Some slot → (copy_in p.copies page ≡ None → (f : Frame) × (frame_in p.frames page ≡ Some f) × (f.is_dirty ≡ true))
    → frozen_at also p page i ≡ frozen_at file p page i
frozen_waiting p file also page slot i waits present =
    ap (λ (o : Option ℕ). frozen_by o (copy_in p.copies page) (in_slot also (slot_in p.frozen page) i) (live_at also p page i) i) waits
    ∙ in_copy (copy_in p.copies page) (frame_in p.frames page) (in_slot file (slot_in p.live page) i) (in_slot also (slot_in p.live page) i) i present
    ∙ sym (ap (λ (o : Option ℕ). frozen_by o (copy_in p.copies page) (in_slot file (slot_in p.frozen page) i) (live_at file p page i) i) waits)

-- the frozen cells of a page that waits without a copy are those in its frame
pub frozen_plain : {D : Type 0} (p : ShownPool D) (file : List ℕ) (page slot i : ℕ) (f : Frame) → slot_in p.waiting page ≡ Some slot → copy_in p.copies page ≡ None → frame_in p.frames page ≡ Some f → get_or f.cells i New ≡ frozen_at file p page i
frozen_plain p file page slot i f waits none there =
    sym (λ k. frozen_by (waits k) (none k) (in_slot file (slot_in p.frozen page) i) (in_frame_or (there k) (in_slot file (slot_in p.live page) i) i) i)
