-- The slots of a checkpoint, and that they stay.
use Rattle.std.proofs.Common.{◌+◌, ◌*◌, ◌≤◌, ℕ, List, length, get_or, All, Option, Some, None}
use Rattle.std.specs.Prelude.{IfSome}
use Rattle.hg_disk.specs.declared.disk.Disk as disk
use Rattle.hg_disk.specs.State.{IsImage}
use Rattle.hg_disk.specs.Moments.{Leaves, LeavesOnly}
use Rattle.hg_disk.proofs.Moments.{may_leave}
use Rattle.hg_cells.specs.declared.cell.Cell.{Cell}
use Rattle.hg_pages.specs.Slots.{HasBytes, slot_text}
use Rattle.hg_pool.specs.Kept.{KeepsNamed, Went}
use Rattle.hg_pool.specs.Maps.{GivesCells, disk_of, frozen}
use Rattle.hg_pool.specs.Shown.{ShownPool}
use Rattle.hg_root.specs.Checkpoints.{Checkpoint, HasPages, HasSlotsOf, LieWithin}
use Rattle.hg_root.specs.Parts.{Parts}
use Rattle.hg_contents.specs.Maps.{HasPageOf, IsKnownTo, checkpoint_of}
use Rattle.hg_contents.proofs.Maps.{stored}
use Rattle.hg_checkpoint.specs.Laws.{FrozenSlotsStay, SealedSlotsHaveTheCheckpoint, SlotsStay}
use Rattle.hg_checkpoint.specs.Tables.{HasTable, Names, NamesOf}
use Rattle.hg_checkpoint.proofs.Moments.{only_these}
use Rattle.hg_checkpoint.proofs.Tables.{has_entry}

-- what a table's slots give is the checkpoint's
pub given_pages : (root : Parts) (table : List (ℕ × ℕ)) (cells : ℕ → Cell) (slots : List ℕ) → HasTable root table → IsKnownTo root cells → GivesCells table cells slots → HasPages slots (checkpoint_of root cells)
given_pages root table cells slots has known gives =
    let pages : All (HasPageOf cells slots) root.pages = λ i d lt.
    let p = get_or root.pages i d in
    gives.named p.page p.slot (has_entry root table i d has lt) in
    stored root cells slots known pages

module _ {D : Type 0} (g : disk.Ghosts D) where
  pub sealed_slots : SealedSlotsHaveTheCheckpoint g
  sealed_slots p root sealed has known = λ image is. given_pages root p.frozen (frozen g p) image has known (sealed image is)

  module _ (bytes : (d : D) → IsImage (g.state d) (g.state d).contents) (old new : ShownPool D) (went : Went g old new) where
    pages_stay : (table : List (ℕ × ℕ)) (c : Checkpoint) → KeepsNamed g table old new → Names table c.root → Leaves (λ slots. HasPages slots c) (g.state (disk_of old))
        → LeavesOnly g (disk_of old) (disk_of new) (λ slots. HasPages slots c)
    pages_stay table c keeps names leaves =
        only_these g (disk_of old) (disk_of new) (λ slots. HasPages slots c) went.goes (λ image may i d lt.
        let p = get_or c.root.pages i d in
        let first = leaves (g.state (disk_of old)).contents (bytes (disk_of old)) i d lt in
        let kept = keeps p.slot (slot_text p.page (c.cells_of p.page)) (p.page, names i d lt) (λ earlier is. (leaves earlier is i d lt).stands.bytes) in
        record {
          stands = record { page_is = first.stands.page_is; bytes = may_leave g (disk_of old) (disk_of new) (HasBytes p.slot (slot_text p.page (c.cells_of p.page))) image kept may };
          known = first.known;
        })

    lie_stay : (root : Parts) → Leaves (λ slots. LieWithin slots root) (g.state (disk_of old)) → LeavesOnly g (disk_of old) (disk_of new) (λ slots. LieWithin slots root)
    lie_stay root leaves =
        only_these g (disk_of old) (disk_of new) (λ slots. LieWithin slots root) went.goes (λ image may i d lt.
        let p = get_or root.pages i d in
        may_leave g (disk_of old) (disk_of new) (λ slots. 3080 * p.slot + 3080 ≤ length slots) image (went.long (3080 * p.slot + 3080) (λ earlier is. leaves earlier is i d lt)) may)

    now_stays : (table : List (ℕ × ℕ)) (now : Option Checkpoint) → KeepsNamed g table old new → NamesOf table now → Leaves (λ slots. IfSome now (HasPages slots)) (g.state (disk_of old))
        → LeavesOnly g (disk_of old) (disk_of new) (λ slots. IfSome now (HasPages slots))
    now_stays table None keeps names leaves = only_these g (disk_of old) (disk_of new) (λ slots. Unit {0}) went.goes (λ image may. tt)
    now_stays table (Some c) keeps names leaves = pages_stay table c keeps names leaves

    former_stays : (former : Option Parts) → Leaves (λ slots. IfSome former (LieWithin slots)) (g.state (disk_of old)) → LeavesOnly g (disk_of old) (disk_of new) (λ slots. IfSome former (LieWithin slots))
    former_stays None leaves = only_these g (disk_of old) (disk_of new) (λ slots. Unit {0}) went.goes (λ image may. tt)
    former_stays (Some root) leaves = lie_stay root leaves

    both_stay : (table : List (ℕ × ℕ)) (now : Option Checkpoint) (former : Option Parts) → KeepsNamed g table old new → NamesOf table now → Leaves (HasSlotsOf now former) (g.state (disk_of old))
        → LeavesOnly g (disk_of old) (disk_of new) (HasSlotsOf now former)
    both_stay table now former keeps names leaves =
        only_these g (disk_of old) (disk_of new) (HasSlotsOf now former) went.goes (λ image may. (
          may_leave g (disk_of old) (disk_of new) (λ slots. IfSome now (HasPages slots)) image (now_stays table now keeps names (λ earlier is. (leaves earlier is).0)) may,
          may_leave g (disk_of old) (disk_of new) (λ slots. IfSome former (LieWithin slots)) image (former_stays former (λ earlier is. (leaves earlier is).1)) may,
        ))

  pub slots_stay : ((d : D) → IsImage (g.state d) (g.state d).contents) → SlotsStay g
  slots_stay bytes old new now former went names leaves = both_stay bytes old new went old.root now former went.root_kept names leaves

  pub frozen_slots_stay : ((d : D) → IsImage (g.state d) (g.state d).contents) → FrozenSlotsStay g
  frozen_slots_stay bytes old new next former went names leaves = both_stay bytes old new went old.frozen next former went.frozen_kept names leaves
