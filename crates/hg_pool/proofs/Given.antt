-- The cells that a table gives stay where the slots that it names do.
use Rattle.std.proofs.Common.{◌≡◌, ◌<◌, ◌+◌, ◌*◌, ◌∙◌, ℕ, List, [], ◌∷◌, length, get_or, Some, sym, subst, arith}
use Rattle.std.proofs.lemmas.List.{append_cancel_right, ext_get_or}
use Rattle.hg_disk.specs.declared.disk.Disk as disk
use Rattle.hg_disk.specs.State.{DiskState, IsImage}
use Rattle.hg_disk.specs.Moments.{EachLeaves, GoesOn, HasGone, Leaves, LeavesOnly, history}
use Rattle.hg_disk.proofs.Moments.{weaker}
use Rattle.hg_cells.specs.declared.cell.Cell.{Cell}
use Rattle.hg_cells.specs.declared.cell.Cell.TheVariants.{New}
use Rattle.hg_pages.specs.Slots.{HasBytes, HasSlot, slot_text}
use Rattle.hg_pages.specs.Tables.{slot_in}
use Rattle.hg_pool.specs.Kept.{KeepsGiven, KeepsNamed}
use Rattle.hg_pool.specs.Laws.{RootStays, SealedStays}
use Rattle.hg_pool.specs.Maps.{GivesCells, disk_of, frozen}
use Rattle.hg_pool.specs.Shown.{ShownPool}

-- a page has just one list of these cells
same_cells : (cells_of : ℕ → Cell) (page : ℕ) (xs ys : List Cell) → length xs ≡ 256 → length ys ≡ 256
    → ((i : ℕ) → i < 256 → cells_of (256 * page + i) ≡ get_or xs i New) → ((i : ℕ) → i < 256 → cells_of (256 * page + i) ≡ get_or ys i New) → xs ≡ ys
same_cells cells_of page xs ys is256 also256 is also = ext_get_or New xs ys (is256 ∙ sym also256) (λ i lt. let small : i < 256 = omega (arith, lt, is256) in sym (is i small) ∙ also i small)

-- a page that the table names
pub record Entry (table : List (ℕ × ℕ)) : Type 0 where
  page : ℕ
  slot : ℕ
  names : slot_in table page ≡ Some slot

each_all : {X : Type 0} (P : X → List ℕ → Type 0) (states : List DiskState) → ((x : X) → EachLeaves (P x) states) → EachLeaves (λ image. (x : X) → P x image) states
each_all P [] each = tt
each_all P (s ∷ earlier) each = (λ image is x. (each x).0 image is, each_all P earlier (λ x. (each x).1))

module _ {D : Type 0} (g : disk.Ghosts D) (has_its_bytes : (d : D) → IsImage (g.state d) (g.state d).contents) where
  -- the states that a disk went through are settled by its history
  gone_once : (old new : D) (first second : List DiskState) → HasGone g old new first → HasGone g old new second → first ≡ second
  gone_once old new first second a b = append_cancel_right first second (history g old) (sym a ∙ b)

  -- each image has all of them, where it has each
  leaves_all : {X : Type 0} (P : X → List ℕ → Type 0) (old new : D) → GoesOn g old new → ((x : X) → LeavesOnly g old new (P x)) → LeavesOnly g old new (λ image. (x : X) → P x image)
  leaves_all P old new goes each = record {
    later = goes.0;
    has_gone = goes.1;
    first = λ image is x. (each x).first image is;
    each = each_all P goes.0 (λ x. subst (λ (states : List DiskState). EachLeaves (P x) states) (gone_once old new (each x).later goes.0 (each x).has_gone goes.1) (each x).each);
    kept = goes.2;
  }

  abbrev has : (table : List (ℕ × ℕ)) → (ℕ → Cell) → Entry table → List ℕ → Type 0
  has table cells_of e image = (cells : List Cell) × HasSlot e.slot e.page cells image × ((i : ℕ) → i < 256 → cells_of (256 * e.page + i) ≡ get_or cells i New)

  one : (table : List (ℕ × ℕ)) (cells_of : ℕ → Cell) (old new : ShownPool D) → KeepsNamed g table old new → Leaves (GivesCells table cells_of) (g.state (disk_of old)) → (e : Entry table) → LeavesOnly g (disk_of old) (disk_of new) (has table cells_of e)
  one table cells_of old new keeps gives e =
      let contents = (g.state (disk_of old)).contents in
      let found = (gives contents (has_its_bytes (disk_of old))).named e.page e.slot e.names in
      let cells = found.0 in
      let bytes = slot_text e.page cells in
      let each : Leaves (HasBytes e.slot bytes) (g.state (disk_of old)) = (λ image is.
      let there = (gives image is).named e.page e.slot e.names in
      subst (λ (l : List Cell). HasBytes e.slot (slot_text e.page l) image) (same_cells cells_of e.page there.0 cells there.1.page_is.words found.1.page_is.words there.2 found.2) there.1.bytes) in
      weaker g (disk_of old) (disk_of new) (HasBytes e.slot bytes) (has table cells_of e) (keeps e.slot bytes (e.page, e.names) each)
      (λ image stands. (cells, record { page_is = found.1.page_is; bytes = stands }, found.2))

  pub given_by_named : (table : List (ℕ × ℕ)) (old new : ShownPool D) → GoesOn g (disk_of old) (disk_of new) → KeepsNamed g table old new → KeepsGiven g table old new
  given_by_named table old new goes keeps cells_of gives =
      let unnamed = (gives (g.state (disk_of old)).contents (has_its_bytes (disk_of old))).unnamed in
      weaker g (disk_of old) (disk_of new) (λ image. (e : Entry table) → has table cells_of e image) (GivesCells table cells_of)
      (leaves_all (has table cells_of) (disk_of old) (disk_of new) goes (λ e. one table cells_of old new keeps gives e))
      (λ image all. record { named = λ page slot is. all (record { page = page; slot = slot; names = is }); unnamed = unnamed })

  pub root_stays : RootStays g
  root_stays old new went = given_by_named old.root old new went.goes went.root_kept

  pub sealed_stays : SealedStays g
  sealed_stays old new went sealed = given_by_named old.frozen old new went.goes went.frozen_kept (frozen g old) sealed
