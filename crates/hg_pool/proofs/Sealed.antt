-- What is sealed.
use Rattle.std.proofs.Common.{◌≡◌, ◌<◌, ◌+◌, ◌*◌, ◌/◌, ◌%◌, ◌∙◌, ℕ, Bool, true, false, List, [], Option, Result, Ok, Err, IsTrue, refl, sym, ap, subst, arith}
use Rattle.hg_disk.specs.declared.disk.Disk as disk
use Rattle.hg_disk.specs.State.{IsImage}
use Rattle.hg_disk.specs.Moments.{Leaves, LeavesOnly}
use Rattle.hg_pages.specs.Files as files
use Rattle.hg_pages.specs.Slots.{HasBytes}
use Rattle.hg_pages.specs.Tables.{slot_in}
use Rattle.hg_pages.specs.declared.slot_file.SlotFile.{SlotFile}
use Rattle.hg_pages.proofs.Decoding.{stored}
use Rattle.hg_pool.specs.Kept.{BreaksByFailure, IsWhole, Stays}
use Rattle.hg_pool.specs.Maps.{GivesCells, IsSealed, bytes_of, copy_in, disk_of, frozen, frozen_at, frozen_by, in_slot, is_broken, live_at}
use Rattle.hg_pool.specs.Shown.{ShownPool}
use Rattle.hg_pool.proofs.Changing.{quiet_file}
use Rattle.hg_pool.proofs.Stepping.{stays_all}

place : (page i : ℕ) → i < 256 → (256 * page + i) / 256 ≡ page
place page i lt = omega arith

word : (page i : ℕ) → i < 256 → (256 * page + i) % 256 ≡ i
word page i lt = omega arith

none_waits : {D : Type 0} (p : ShownPool D) (file : List ℕ) (page i : ℕ) → p.waiting ≡ [] → frozen_at file p page i ≡ in_slot file (slot_in p.frozen page) i
none_waits p file page i none = ap (λ (waiting : List (ℕ × ℕ)). frozen_by (slot_in waiting page) (copy_in p.copies page) (in_slot file (slot_in p.frozen page) i) (live_at file p page i) i) none

-- a call that a broken value refuses, and that was answered Ok, found it in use
pub usable : {T E : Type 0} {result : Result T E} {value : T} {error : E} (broken : Bool) → result ≡ Ok value → (IsTrue broken → result ≡ Err error) → broken ≡ false
usable true is refuses = absurd (cc (sym is ∙ refuses refl))
usable false is refuses = refl

module _ {D : Type 0} (g : disk.Ghosts D) where
  -- where no page waits, the slots have the frozen map
  pages_give : (p : ShownPool D) → IsWhole g p → p.waiting ≡ [] → GivesCells p.frozen (frozen g p) (bytes_of g p)
  pages_give p h none = record {
    named = λ page slot is.
        let found = (h.pages page).frozen_page slot is in (
          found.0,
          found.1,
          λ i lt.
              (λ k. frozen_at (bytes_of g p) p (place page i lt k) (word page i lt k)) ∙ none_waits p (bytes_of g p) page i none
              ∙ ap (λ (s : Option ℕ). in_slot (bytes_of g p) s i) is ∙ stored slot page i found.0 (bytes_of g p) lt found.1,
        );
    unnamed = λ page i lt is.
        (λ k. frozen_at (bytes_of g p) p (place page i lt k) (word page i lt k)) ∙ none_waits p (bytes_of g p) page i none
        ∙ ap (λ (s : Option ℕ). in_slot (bytes_of g p) s i) is;
  }

  -- and after a sync each image has it
  pub seal_sealed : (old : ShownPool D) (file : SlotFile D) (sealed : Bool) → IsWhole g old → old.waiting ≡ [] → files.known g file ≡ bytes_of g old → Leaves (λ image. image ≡ bytes_of g old) (g.state (files.disk_of file))
      → IsSealed g (record old { file = file; is_sealed = sealed })
  seal_sealed old file sealed h none same durable image is =
      let given = pages_give old h none in
      let now : GivesCells old.frozen (frozen g old) image = subst (λ (l : List ℕ). GivesCells old.frozen (frozen g old) l) (sym (durable image is)) given in
      subst (λ (l : List ℕ). GivesCells old.frozen (λ w. frozen_at l old (w / 256) (w % 256)) image) (sym same) now

  pub stays_sealed : (old : ShownPool D) (file : SlotFile D) (sealed : Bool) → LeavesOnly g (disk_of old) (files.disk_of file) (IsImage (g.state (disk_of old))) → (files.is_broken file ≡ false → is_broken old ≡ false) → BreaksByFailure g old (record old { file = file }) → files.known g file ≡ bytes_of g old
      → (IsTrue old.is_sealed → IsTrue sealed) → Stays g old (record old { file = file; is_sealed = sealed })
  stays_sealed old file sealed only works breaks known mark =
      let new : ShownPool D = record old { file = file; is_sealed = sealed } in
      stays_all g old new (quiet_file g old new only works breaks refl (λ q s is. is) mark (λ sealed. refl) (refl, refl) (λ none. none))
      (λ s bytes named has. subst (λ (l : List ℕ). HasBytes s bytes l) (sym known) has)
      (λ q. record { frames = refl; live = refl; frozen = refl; waiting = refl; copies = refl })
