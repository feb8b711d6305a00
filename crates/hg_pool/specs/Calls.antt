-- Definitions for the contracts of a pool's calls.
use Rattle.std.specs.Prelude.{◌≡◌, ◌≢◌, ◌⊎◌, ◌↔◌, ◌+◌, ◌-◌, ◌/◌, ◌%◌, ◌<◌, ◌≤◌, ◌==◌, ◌&&◌, ◌++◌, ℕ, nat_eq, nat_le, nat_lt, List, [], ◌∷◌, length, take, get_or, Bool, true, false, Option, Some, None, Result, Ok, is_some, IsTrue, OnOk, OnErr, IfOk, IfErr, IfSome, IsErrOf, MatchOption, if◌then◌else◌}
use Rattle.std.specs.Set.{remove_key}
use Rattle.hg_model.specs.declared.verdict.Refusal.{Refusal}
use Rattle.hg_model.specs.declared.verdict.Refusal.TheVariants.{Damaged}
use Rattle.hg_cells.specs.Cells.{IsWithin}
use Rattle.hg_cells.specs.Pages.{filled}
use Rattle.hg_cells.specs.declared.cell.Cell.{Cell}
use Rattle.hg_cells.specs.declared.cell.Cell.TheVariants.{New}
use Rattle.hg_cells.specs.Words.{failed_after}
use Rattle.hg_disk.specs.Calls.{CallsAtMost}
use Rattle.hg_disk.specs.declared.disk.Disk as disk
use Rattle.hg_disk.specs.Moments.{Leaves, LeavesOnly}
use Rattle.hg_pages.specs.Encoded.{Encoded}
use Rattle.hg_pages.specs.Fault.{failures_after_write}
use Rattle.hg_pages.specs.Slots.{HasBytes, HasSlot, IsKnown, IsSlot, slot_text}
use Rattle.hg_pages.specs.Tables as tables
use Rattle.hg_pages.specs.Tables.{IsNamed, slot_in}
use Rattle.hg_pages.specs.declared.fault.WriteFault.{WriteFault}
use Rattle.hg_pages.specs.declared.fault.WriteFault.TheVariants.{Broken}
use Rattle.hg_pages.specs.declared.slot_file.SlotFile.{SlotFile}
use Rattle.hg_cache.specs.declared.frame.Frame.{Frame}
use Rattle.hg_pool.specs.declared.job.Job.{Job}
use Rattle.hg_pool.specs.declared.job.Put.{Put}
use Rattle.hg_pool.specs.declared.job.Put.TheVariants as put
use Rattle.hg_pool.specs.Answers.{IsFrozen, IsTaken, IsTrueCause, least_of, order_of, order_with}
use Rattle.hg_pool.specs.Kept.{AreWithin, IsFaithful, IsWhole, SameMap, Stays}
use Rattle.hg_pool.specs.Maps.{IsSealed, bytes_of, copy_in, disk_of, frame_in, frozen, frozen_at, in_slot, is_broken, live}
use Rattle.hg_pool.specs.Picking.{HasDirty, IsLeastFree, TakesLeastFree}
use Rattle.hg_pool.specs.Shown.{ShownPool}

-- The new table has no slot for this page; each other page keeps its own.
abbrev pub IsWithout : (page : ℕ) → (old new : List (ℕ × ℕ)) → Type 0
IsWithout page old new = (q : ℕ) → slot_in new q ≡ (if page == q then None else slot_in old q)

-- The new table has this slot for this page; each other page keeps its own.
abbrev pub IsWith : (page slot : ℕ) → (old new : List (ℕ × ℕ)) → Type 0
IsWith page slot old new = (q : ℕ) → slot_in new q ≡ (if page == q then Some slot else slot_in old q)

-- The pages with a slot are those that were changed.
abbrev pub NamesDirty : List (ℕ × Frame) → List (ℕ × ℕ) → Type 0
NamesDirty frames table = (q : ℕ) → (is_some (slot_in table q) ≡ true) ↔ HasDirty frames q

-- The page in memory was not changed.
abbrev pub IsClean : List (ℕ × Frame) → (page : ℕ) → Type 0
IsClean frames page = (f : Frame) → frame_in frames page ≡ Some f → f.is_dirty ≡ false

-- Each page in the first frames is in the second ones too.
abbrev pub ArePagesOf : (some all : List (ℕ × Frame)) → Type 0
ArePagesOf some all = (q : ℕ) → is_some (frame_in some q) ≡ true → is_some (frame_in all q) ≡ true

-- Each page that had a copy has one still.
abbrev pub KeepsCopies : (old new : List (ℕ × List Cell)) → Type 0
KeepsCopies old new = (q : ℕ) → is_some (copy_in old q) ≡ true → is_some (copy_in new q) ≡ true

-- If the cells in memory named only segments below n and sets below m, they do so still, for n and m not below these
-- counts.
abbrev pub StayWithin : (segments sets : ℕ) → (old new : List (ℕ × Frame)) → Type 0
StayWithin segments sets old new = (n m : ℕ) → segments ≤ n → sets ≤ m → AreWithin old n m → AreWithin new n m

-- The frame of the page had 256 cells. It has the cell from `from` up to `to`, and is dirty; each other page keeps its
-- frame.
abbrev pub FillsPage : (page from to : ℕ) → Cell → (old new : List (ℕ × Frame)) → Type 0
FillsPage page from to cell old new =
    (f : Frame) → frame_in old page ≡ Some f
    → (length f.cells ≡ 256) × ((q : ℕ) → frame_in new q ≡ (if page == q then Some (record { cells = filled f.cells from to cell; is_dirty = true }) else frame_in old q))

-- The page is in no frame any more, and each other page as it was.
abbrev pub LeavesFrame : (page : ℕ) → (old new : List (ℕ × Frame)) → Type 0
LeavesFrame page old new = (q : ℕ) → frame_in new q ≡ (if page == q then None else frame_in old q)

-- Each page in memory is so still, but this one where it was given up as a whole.
abbrev pub KeepsPagesBut : (page from to : ℕ) → (old new : List (ℕ × Frame)) → Type 0
KeepsPagesBut page from to old new = (q : ℕ) → (q ≡ page → (0 < from) ⊎ (to < 256)) → is_some (frame_in old q) ≡ true → is_some (frame_in new q) ≡ true

-- The copies have these cells for this page; each other page keeps its own.
abbrev pub HasCopied : (page : ℕ) → List Cell → (old new : List (ℕ × List Cell)) → Type 0
HasCopied page cells old new = (q : ℕ) → copy_in new q ≡ (if page == q then Some cells else copy_in old q)

-- If the page was changed, the table has its place; else the table is as it was.
abbrev pub Notes : (page place : ℕ) → Bool → (old new : List (ℕ × ℕ)) → Type 0
Notes page place is_dirty old new =
    (q : ℕ) → slot_in new q ≡ (if is_dirty then (if page == q then Some place else slot_in old q) else slot_in old q)

-- `left` is the table without these pages.
abbrev pub AreLeft : (pages table left : List (ℕ × ℕ)) → Type 0
AreLeft pages table left = (q : ℕ) → slot_in left q ≡ (if is_some (slot_in pages q) then None else slot_in table q)

-- Each entry is one of the first table or of the second.
abbrev pub AreOfEither : (first second table : List (ℕ × ℕ)) → Type 0
AreOfEither first second table = (q s : ℕ) → slot_in table q ≡ Some s → (slot_in first q ≡ Some s) ⊎ (slot_in second q ≡ Some s)

-- The table has room for these pages, and for their slots.
abbrev pub HasRoomFor : (waiting table : tables.ShownTable) → Type 0
HasRoomFor waiting table = (length table.entries + length waiting.entries ≤ table.capacity) × (waiting.slots ≤ table.slots)

-- The table has room for these pages, and for one more.
abbrev pub HasRoomForOne : List (ℕ × ℕ) → tables.ShownTable → Type 0
HasRoomForOne waiting table = length table.entries + length waiting < table.capacity

-- No other page of the table has the slot.
abbrev pub IsSlotOf : (page slot : ℕ) → Option tables.ShownTable → Type 0
IsSlotOf page slot frozen = (t : tables.ShownTable) → frozen ≡ Some t → (other : ℕ) → slot_in t.entries other ≡ Some slot → other ≡ page

-- A search may begin at `from`: each slot below it lies below the found one, and if it is the page's former slot, a table
-- names it.
abbrev pub MayBegin : (root frozen : List (ℕ × ℕ)) → (found : ℕ) → (former : Option ℕ) → (from : ℕ) → Type 0
MayBegin root frozen found former from =
    (slot : ℕ) → slot < from → (slot < found) × (former ≡ Some slot → IsNamed root slot ⊎ IsNamed frozen slot)

-- If a page in memory is encoded, the bytes are its slot with these cells.
abbrev pub EncodesFrame : {E : Type 0} → List (ℕ × Frame) → (page : ℕ) → Result Encoded E → Type 0
EncodesFrame frames page result = (f : Frame) → frame_in frames page ≡ Some f → IfOk result (λ encoded. IsSlot page f.cells encoded.bytes)

-- After an `Ok`, a page without a copy is clean.
abbrev pub IsCleanIfUncopied : {T E : Type 0} → List (ℕ × List Cell) → List (ℕ × Frame) → (page : ℕ) → Result T E → Type 0
IsCleanIfUncopied copies frames page result = copy_in copies page ≡ None → OnOk result (IsClean frames page)

-- a clean frame of these cells
abbrev pub clean_frame : List Cell → Frame
clean_frame cells = record { cells = cells; is_dirty = false }

-- A page that was written waits no more, and one page less waits.
abbrev pub LosesWritten : {E : Type 0} → (page : ℕ) → (old new : List (ℕ × ℕ)) → Result Put E → Type 0
LosesWritten page old new result = IfOk result (λ p. p ≡ put.Written → IsWithout page old new × (length new + 1 ≡ length old))

module _ {D : Type 0} where
  -- The words of the page may change: it does not wait, or its frozen cells are copied.
  abbrev pub MayChange : ShownPool D → (page : ℕ) → Type 0
  MayChange p page = (slot_in p.waiting page ≡ None) ⊎ (is_some (copy_in p.copies page) ≡ true)

  -- The job is the first of the waiting pages, with its frozen cells; there is none if no page waits.
  abbrev pub IsNextJob : ShownPool D → Option Job → Type 0
  IsNextJob p found =
      MatchOption found (p.waiting ≡ []) (λ job. (Some job.page ≡ least_of p.waiting) × (is_some (slot_in p.waiting job.page) ≡ true) × IsFrozen p job.page job.cells)

  -- The page waits, and the bytes are those of its cells at the freeze.
  abbrev pub HasWaited : ShownPool D → Encoded → Type 0
  HasWaited p page =
      (cells : List Cell) × (is_some (slot_in p.waiting page.page) ≡ true) × IsFrozen p page.page cells × IsSlot page.page cells page.bytes

  -- The page waits for this slot, and the bytes are those of its cells at the freeze.
  abbrev pub WaitsFor : ShownPool D → Encoded → (slot : ℕ) → Type 0
  WaitsFor p page slot =
      (slot_in p.waiting page.page ≡ Some slot) × (cells : List Cell) × IsFrozen p page.page cells × IsSlot page.page cells page.bytes

  -- The page does not wait, or the bytes are not those of its cells at the freeze.
  abbrev pub IsStale : ShownPool D → Encoded → Type 0
  IsStale p page =
      (slot : ℕ) (cells : List Cell) → slot_in p.waiting page.page ≡ Some slot → IsFrozen p page.page cells
      → page.bytes ≡ slot_text page.page cells → ⊥

  -- If the page that left was clean, nothing but the frames has changed: it was not written.
  abbrev pub LeavesUnwritten : (old new : ShownPool D) → Option ℕ → Type 0
  LeavesUnwritten old new freed = IfSome freed (λ page. IsClean old.frames page → new ≡ record old { frames = new.frames })

  -- Some page in memory was changed.
  abbrev pub HasChanged : ShownPool D → Type 0
  HasChanged p = (page : ℕ) × HasDirty p.frames page

  -- The page used least recently has left the memory; none if no page was in memory.
  abbrev pub HasFreed : (old new : ShownPool D) → Option ℕ → Type 0
  HasFreed old new freed = MatchOption freed (old.frames ≡ []) (λ n. order_of old ≡ order_of new ++ n ∷ [])

  -- the pages in memory, once there is room for one more
  abbrev pub order_with_room : ShownPool D → List ℕ
  order_with_room p = take (p.most_frames - 1) (order_of p)

  -- the pages in memory after this one was used
  abbrev pub order_used : ShownPool D → (page : ℕ) → List ℕ
  order_used p page = page ∷ remove_key (nat_eq page) (order_of p)

  -- If the page is in memory, it is the one used last from then on.
  abbrev pub UsesPage : (old new : ShownPool D) → (page : ℕ) → Type 0
  UsesPage old new page = is_some (frame_in old.frames page) ≡ true → order_of new ≡ order_with old page

  -- A write or a sync failed before.
  abbrev pub IsBroken : ShownPool D → Type 0
  IsBroken p = IsTrue (is_broken p)

  -- Without a copy, the bytes are those of the page in memory.
  abbrev pub IsOfFrame : ShownPool D → Encoded → Type 0
  IsOfFrame p page =
      copy_in p.copies page.page ≡ None → (f : Frame) → frame_in p.frames page.page ≡ Some f → IsSlot page.page f.cells page.bytes

  -- Each slot from this one on is taken.
  abbrev pub AreTakenFrom : ShownPool D → (from : ℕ) → Type 0
  AreTakenFrom p from = (slot : ℕ) → from ≤ slot → slot < p.slots → IsTaken p slot

  -- The slot is free, and no slot from `from` up to it is.
  abbrev pub IsFirstFree : ShownPool D → (from free : ℕ) → Type 0
  IsFirstFree p from free =
      (from ≤ free) × (free < p.slots) × (¬ IsTaken p free) × ((slot : ℕ) → from ≤ slot → slot < free → IsTaken p slot)

  -- Each slot that is picked is free.
  abbrev pub AreFree : ShownPool D → List (ℕ × ℕ) → Type 0
  AreFree p picks = (q slot : ℕ) → slot_in picks q ≡ Some slot → (¬ IsTaken p slot) × (slot < p.slots)

  -- The slot is the least that is free.
  abbrev pub IsLeastSlot : ShownPool D → ℕ → Type 0
  IsLeastSlot p slot = (slot < p.slots) × IsLeastFree p slot

  -- the pool of a table over a file: nothing waits, and no page is in memory
  abbrev pub first_pool : SlotFile D → List (ℕ × ℕ) → (frames slots : ℕ) → ShownPool D
  first_pool file table frames slots =
      record {
        file = file;
        root = table;
        frozen = table;
        live = table;
        waiting = [];
        copies = [];
        frames = [];
        most_frames = frames;
        slots = slots;
        is_sealed = false;
      }

  -- Each page in memory keeps its frame. Nothing but the order of use has changed.
  abbrev pub OnlyReorders : (old new : ShownPool D) → Type 0
  OnlyReorders old new = (new ≡ record old { frames = new.frames }) × ((q : ℕ) → frame_in new.frames q ≡ frame_in old.frames q)

  -- A page in memory is loaded again without a refusal, and takes its frame.
  abbrev pub LoadsAgain : (old new : ShownPool D) → (page : ℕ) → Result (Unit {0}) Refusal → Type 0
  LoadsAgain old new page result = is_some (frame_in old.frames page) ≡ true → (result ≡ Ok tt) × OnlyReorders old new

  -- both pages are in memory
  abbrev pub AreInMemory : ShownPool D → (first last : ℕ) → Type 0
  AreInMemory p first last = (is_some (frame_in p.frames first) ≡ true) × (is_some (frame_in p.frames last) ≡ true)

  -- The page that was used last is in memory.
  abbrev pub KeepsFirst : (old new : ShownPool D) → Type 0
  KeepsFirst old new = (other : ℕ) (rest : List ℕ) → order_of old ≡ other ∷ rest → is_some (frame_in new.frames other) ≡ true

module _ {D : Type 0} (g : disk.Ghosts D) where
  -- The count of failed calls is that from before, and one more after the answer DeviceFault.
  abbrev pub CountsFailures : {T : Type 0} → (old new : ShownPool D) → Result T Refusal → Type 0
  CountsFailures old new result = g.failures (disk_of new) ≡ failed_after result (g.failures (disk_of old))

  -- After a write or a sync the count of failed calls is that from before, and one more after the answer DeviceFault.
  abbrev pub CountsWrites : {T : Type 0} → (old new : ShownPool D) → Result T WriteFault → Type 0
  CountsWrites old new result = g.failures (disk_of new) ≡ failures_after_write result (g.failures (disk_of old))

  -- Pages leave their frames or come into them, and changed ones are written first, by n device calls at most. No word
  -- changes.
  pub record MovesPages {T : Type 0} (n : ℕ) (old new : ShownPool D) (result : Result T Refusal) : Type 0 where
    pub takes : TakesLeastFree old new
    pub stays : Stays g old new
    pub refusal : IfErr result (IsTrueCause new)
    pub device : CountsFailures old new result
    pub calls : CallsAtMost g n (disk_of old) (disk_of new)

  -- The file is written or synced, by one device call at most. No word changes, and a pool whose write or sync failed is
  -- broken from then on.
  pub record WritesPages {T : Type 0} (old new : ShownPool D) (result : Result T WriteFault) : Type 0 where
    pub stays : Stays g old new
    pub broken : IsErrOf result Broken → IsBroken old
    pub breaks : OnErr result (IsBroken new)
    pub device : CountsWrites old new result
    pub calls : CallsAtMost g 1 (disk_of old) (disk_of new)

  -- If the pool was whole, the frozen map is the former live one.
  abbrev pub FreezesLive : (old new : ShownPool D) → Type 0
  FreezesLive old new = IsWhole g old → SameMap (live g old) (frozen g new)

  abbrev pub FreezesOnOk : {T E : Type 0} → (old new : ShownPool D) → Result T E → Type 0
  FreezesOnOk old new result = IsWhole g old → OnOk result (SameMap (live g old) (frozen g new))

  -- If the pool was whole and no page waited, it is sealed after an Ok.
  abbrev pub SealsWhole : {T E : Type 0} → (old new : ShownPool D) → Result T E → Type 0
  SealsWhole old new result = IsWhole g old → old.waiting ≡ [] → OnOk result (IsSealed g new)

  -- These are the cells of the page's slot, or new ones if it has no slot.
  abbrev pub AreStored : ShownPool D → (page : ℕ) → List Cell → Type 0
  AreStored p page cells = (i : ℕ) → i < 256 → get_or cells i New ≡ in_slot (bytes_of g p) (slot_in p.live page) i

  abbrev pub AreStoredIfWhole : ShownPool D → (page : ℕ) → List Cell → Type 0
  AreStoredIfWhole p page cells = IsWhole g p → (i : ℕ) → i < 256 → get_or cells i New ≡ in_slot (bytes_of g p) (slot_in p.live page) i

  -- If the pool is whole, the cells that are read are those of the slot.
  abbrev pub ReadsStored : {T E : Type 0} → ShownPool D → (page : ℕ) → List Cell → Result T E → Type 0
  ReadsStored p page cells result = IsWhole g p → OnOk result (AreStored p page cells)

  -- The bytes are those of the page's frozen cells.
  abbrev pub IsOfFrozen : ShownPool D → Encoded → Type 0
  IsOfFrozen p page =
      (cells : List Cell) × IsSlot page.page cells page.bytes
      × ((i : ℕ) → i < 256 → get_or cells i New ≡ frozen_at (bytes_of g p) p page.page i)

  -- The slot has the page as it is in memory, if it is.
  abbrev pub SlotHasFrame : ShownPool D → (page slot : ℕ) → Type 0
  SlotHasFrame p page slot = (f : Frame) → frame_in p.frames page ≡ Some f → HasSlot slot page f.cells (bytes_of g p)

  -- The slot has the page with its frozen cells.
  abbrev pub SlotHasFrozen : ShownPool D → (page slot : ℕ) → Type 0
  SlotHasFrozen p page slot =
      (cells : List Cell) × HasSlot slot page cells (bytes_of g p)
      × ((i : ℕ) → i < 256 → get_or cells i New ≡ frozen_at (bytes_of g p) p page i)

  -- The file reads as it did.
  abbrev pub SameBytes : (old new : ShownPool D) → Type 0
  SameBytes old new = bytes_of g new ≡ bytes_of g old

  -- The words of a page from one place up to another have the cell, and other words what they had.
  abbrev pub FillsWords : (page from to : ℕ) → Cell → (old new : ShownPool D) → Type 0
  FillsWords page from to cell old new =
      (w : ℕ) → live g new w ≡ (if (w / 256 == page) && (nat_le from (w % 256) && nat_lt (w % 256) to) then cell else live g old w)

  -- A map that has the words still has them, where the cell that came names only known segments and sets.
  abbrev pub StaysFaithfulWith : Cell → (old new : ShownPool D) → Type 0
  StaysFaithfulWith cell old new = (n m : ℕ) → IsWithin n m cell → IsFaithful g old n m → IsFaithful g new n m

  -- Reading a page of a whole pool, whose stored cells are known, answers no Damaged.
  abbrev pub ReadsUndamaged : {T : Type 0} → ShownPool D → (page segments : ℕ) → List (List ℕ) → Result T Refusal → Type 0
  ReadsUndamaged p page segments sets result =
      IsWhole g p → ((i : ℕ) → i < 256 → IsKnown segments sets (in_slot (bytes_of g p) (slot_in p.live page) i))
      → IfErr result (λ r. r ≢ Damaged)

  -- Loading a page of a whole pool, whose cells of the live map are known, answers no Damaged.
  abbrev pub LoadsUndamaged : {T : Type 0} → ShownPool D → (page segments : ℕ) → List (List ℕ) → Result T Refusal → Type 0
  LoadsUndamaged p page segments sets result =
      IsWhole g p → ((w : ℕ) → w / 256 ≡ page → IsKnown segments sets (live g p w)) → IfErr result (λ r. r ≢ Damaged)

  -- Other slots have what they had.
  abbrev pub KeepsSlotsBut : (slot : ℕ) → (old new : ShownPool D) → Type 0
  KeepsSlotsBut slot old new =
      (other : ℕ) (bytes : List ℕ) → other ≢ slot → HasBytes other bytes (bytes_of g old) → HasBytes other bytes (bytes_of g new)

  -- What each image has in another slot, it has at each moment.
  abbrev pub LeavesSlotsBut : (slot : ℕ) → (old new : ShownPool D) → Type 0
  LeavesSlotsBut slot old new =
      (other : ℕ) (bytes : List ℕ) → other ≢ slot → Leaves (HasBytes other bytes) (g.state (disk_of old))
      → LeavesOnly g (disk_of old) (disk_of new) (HasBytes other bytes)

  -- Images that were so long are no shorter at any moment.
  abbrev pub StaysLong : (old new : ShownPool D) → Type 0
  StaysLong old new =
      (n : ℕ) → Leaves (λ image. n ≤ length image) (g.state (disk_of old))
      → LeavesOnly g (disk_of old) (disk_of new) (λ image. n ≤ length image)
