-- Definitions for the contracts of a checkpoint's calls.
use Rattle.std.specs.Prelude.{◌≡◌, ◌⊎◌, ◌++◌, ◌+◌, ℕ, List, [], false, Option, Some, Vec, IsTrue, IsOk, OnOk, IfOk, Result}
use Rattle.hg_disk.specs.declared.disk.Disk as disk
use Rattle.hg_disk.specs.Calls.{CallsAtMost}
use Rattle.hg_disk.specs.Moments.{LeavesOnly}
use Rattle.hg_cells.specs.declared.cell.Cell.{Cell}
use Rattle.hg_pool.specs.Kept.{IsWhole}
use Rattle.hg_pool.specs.Maps.{disk_of, is_broken, live}
use Rattle.hg_pool.specs.Picking.{LacksSlots}
use Rattle.hg_pool.specs.Shown.{ShownPool}
use Rattle.hg_root.specs.Checkpoints.{Checkpoint, HasSlotsOf, root_of}
use Rattle.hg_root.specs.Grammar.{pages_text}
use Rattle.hg_root.specs.Pairs as pairs
use Rattle.hg_root.specs.Parts.{Parts}
use Rattle.hg_root.specs.declared.pair.RootPair.{RootPair}
use Rattle.hg_contents.specs.Maps.{IsKnownTo, IsNewElsewhere, checkpoint_of}
use Rattle.hg_checkpoint.specs.Standing.{EachEither, EachNow, IsDraft, IsHead, IsNext, RootsStand, Stands, root_with}
use Rattle.hg_checkpoint.specs.Tables.{pages_of}
use Rattle.hg_checkpoint.specs.declared.cause.Cause.{Cause}
use Rattle.hg_checkpoint.specs.declared.cause.Cause.TheVariants.{Broken, DeviceFault, FullSlots, OutOfMemory}
use Rattle.hg_checkpoint.specs.declared.checkpointer.Checkpointer.{Checkpointer}
use Rattle.hg_checkpoint.specs.declared.phase.CheckpointFault.{CheckpointFault}
use Rattle.hg_checkpoint.specs.declared.phase.Phase.{Phase}
use Rattle.hg_checkpoint.specs.declared.phase.Phase.TheVariants.{Flushing}
use Rattle.hg_checkpoint.specs.Phases.{IsAllowed}

-- A device failed.
abbrev pub IsOfDevice : Cause → Type 0
IsOfDevice cause = cause ≡ DeviceFault

-- The causes of a refused freeze: memory was refused, or there are fewer free slots than changed pages.
abbrev pub IsOfFreezing : {D : Type 0} → ShownPool D → Cause → Type 0
IsOfFreezing pool cause = (cause ≡ OutOfMemory) ⊎ ((cause ≡ FullSlots) × LacksSlots pool)

-- The causes of a refused seal: the file of slots failed, earlier or now.
abbrev pub IsOfSealing : {D : Type 0} → ShownPool D → Cause → Type 0
IsOfSealing pool cause = (cause ≡ DeviceFault) ⊎ ((cause ≡ Broken) × IsTrue (is_broken pool))

-- The causes of a refused writing of a root: memory was refused, or a device failed.
abbrev pub IsOfWriting : Cause → Type 0
IsOfWriting cause = (cause ≡ OutOfMemory) ⊎ (cause ≡ DeviceFault)

-- The file of slots, the pages in memory and the root's table stay the same.
abbrev pub KeepsFile : {D : Type 0} → (old new : ShownPool D) → Type 0
KeepsFile old new = (new.root ≡ old.root) × (new.file ≡ old.file) × (new.frames ≡ old.frames)

module _ {D : Type 0} {g : disk.Ghosts D} where
  -- Only the phase, the head and the next number may change.
  abbrev pub ChangesHead : (old new : Checkpointer D g) → Type 0
  ChangesHead old new = (new.roots ≡ old.roots) × (new.body ≡ old.body) × (new.number ≡ old.number) × (new.is_broken ≡ old.is_broken)

  abbrev pub KeepsRootsAndHead : (old new : Checkpointer D g) → Type 0
  KeepsRootsAndHead old new = (new.roots ≡ old.roots) × (new.next ≡ old.next) × (new.number ≡ old.number) × (new.head ≡ old.head)

  abbrev pub KeepsBodyAndHead : (old new : Checkpointer D g) → Type 0
  KeepsBodyAndHead old new = (new.body ≡ old.body) × (new.next ≡ old.next) × (new.number ≡ old.number) × (new.head ≡ old.head)

  abbrev pub KeepsHead : (old new : Checkpointer D g) → Type 0
  KeepsHead old new = (new.next ≡ old.next) × (new.number ≡ old.number) × (new.head ≡ old.head)

  -- If the roots stand as a pair, they stand for the checkpointer in its phase.
  abbrev pub StandsBy : RootPair D → Checkpointer D g → Type 0
  StandsBy roots c = (root former : Option Parts) → pairs.Stands g roots root former → RootsStand g c.phase c.roots root former c.body.value.items

  -- The call is allowed in this phase alone, and is then refused for these causes alone.
  abbrev pub IsAllowedIn : {T : Type 0} → Phase → (Cause → Type 0) → Checkpointer D g → Result T CheckpointFault → Type 0
  IsAllowedIn phase Causes c result = IsAllowed c.is_broken c.phase (c.phase ≡ phase) Causes result

  -- The pages are written, and none waits.
  abbrev pub IsFlushed : Checkpointer D g → ShownPool D → Type 0
  IsFlushed c pool = (c.phase ≡ Flushing) × (pool.waiting ≡ [])

  -- The call is allowed once all pages are written, and is then refused for these causes alone.
  abbrev pub IsAllowedToSeal : {T : Type 0} → (Cause → Type 0) → Checkpointer D g → ShownPool D → Result T CheckpointFault → Type 0
  IsAllowedToSeal Causes c pool result = IsAllowed c.is_broken c.phase (IsFlushed c pool) Causes result

  -- Nothing has changed, or both are broken.
  abbrev pub StaysOrBreaks : Checkpointer D g → ShownPool D → (new : Checkpointer D g) → (new_pool : ShownPool D) → Type 0
  StaysOrBreaks c pool new new_pool = ((new ≡ c) × (new_pool ≡ pool)) ⊎ (IsTrue new.is_broken × IsTrue (is_broken new_pool))

  -- n calls of the root files failed.
  abbrev pub CountsRoots : (old new : Checkpointer D g) → ℕ → Type 0
  CountsRoots old new n = pairs.failures g new.roots ≡ n + pairs.failures g old.roots

  -- Each of the root files was called at most so often.
  abbrev pub RootCallsAtMost : ℕ → (old new : Checkpointer D g) → Type 0
  RootCallsAtMost most old new =
      CallsAtMost g most (pairs.first_of old.roots) (pairs.first_of new.roots) × CallsAtMost g most (pairs.second_of old.roots) (pairs.second_of new.roots)

  -- The newest checkpoint still stands.
  abbrev pub StaysStanding : Checkpointer D g → ShownPool D → (new : Checkpointer D g) → (new_pool : ShownPool D) → Type 0
  StaysStanding c pool new new_pool =
      (now : Option Checkpoint) (former : Option Parts) → Stands g c pool now former → Stands g new new_pool now former

  -- If the pool is whole, the next checkpoint is a draft: the given head, and the live map from before.
  abbrev pub IsDrafted : {T E : Type 0} → Checkpointer D g → (pool new_pool : ShownPool D) → List ℕ → ℕ → Result T E → Type 0
  IsDrafted c pool new_pool head number result =
      (now : Option Checkpoint) (parts : Parts) → IsWhole g pool → IsHead now parts head number → IsKnownTo parts (live g pool)
      → OnOk result (IsDraft g c new_pool now parts (live g pool))

  -- The body is the head with the frozen table.
  abbrev pub SpellsBody : {Z E : Type 0} → Checkpointer D g → ShownPool D → Result (Vec ℕ Z) E → Type 0
  SpellsBody c pool result =
      (head : List ℕ) → c.head ≡ Some head → IfOk result (λ body. body.items ≡ head ++ pages_text (pages_of pool.frozen))

  -- The call succeeds if all pages are written, nothing was broken, and no device call fails.
  abbrev pub SealsSurely : {T E : Type 0} → Checkpointer D g → (pool new_pool : ShownPool D) → Result T E → Type 0
  SealsSurely c pool new_pool result =
      c.phase ≡ Flushing → pool.waiting ≡ [] → c.is_broken ≡ false → is_broken pool ≡ false
      → g.failures (disk_of new_pool) ≡ g.failures (disk_of pool) → IsOk result

  -- At each moment each image of the slots has the pages of the newest checkpoint.
  abbrev pub LeavesSlots : Checkpointer D g → (pool new_pool : ShownPool D) → Type 0
  LeavesSlots c pool new_pool =
      (now : Option Checkpoint) (former : Option Parts) → Stands g c pool now former
      → LeavesOnly g (disk_of pool) (disk_of new_pool) (HasSlotsOf now former)

  -- The draft is the next checkpoint.
  abbrev pub DraftIsNext : {T E : Type 0} → Checkpointer D g → ShownPool D → Checkpointer D g → ShownPool D → Result T E → Type 0
  DraftIsNext c pool new new_pool result =
      (now : Option Checkpoint) (former : Option Parts) (parts : Parts) (cells : ℕ → Cell) → Stands g c pool now former
      → IsDraft g c pool now parts cells → OnOk result (IsNext g new new_pool now (checkpoint_of (root_with parts new_pool.frozen) cells))

  -- The words of the draft are new where its table names no page.
  abbrev pub DraftIsNewElsewhere : {T E : Type 0} → Checkpointer D g → (pool new_pool : ShownPool D) → Result T E → Type 0
  DraftIsNewElsewhere c pool new_pool result =
      (now : Option Checkpoint) (parts : Parts) (cells : ℕ → Cell) → IsDraft g c pool now parts cells
      → OnOk result (IsNewElsewhere (root_with parts new_pool.frozen) cells)

  -- The root files still stand.
  abbrev pub RootsStayOnOk : {T E : Type 0} → (old new : Checkpointer D g) → Result T E → Type 0
  RootsStayOnOk old new result =
      (root former : Option Parts) → RootsStand g old.phase old.roots root former old.body.value.items
      → OnOk result (RootsStand g new.phase new.roots root former new.body.value.items)

  -- At each moment each image of the root files has the newest root.
  abbrev pub LeavesRoots : (old new : Checkpointer D g) → Type 0
  LeavesRoots old new =
      (now : Option Checkpoint) (former : Option Parts) → RootsStand g old.phase old.roots (root_of now) former old.body.value.items
      → EachNow g old.roots new.roots now former

  -- The next checkpoint stays the next one, over any pool.
  abbrev pub StaysNext : (old new : Checkpointer D g) → Type 0
  StaysNext old new = (pool : ShownPool D) (now : Option Checkpoint) (next : Checkpoint) → IsNext g old pool now next → IsNext g new pool now next

  -- The next checkpoint stays the next one, over this pool.
  abbrev pub StaysNextOver : ShownPool D → (old new : Checkpointer D g) → Type 0
  StaysNextOver pool old new = (now : Option Checkpoint) (next : Checkpoint) → IsNext g old pool now next → IsNext g new pool now next

  -- The answer is the number of the next checkpoint.
  abbrev pub AnswersNumber : {E : Type 0} → Checkpointer D g → ShownPool D → Result ℕ E → Type 0
  AnswersNumber c pool result =
      (now : Option Checkpoint) (next : Checkpoint) → IsNext g c pool now next → IfOk result (λ n. n ≡ next.root.number)

  -- The next checkpoint becomes the newest one.
  abbrev pub OpensNext : {T E : Type 0} → Checkpointer D g → ShownPool D → Checkpointer D g → ShownPool D → Result T E → Type 0
  OpensNext c pool new new_pool result =
      (now : Option Checkpoint) (former : Option Parts) (next : Checkpoint) → Stands g c pool now former → IsNext g c pool now next
      → OnOk result (Stands g new new_pool (Some next) (root_of now))

  -- At each moment each image of the root files has the newest root or the next one.
  abbrev pub LeavesEither : Checkpointer D g → ShownPool D → Checkpointer D g → Type 0
  LeavesEither c pool new =
      (now : Option Checkpoint) (former : Option Parts) (next : Checkpoint) → Stands g c pool now former → IsNext g c pool now next
      → EachEither g c.roots new.roots now former next
