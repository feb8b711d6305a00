-- What holds between the calls of a checkpoint.
use Rattle.std.specs.Prelude.{◌≡◌, ◌⊎◌, ◌++◌, ℕ, List, Option, Some, IsTrue}
use Rattle.hg_disk.specs.declared.disk.Disk as disk
use Rattle.hg_disk.specs.Moments.{GoesOn, Leaves, MayLeave}
use Rattle.hg_cells.specs.declared.cell.Cell.{Cell}
use Rattle.hg_gate.specs.Gated.{framed}
use Rattle.hg_pool.specs.Kept.{IsWhole, SameMap, Went}
use Rattle.hg_pool.specs.Maps.{disk_of, frozen}
use Rattle.hg_pool.specs.Shown.{ShownPool}
use Rattle.hg_root.specs.Checkpoints.{Checkpoint, HasSlotsOf, root_of}
use Rattle.hg_root.specs.Grammar.{head_text, pages_text}
use Rattle.hg_root.specs.Lawful.{IsLawfulHead, IsWritten}
use Rattle.hg_root.specs.Newest.{IsBelow, IsNewest}
use Rattle.hg_root.specs.Pairs as pairs
use Rattle.hg_root.specs.Pairs.{IsPrepared, first_of, second_of}
use Rattle.hg_root.specs.Parts.{Parts}
use Rattle.hg_root.specs.declared.pair.RootPair.{RootPair}
use Rattle.hg_contents.specs.Maps.{IsKnownTo}
use Rattle.hg_checkpoint.specs.Tables.{Names, NamesOf, pages_of}
use Rattle.hg_checkpoint.specs.declared.phase.Phase.{Phase}
use Rattle.hg_checkpoint.specs.declared.phase.Phase.TheVariants.{Flushing, Idle, Prepared, Sealed, Written}
use Rattle.hg_checkpoint.specs.declared.checkpointer.Checkpointer.{Checkpointer}

-- the root with these parts and the pages of a table
abbrev pub root_with : Parts → List (ℕ × ℕ) → Parts
root_with parts table = record parts { pages = pages_of table }

-- These bytes are the head of a root with this number, which is greater than that of the newest checkpoint.
pub record IsHead (now : Option Checkpoint) (parts : Parts) (head : List ℕ) (number : ℕ) : Type 0 where
  pub text : head ≡ head_text parts
  pub lawful : IsLawfulHead parts
  pub below : IsBelow (root_of now) (Some parts)
  pub is_number : number ≡ parts.number

module _ {D : Type 0} (g : disk.Ghosts D) where
  -- The two root files have this newest root. From Prepared on the file that is written next is closed, and in Written it has the body.
  abbrev pub RootsStand : Phase → RootPair D → Option Parts → Option Parts → List ℕ → Type 0
  RootsStand Idle roots root former body = pairs.Stands g roots root former
  RootsStand Flushing roots root former body = pairs.Stands g roots root former
  RootsStand Sealed roots root former body = pairs.Stands g roots root former
  RootsStand Prepared roots root former body = (rest : List ℕ) × IsPrepared g roots root rest
  RootsStand Written roots root former body = IsPrepared g roots root (framed body)

  -- The newest checkpoint, or none: the root files have its root, each image of the slots has its pages, and the pool's
  -- table keeps them.
  pub record Stands (c : Checkpointer D g) (pool : ShownPool D) (now : Option Checkpoint) (former : Option Parts) : Type 0 where
    pub roots : RootsStand c.phase c.roots (root_of now) former c.body.value.items
    pub slots : Leaves (HasSlotsOf now former) (g.state (disk_of pool))
    pub names : NamesOf pool.root now

  -- The next checkpoint while its pages are written: the head of its root, and the frozen map.
  pub record IsDraftOf (head_in : Option (List ℕ)) (next_number : ℕ) (pool : ShownPool D) (now : Option Checkpoint) (parts : Parts) (cells : ℕ → Cell) : Type 0 where
    pub head : (head : List ℕ) × (head_in ≡ Some head) × IsHead now parts head next_number
    pub whole : IsWhole g pool
    pub words : SameMap cells (frozen g pool)
    pub known : IsKnownTo parts cells

  abbrev pub IsDraft : Checkpointer D g → ShownPool D → Option Checkpoint → Parts → (ℕ → Cell) → Type 0
  IsDraft c pool now parts cells = IsDraftOf c.head c.next pool now parts cells

  -- The next checkpoint once its pages are durable: the frozen map is sealed, each image of the slots has the pages, and
  -- the head with the frozen table is the body that is written for the root. In Written that body is there.
  pub record IsNextOf (phase : Phase) (head_in : Option (List ℕ)) (root_body : List ℕ) (next_number : ℕ) (pool : ShownPool D) (now : Option Checkpoint) (next : Checkpoint) : Type 0 where
    pub head : (head : List ℕ) × (head_in ≡ Some head) × IsWritten (head ++ pages_text (pages_of pool.frozen)) next.root
    pub sealed : IsTrue pool.is_sealed
    pub body : phase ≡ Written → IsWritten root_body next.root
    pub below : IsBelow (root_of now) (Some next.root)
    pub number : next_number ≡ next.root.number
    pub slots : Leaves (HasSlotsOf (Some next) (root_of now)) (g.state (disk_of pool))
    pub names : Names pool.frozen next.root

  abbrev pub IsNext : Checkpointer D g → ShownPool D → Option Checkpoint → Checkpoint → Type 0
  IsNext c pool now next = IsNextOf c.phase c.head c.body.value.items c.next pool now next

  -- P holds of the images of two disks from one moment to another, each disk on its own.
  pub record EachOf (first later_first second later_second : D) (P : List ℕ → List ℕ → Type 0) : Type 0 where
    pub first_goes : GoesOn g first later_first
    pub second_goes : GoesOn g second later_second
    pub each : (one other : List ℕ) → MayLeave g first later_first one → MayLeave g second later_second other → P one other

  -- P holds of the images of the first root file and the second one from one moment to another, whichever is written next.
  abbrev pub EachRoots : RootPair D → RootPair D → (List ℕ → List ℕ → Type 0) → Type 0
  EachRoots old new P = EachOf (first_of old) (first_of new) (second_of old) (second_of new) P

  -- At each moment each image of the root files has the root of the newest checkpoint.
  abbrev pub EachNow : RootPair D → RootPair D → Option Checkpoint → Option Parts → Type 0
  EachNow old new now former = EachRoots old new (IsNewest (root_of now) former)

  -- At each moment each image has that root or the next one.
  abbrev pub EachEither : RootPair D → RootPair D → Option Checkpoint → Option Parts → Checkpoint → Type 0
  EachEither old new now former next = EachRoots old new (λ one other. IsNewest (root_of now) former one other ⊎ IsNewest (Some next.root) (root_of now) one other)

  -- What holds between the calls still holds, whatever pool calls come in between.
  pub record KeepsStanding (c : Checkpointer D g) (old new : ShownPool D) : Type 0 where
    pub stands : (now : Option Checkpoint) (former : Option Parts) → Stands c old now former → Stands c new now former
    pub draft : (now : Option Checkpoint) (parts : Parts) (cells : ℕ → Cell) → IsDraft c old now parts cells → IsDraft c new now parts cells
    pub next : (now : Option Checkpoint) (next : Checkpoint) → IsNext c old now next → IsNext c new now next

  abbrev pub CallsBetweenKeep : Type 0
  CallsBetweenKeep = (c : Checkpointer D g) (old new : ShownPool D) → Went g old new → KeepsStanding c old new
