-- The two new journal files, made of an old journal.
use Rattle.std.specs.Prelude.{◌≡◌, ◌⊎◌, ◌+◌, ℕ, IsTrue, List, [], ◌∷◌, ◌++◌, length, drop}
use Rattle.std.specs.Int.{w64, to_be_bytes}
use Rattle.hg_disk.specs.Laws.{Begins}
use Rattle.hg_disk.specs.Moments.{LeavesOnly}
use Rattle.hg_disk.specs.State.{DiskState, SameImages, after_write, settled}
use Rattle.hg_disk.specs.declared.disk.Disk as disk
use Rattle.hg_gate.specs.Batches.{IsClosed, base_front, base_header, closed_gate}

-- what stands between the gate of a journal with the base 0 and its batches: the header and the base
abbrev pub zero_front : List ℕ
zero_front = base_header ++ to_be_bytes w64 0

module _ {D : Type 0} (g : disk.Ghosts D) where
  -- As many bytes as the old journal has behind its header; over honest disks the same.
  pub record IsCopy (old copied : List ℕ) : Type 0 where
    pub size : length copied + 8 ≡ length old
    pub same : IsTrue g.is_honest → copied ≡ drop 8 old

  -- The file is open with the base 0 and a copy of the old journal, and then anything.
  abbrev pub HasCopy : (old bytes : List ℕ) → Type 0
  HasCopy old bytes = (copied : List ℕ) × IsCopy old copied × Begins (base_front 0 ++ copied) bytes

  -- The file has a closed gate and, behind it, the header, the base 0 and a copy of the old journal, durably.
  abbrev pub IsFilled : (old : List ℕ) → D → Type 0
  IsFilled old file = (copied : List ℕ) × IsCopy old copied × (g.state file ≡ settled (closed_gate ∷ (zero_front ++ copied)))

  -- The first file is open with the base 0 and a copy of the old journal, the second one is spare, both durable, and neither
  -- has anything else.
  pub record AreBuilt (old : List ℕ) (journal0 journal1 : D) : Type 0 where
    pub copied : List ℕ
    pub is_copy : IsCopy old copied
    pub first : g.state journal0 ≡ settled (base_front 0 ++ copied)
    pub second : g.state journal1 ≡ settled (closed_gate ∷ [])

  -- The file is one closed gate, durably.
  abbrev pub IsGated : D → Type 0
  IsGated file = g.state file ≡ settled (closed_gate ∷ [])

  -- Such a file is filled.
  abbrev pub FillsGated : (old : List ℕ) → (before after : D) → Type 0
  FillsGated old before after = IsGated before → IsFilled old after

  -- what a file is after a write of the closed gate
  abbrev pub with_gate : D → DiskState
  with_gate file = after_write 0 (closed_gate ∷ []) (g.state file)

  -- The gate is made: a write of the closed gate to an empty file, and a sync, or the write alone. The last of them may have
  -- failed.
  pub record MakesGate (old new : D) : Type 0 where
    pub calls : (g.past new ≡ g.state old ∷ g.past old) ⊎ (g.past new ≡ with_gate old ∷ (g.state old ∷ g.past old))
    pub now :
        (g.state new ≡ with_gate old) ⊎ (IsGated new
        ⊎ (SameImages (with_gate old) (g.state new) × (g.failures new ≡ g.failures old + 1)))

  -- Behind a file that is filled: the gate of the second file is made, and then the first one is opened. While it is opened it
  -- is closed, or has the whole copy.
  abbrev pub FromFilled : (old : List ℕ) → (filled new0 old1 new1 : D) → Type 0
  FromFilled old filled new0 old1 new1 =
      MakesGate old1 new1
      × ((new0 ≡ filled) ⊎ (IsGated new1 × LeavesOnly g filled new0 (λ image. IsClosed image ⊎ HasCopy old image)))

  -- Behind its gate the first file is filled. It is closed meanwhile, and the second one is not called.
  abbrev pub FromGated : (old : List ℕ) → (gated new0 old1 new1 : D) → Type 0
  FromGated old gated new0 old1 new1 =
      (LeavesOnly g gated new0 IsClosed × (new1 ≡ old1))
      ⊎ ((filled : D) × LeavesOnly g gated filled IsClosed × IsFilled old filled × FromFilled old filled new0 old1 new1)

  -- The new files are made in four steps, one after another, or some of them: neither was called; or the gate of the first one
  -- is made, and what comes behind it.
  abbrev pub InTurn : (old : List ℕ) → (old0 new0 old1 new1 : D) → Type 0
  InTurn old old0 new0 old1 new1 =
      ((new0 ≡ old0) × (new1 ≡ old1))
      ⊎ ((MakesGate old0 new0 × (new1 ≡ old1))
      ⊎ ((gated : D) × MakesGate old0 gated × IsGated gated × FromGated old gated new0 old1 new1))
