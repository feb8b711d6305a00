-- What is copied from one disk to the end of another.
use Rattle.std.specs.Prelude.{◌≡◌, ◌≢◌, ◌+◌, ◌/◌, ℕ, IsTrue, List, [], ◌∷◌, ◌++◌, length, take, drop}
use Rattle.hg_disk.specs.Laws.{KeepsBytes}
use Rattle.hg_disk.specs.Moments.{LeavesOnly}
use Rattle.hg_disk.specs.declared.disk.Disk as disk
use Rattle.hg_gate.specs.Batches.{IsClosed, open_gate}

-- how many pieces of 64 KiB so many bytes make at most
abbrev pub pieces_in : ℕ → ℕ
pieces_in n = n / 65536 + 1

module _ {D : Type 0} (g : disk.Ghosts D) where
  -- So many bytes were read of a file; from an honest disk those that it has from this place on.
  pub record AreRead (file : List ℕ) (at n : ℕ) (bytes : List ℕ) : Type 0 where
    pub size : length bytes ≡ n
    pub same : IsTrue g.is_honest → bytes ≡ take n (drop at file)

  -- Behind the old bytes stand so many that were read there.
  abbrev pub Appends : (file : List ℕ) → (at n : ℕ) → (old new : List ℕ) → Type 0
  Appends file at n old new = (bytes : List ℕ) × AreRead file at n bytes × (new ≡ old ++ bytes)

  -- A gate that is on the disk stays there,
  abbrev pub KeepsGate : (old new : D) → Type 0
  KeepsGate old new = (gate : ℕ) → KeepsBytes (g.state old) 0 (gate ∷ []) → KeepsBytes (g.state new) 0 (gate ∷ [])

  -- and if it is closed, a crash at any moment leaves it.
  abbrev pub StaysClosed : (old new : D) → Type 0
  StaysClosed old new =
      (gate : ℕ) → gate ≢ open_gate → KeepsBytes (g.state old) 0 (gate ∷ []) → LeavesOnly g old new IsClosed
