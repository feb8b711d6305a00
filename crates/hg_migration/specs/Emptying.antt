-- Two files that are emptied, unless one of them is open.
use Rattle.std.specs.Prelude.{◌≡◌, ◌⊎◌, ◌↔◌, Bool, IsTrue, List, [], ◌∷◌, ℕ}
use Rattle.hg_disk.specs.Laws.{Begins}
use Rattle.hg_disk.specs.Moments.{LeavesOnly}
use Rattle.hg_disk.specs.State.{IsImage, after_cut, settled}
use Rattle.hg_disk.specs.declared.disk.Disk as disk
use Rattle.hg_gate.specs.Batches.{open_gate}
use Rattle.hg_gate.specs.Reading.{WasRead}
use Rattle.hg_migration.specs.declared.fault.MigrationFault.{MigrationFault}
use Rattle.hg_migration.specs.declared.fault.MigrationFault.TheVariants.{DeviceFault, NotEmpty}

-- The file begins with an open gate.
abbrev pub IsOpen : List ℕ → Type 0
IsOpen bytes = Begins (open_gate ∷ []) bytes

-- Whether it does.
abbrev pub TellsOpen : List ℕ → Bool → Type 0
TellsOpen bytes is_open = IsTrue is_open ↔ IsOpen bytes

-- the faults of a call that finds out whether files are open, and empties them
abbrev pub IsNotEmptyOrDevice : MigrationFault → Type 0
IsNotEmptyOrDevice fault = (fault ≡ NotEmpty) ⊎ (fault ≡ DeviceFault)

module _ {D : Type 0} (g : disk.Ghosts D) where
  -- Neither file is open by what a read gives,
  abbrev pub AreNotOpen : (journal0 journal1 : D) → Type 0
  AreNotOpen journal0 journal1 = (¬ IsOpen (g.state journal0).contents) × (¬ IsOpen (g.state journal1).contents)

  -- or one of them is.
  abbrev pub EitherIsOpen : (journal0 journal1 : D) → Type 0
  EitherIsOpen journal0 journal1 = IsOpen (g.state journal0).contents ⊎ IsOpen (g.state journal1).contents

  -- Both are durable, and have no byte.
  abbrev pub AreSettledEmpty : (journal0 journal1 : D) → Type 0
  AreSettledEmpty journal0 journal1 = (g.state journal0 ≡ settled []) × (g.state journal1 ≡ settled [])

  -- Both were only read, by one call each at most.
  abbrev pub OnlyReads : (old0 new0 old1 new1 : D) → Type 0
  OnlyReads old0 new0 old1 new1 = WasRead g 1 old0 new0 × WasRead g 1 old1 new1

  -- A crash at any moment leaves what a cut to no byte may leave; if the file is durable and has no byte, it leaves none.
  pub record Empties (old new : D) : Type 0 where
    pub cut : LeavesOnly g old new (IsImage (after_cut 0 (g.state old)))
    pub none : g.state old ≡ settled [] → LeavesOnly g old new (IsImage (settled []))

  -- So it does of both files.
  abbrev pub EmptiesBoth : (old0 new0 old1 new1 : D) → Type 0
  EmptiesBoth old0 new0 old1 new1 = Empties old0 new0 × Empties old1 new1
