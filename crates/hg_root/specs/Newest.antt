-- The newest open root of two files.
use Rattle.std.specs.Prelude.{◌≡◌, ◌⊎◌, ◌<◌, ℕ, List, Option, Some, None}
use Rattle.hg_gate.specs.Batches.{IsClosed}
use Rattle.hg_gate.specs.Gated.{IsOpenWith}
use Rattle.hg_root.specs.Lawful.{IsRoot}
use Rattle.hg_root.specs.Parts.{Parts}

-- The file is closed, or open with a root.
abbrev pub IsRootFile : List ℕ → Option Parts → Type 0
IsRootFile bytes None = IsClosed bytes
IsRootFile bytes (Some parts) = (body : List ℕ) × IsOpenWith body bytes × IsRoot body parts

-- The file is neither.
abbrev pub IsNoRootFile : List ℕ → Type 0
IsNoRootFile bytes = (root : Option Parts) → ¬ IsRootFile bytes root

-- no root, or one with a lesser number
abbrev pub IsBelow : Option Parts → Option Parts → Type 0
IsBelow None root = Unit {0}
IsBelow (Some parts) None = ⊥
IsBelow (Some parts) (Some root) = parts.number < root.number

-- no root, or the former one
abbrev pub IsFormer : Option Parts → Option Parts → Type 0
IsFormer None former = Unit {0}
IsFormer (Some parts) former = former ≡ Some parts

-- One of the two files has this root, and the other has a lesser one, the former, or is closed. If `root` is none, both are
-- closed.
pub record IsNewest (root former : Option Parts) (one other : List ℕ) : Type 0 where
  pub lesser : Option Parts
  pub among : IsFormer lesser former
  pub below : IsBelow lesser root
  pub either : (IsRootFile one lesser × IsRootFile other root) ⊎ (IsRootFile one root × IsRootFile other lesser)
