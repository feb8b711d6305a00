-- Laws of roots.
use Rattle.std.specs.Prelude.{◌≡◌, ◌<◌, ◌^◌, ℕ, List, Option, length}
use Rattle.hg_root.specs.Lawful.{IsRoot}
use Rattle.hg_root.specs.Newest.{IsNewest}
use Rattle.hg_root.specs.Parts.{Parts}

-- two contents with the same bytes are equal
abbrev pub BodiesHaveOneReading : Type 0
BodiesHaveOneReading = (body : List ℕ) (p q : Parts) → IsRoot body p → IsRoot body q → p ≡ q

-- two files have at most one newest root
abbrev pub OneNewest : Type 0
OneNewest =
    (root former next before : Option Parts) (one other : List ℕ) → length one < 2 ^ 64 → length other < 2 ^ 64
    → IsNewest root former one other → IsNewest next before one other → root ≡ next
