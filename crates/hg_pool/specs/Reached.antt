-- How far the search for a free slot has come.
use Rattle.std.specs.Prelude.{◌<◌, ℕ}
use Rattle.hg_pool.specs.declared.parts.Parts.{Parts}
use Rattle.hg_pool.specs.Answers.{IsTaken}
use Rattle.hg_pool.specs.Sound.{shown_of}

-- Each slot below the start of the search is named.
abbrev pub IsReached : {D : Type 0} → Parts D → Type 0
IsReached p = (slot : ℕ) → slot < p.search_from → IsTaken (shown_of p) slot
