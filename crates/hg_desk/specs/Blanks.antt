-- The ledgers that the books of a store are opened with.
use Rattle.std.specs.Prelude.{◌≡◌, ℕ}
use Rattle.std.specs.declared.sync.ledger.Blank.{Blank}

-- The new ledger is that of a column, which has this name and so many parts, and there is a share for each part.
abbrev pub IsBlankOf : (name parts shares : ℕ) → Blank → Type 0
IsBlankOf name parts shares blank = (blank.name ≡ name) × (blank.parts ≡ parts) × (blank.parts ≡ shares)
