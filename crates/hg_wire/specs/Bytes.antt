-- Definition: part of what `check` promises. Bytes without a given one.
use Rattle.std.specs.Prelude.{◌≢◌, ℕ, List}
use Rattle.std.specs.List.{AllByRecursion}

-- no byte is c
abbrev pub NoByte : ℕ → List ℕ → Type 0
NoByte c bytes = AllByRecursion (λ b. b ≢ c) bytes
