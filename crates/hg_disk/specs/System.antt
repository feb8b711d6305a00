-- What stands in a file of the system when it is opened.
use Rattle.std.specs.Prelude.{ℕ, List, ◌++◌, take, replicate}

-- so many bytes: those that were found, as many as there are, and then zeros
abbrev pub bytes_at_opening : (len : ℕ) → (found : List ℕ) → List ℕ
bytes_at_opening len found = take len (found ++ replicate len 0)
