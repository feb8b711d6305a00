-- A file in which a call blots bytes out, and how many bytes a tear lets through.
use Rattle.std.specs.Prelude.{◌+◌, ◌-◌, ℕ, min, List, ◌++◌, length, take, drop, replicate}
use Rattle.hg_disk.specs.declared.tear.Tear.{Tear}
use Rattle.hg_disk.specs.declared.tear.Tear.TheVariants.{Lost, Kept, Front, Fill}

-- b at the places of a write of so many bytes, and in the gap before it
abbrev pub blotted : List ℕ → ℕ → ℕ → ℕ → List ℕ
blotted file at len b = take at file ++ (replicate (at + len - min at (length file)) b ++ drop (at + len) file)

-- b at the places of a write, up to the end of the file
abbrev pub blotted_within : List ℕ → ℕ → ℕ → ℕ → List ℕ
blotted_within file at len b = take at file ++ (replicate (min (at + len) (length file) - at) b ++ drop (at + len) file)

-- b at all places from `to` on
abbrev pub cut_off : List ℕ → ℕ → ℕ → List ℕ
cut_off file to b = take to file ++ replicate (length file - to) b

-- the limit of `Front`; 0 for the other tears
abbrev pub limit_of : Tear → ℕ
limit_of Lost = 0
limit_of Kept = 0
limit_of (Front n) = n
limit_of (Fill b) = 0
