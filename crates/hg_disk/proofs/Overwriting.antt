-- A write in place.
use Rattle.std.proofs.Common.{◌≡◌, ◌<◌, ◌≤◌, ◌+◌, ◌-◌, ℕ, List, ◌++◌, length, take, drop, replicate, arith}
use Rattle.std.proofs.lemmas.List.{places, same_lists}
use Rattle.hg_disk.specs.State.{overwritten}

-- within the file
pub put_within : (file : List ℕ) (at : ℕ) (bytes : List ℕ) → at + length bytes ≤ length file
    → take at file ++ (bytes ++ drop (at + length bytes) file) ≡ overwritten file at bytes
put_within file at bytes within = same_lists _ _ (grind (arith, places)) (λ k d lt. grind (arith, places))

-- in a file that was grown for it
pub grown_put : (file : List ℕ) (at : ℕ) (bytes : List ℕ) → length file < at + length bytes
    → take at (take (at + length bytes) file ++ replicate (at + length bytes - length file) 0)
    ++ (bytes ++ drop (at + length bytes) (take (at + length bytes) file ++ replicate (at + length bytes - length file) 0))
    ≡ overwritten file at bytes
grown_put file at bytes beyond = same_lists _ _ (grind (arith, places)) (λ k d lt. grind (arith, places))
