-- A table with an entry for each byte.
use Rattle.std.proofs.Common.{◌≡◌, ℕ, zero, suc, ◌+◌, ◌<◌, List, length, map, get_or, refl, ap, ◌∙◌, arith}
use Rattle.std.proofs.lemmas.List.{get_or-map}
use Rattle.std.specs.List.{range_with_len}

get_or-range : (a n k : ℕ) → k < n → get_or (range_with_len a n) k 0 ≡ a + k
get_or-range a zero k lt = absurd (omega arith)
get_or-range a (suc n) zero lt = omega arith
get_or-range a (suc n) (suc k) lt = let more = get_or-range (a + 1) n k (omega arith) in more ∙ omega arith

length-range : (a n : ℕ) → length (range_with_len a n) ≡ n
length-range a zero = refl
length-range a (suc n) = ap suc (length-range (a + 1) n)

-- where the table has for each byte what a function gives, an entry is what the function gives
pub from_table : (of : ℕ → ℕ) (table : List ℕ) (b : ℕ) → b < 256 → table ≡ map of (range_with_len 0 256) → get_or table b 0 ≡ of b
from_table of table b lt e =
    let here : get_or (range_with_len 0 256) b 0 ≡ b = get_or-range 0 256 b lt ∙ omega arith in
    ap (λ t. get_or t b 0) e ∙ (get_or-map of (range_with_len 0 256) b 0 0 (rw (length-range 0 256) lt) ∙ ap of here)
