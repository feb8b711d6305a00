-- The words that an access or a block overlaps stand in a row.
use Rattle.std.proofs.Common.{◌≡◌, ℕ, ◌+◌, ◌*◌, ◌/◌, ◌<◌, ◌≤◌, true, false, nat_lt, ⊎_elim, ◌⊎◌, arith, lt-ltb, le-ltb}
use Rattle.std.proofs.lemmas.Bool.{and_from, and_left, and_right}
use Rattle.hg_model.specs.History.{overlaps}

-- from the first one to the last
pub overlapped : (at len w : ℕ) → 0 < len → at / 4 ≤ w → w < (at + len + 3) / 4 → overlaps at len w ≡ true
overlapped at len w some low high = and_from (nat_lt at (4 * w + 4)) (nat_lt (4 * w) (at + len)) (lt-ltb at (4 * w + 4) (omega arith)) (lt-ltb (4 * w) (at + len) (omega arith))

pub not_overlapped : (at len w : ℕ) → (w < at / 4) ⊎ ((at + len + 3) / 4 ≤ w) → overlaps at len w ≡ false
not_overlapped at len w outside =
    ⊎_elim
    (λ low. and_left (nat_lt at (4 * w + 4)) (nat_lt (4 * w) (at + len)) (le-ltb at (4 * w + 4) (omega arith)))
    (λ high. and_right (nat_lt at (4 * w + 4)) (nat_lt (4 * w) (at + len)) (le-ltb (4 * w) (at + len) (omega arith)))
    outside
