use Rattle.std.proofs.Common.{◌≡◌, ℕ, ◌-◌, ◌/◌, ◌%◌, ◌^◌, ◌<◌, length, get_or}
use Rattle.std.specs.Char.{digit_char}
use Rattle.hg_wire.proofs.report.digits_of_address.Given as goal

abbrev pub invariant-loop-i : goal.invariant-loop-i
invariant-loop-i l = (length l.digits ≡ 16) × ((k : ℕ) → k < l.i → get_or l.digits k 0 ≡ digit_char (l.address / 16 ^ (15 - k) % 16))
