use Rattle.std.proofs.Common.{◌≡◌, ℕ, None, get_or}
use Rattle.hg_numbers.proofs.table.lengthen.Given as goal

-- each number has the value that it had
abbrev pub invariant-loop : goal.invariant-loop
invariant-loop g l = (k : ℕ) → get_or l.row.items k None ≡ get_or l.initial.row.items k None
