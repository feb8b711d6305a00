use Rattle.std.proofs.Common.{◌≡◌, ℕ, ◌<◌, ◌≤◌, get_or}
use Rattle.hg_detect.specs.declared.plan.Planned.{Planned}
use Rattle.hg_detect.proofs.setting.run_end.Given as goal

-- those so far get the cell
abbrev pub invariant-loop-next : goal.invariant-loop-next
invariant-loop-next l = (i : ℕ) → l.from ≤ i → i < l.next → (d : Planned) → (get_or l.plan i d).cell ≡ l.cell
