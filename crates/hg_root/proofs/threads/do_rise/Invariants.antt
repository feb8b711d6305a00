use Rattle.std.proofs.Common.{ℕ, ◌<◌, ◌+◌, map}
use Rattle.std.specs.Prelude.{slice_index}
use Rattle.hg_root.proofs.threads.do_rise.Given as goal

abbrev pub invariant-loop-i : goal.invariant-loop-i
invariant-loop-i l = (k : ℕ) → k + 1 < l.i → slice_index (map (λ h. h.lock) l.locks) k < slice_index (map (λ h. h.lock) l.locks) (k + 1)
