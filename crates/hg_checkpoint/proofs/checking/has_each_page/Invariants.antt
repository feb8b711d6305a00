use Rattle.std.proofs.Common.{◌≡◌, ◌<◌, ℕ, slice_get, Some}
use Rattle.hg_root.specs.declared.parts.PageSlot.{PageSlot}
use Rattle.hg_checkpoint.specs.Runs.{HasPageAt}
use Rattle.hg_checkpoint.proofs.checking.has_each_page.Given as goal

abbrev pub invariant-loop-place : goal.invariant-loop-place
invariant-loop-place l = (i : ℕ) (p : PageSlot) → i < l.place → slice_get l.pages i ≡ Some p → HasPageAt l.segments l.sets.sets l.run i p
