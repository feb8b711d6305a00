use Rattle.std.proofs.Common.{◌<◌, All, take}
use Rattle.hg_checkpoint.proofs.page_table.lie_below.Given as goal

abbrev pub invariant-loop-page : goal.invariant-loop-page
invariant-loop-page l = All (λ p. p.slot < l.slots) (take l.page-index l.pages)
