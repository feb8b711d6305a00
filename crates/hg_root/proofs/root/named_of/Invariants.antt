use Rattle.std.proofs.Common.{◌≡◌, List}
use Rattle.hg_root.specs.Lawful.{named_below}
use Rattle.hg_model.specs.declared.segment.Segment.{Segment}
use Rattle.hg_root.specs.Last.{IsLastTable}
use Rattle.hg_root.proofs.root.named_of.Given as goal

abbrev pub invariant-loop-t : goal.invariant-loop-t
invariant-loop-t l = (segments : List Segment) → IsLastTable segments l.lasts → l.named.items ≡ named_below segments l.t
