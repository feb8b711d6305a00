use Rattle.std.proofs.Common.{All, take}
use Rattle.hg_root.specs.Grammar.{SetFits}
use Rattle.hg_checkpoint.proofs.fitting.sets_have_spellings.Given as goal

abbrev pub invariant-loop-id : goal.invariant-loop-id
invariant-loop-id l = All SetFits (take l.id l.sets.sets)
