use Rattle.std.proofs.Common.{All, take}
use Rattle.hg_checkpoint.proofs.fitting.have_spellings.Given as goal

abbrev pub invariant-loop-part : goal.invariant-loop-part
invariant-loop-part g l = All g.T.Part.fits (take l.part-index l.parts)
