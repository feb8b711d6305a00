use Rattle.std.proofs.Common.{take}
use Rattle.hg_root.proofs.Each.{Marked, slots_of}
use Rattle.hg_root.proofs.rules.have_own_slots.Given as goal

abbrev pub invariant-loop-page : goal.invariant-loop-page
invariant-loop-page l = Marked (slots_of (take l.page-index l.pages)) l.taken.items l.most
