use Rattle.std.proofs.Common.{[]}
use Rattle.hg_sets.proofs.Threads.{are_threads}
use Rattle.hg_sets.proofs.interner.Interner.is_of_threads.Goals as goal

pub returns : goal.returns
returns c = rw (c.is_of_threads.ensures) (are_threads _ (c.requires.sound.sets.rising c.args.id [] c.requires.known))
