use Rattle.hg_model.proofs.ThreadSets.{few, kept, start}
use Rattle.hg_model.proofs.laws.thread_sets_are_small.Goals as goal

pub returns : goal.returns
returns c = record { start = start; kept = kept; few = few }
