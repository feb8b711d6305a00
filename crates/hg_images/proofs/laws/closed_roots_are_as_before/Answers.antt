use Rattle.hg_images.proofs.Closed as closed
use Rattle.hg_images.proofs.laws.closed_roots_are_as_before.Goals as goal

pub returns-clause-all_events : goal.returns-clause-all_events
returns-clause-all_events c = closed.as_before

pub returns-clause-no_base : goal.returns-clause-no_base
returns-clause-no_base c = closed.no_base
