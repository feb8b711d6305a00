use Rattle.std.proofs.Common.{◌∙◌, List, sym, ap}
use Rattle.hg_graph.specs.Graph.{names}
use Rattle.hg_model.specs.declared.segment.Segment.{Segment}
use Rattle.hg_root.specs.Roots.{parts_of}
use Rattle.hg_checkpoint.proofs.Threads.{are_named}
use Rattle.hg_saved.proofs.detectors.over_words.Goals as goal

pub restore-requires-2-clause-threads : goal.restore-requires-2-clause-threads
restore-requires-2-clause-threads c t = are_named (parts_of c.args.root) c.requires.lawful.head t ∙ ap (λ (l : List Segment). names l t) (sym c.in-Ok.ensures)
