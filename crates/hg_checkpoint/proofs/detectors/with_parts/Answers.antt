use Rattle.std.proofs.Common.{◌∙◌, List, sym, ap, subst}
use Rattle.hg_graph.specs.Graph.{names}
use Rattle.hg_model.specs.declared.segment.Segment.{Segment}
use Rattle.hg_model.specs.Messages.{Agrees}
use Rattle.hg_root.specs.Roots.{parts_of}
use Rattle.hg_checkpoint.proofs.Threads.{are_named}
use Rattle.hg_checkpoint.proofs.detectors.with_parts.Goals as goal

pub restore-requires-in-Ok-clause-threads : goal.restore-requires-in-Ok-clause-threads
restore-requires-in-Ok-clause-threads g c t = are_named (parts_of c.args.root) c.requires.lawful.head t ∙ ap (λ (l : List Segment). names l t) (sym c.in-Ok.ensures)

pub restore-requires-in-Ok-clause-messages : goal.restore-requires-in-Ok-clause-messages
restore-requires-in-Ok-clause-messages g c = subst (λ (l : List Segment). Agrees l c.args.root.state.messages) (sym c.in-Ok.ensures) c.requires.whole.messages
