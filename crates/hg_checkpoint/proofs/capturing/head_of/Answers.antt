use Rattle.std.proofs.Common.{◌∙◌}
use Rattle.hg_checkpoint.proofs.Spelling.{spells}
use Rattle.hg_checkpoint.proofs.capturing.head_of.Goals as goal

pub returns-clause-damaged : goal.returns-clause-damaged
returns-clause-damaged g c told fits =
    c.spelled.ensures.damaged told
    (spells g.W.Words.cell_of c.args.detector.now c.args.number _ c.a_detector_has_a_lawful_head.ensures c.threads_have_small_numbers.ensures (c.deref-2.ensures.value ∙ c.in_ok-threads.ensures.sources) c.requires.least c.requires.most fits)
