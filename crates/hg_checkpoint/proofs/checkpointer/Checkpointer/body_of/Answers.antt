use Rattle.std.proofs.Common.{◌∙◌, ap, subst, sym}
use Rattle.hg_root.specs.Grammar.{PagesFit}
use Rattle.hg_checkpoint.specs.Tables.{pages_of}
use Rattle.hg_checkpoint.proofs.Tables.{fit}
use Rattle.hg_checkpoint.proofs.checkpointer.Checkpointer.body_of.Goals as goal

pub with_pages-requires : goal.with_pages-requires
with_pages-requires g c =
    let p = c.args.pool.now in
    subst PagesFit (sym (c.deref.ensures.value ∙ c.in_ok-pages.ensures ∙ ap pages_of c.frozen_table.ensures.entries)) (fit p.slots p.frozen c.frozen_table.ensures.nameable)
