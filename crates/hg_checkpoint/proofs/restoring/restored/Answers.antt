use Rattle.std.proofs.Common.{IsTrue, ◌∙◌, List, ℕ, ap, sym, subst}
use Rattle.hg_detect.specs.Engine.{AtPresent}
use Rattle.hg_detect.specs.Shown as detect
use Rattle.hg_detect.specs.Shown.{content}
use Rattle.hg_pool.specs.Kept.{IsFaithful}
use Rattle.hg_pool.specs.Maps.{live}
use Rattle.hg_pool.specs.Shown as pool
use Rattle.hg_root.specs.Checkpoints.{HasPages}
use Rattle.hg_root.specs.Roots.{parts_of}
use Rattle.hg_checkpoint.specs.NamedPages.{HasPagesOf}
use Rattle.hg_checkpoint.proofs.Maps.{is_faithful, same_content}
use Rattle.hg_checkpoint.proofs.restoring.restored.Goals as goal

pub returns-in-Ok-over_pool-clause-content : goal.returns-in-Ok-over_pool-clause-content
returns-in-Ok-over_pool-clause-content g c honest checkpoint is has =
    let file = c.checked_table.new.file in
    ap (λ (d : detect.ShownDetector (pool.ShownPool g.row.D.Denot)). content (live g.D.Disk) d) c.in-Ok-over_pool.ensures.shown
    ∙ same_content g.D.Disk c.args.root c.args.caps file checkpoint c.requires.whole is (subst (λ (l : List ℕ). HasPages l checkpoint) (sym c.checked_table.ensures.read.known) has)

pub returns-in-Ok-over_pool-clause-faithful : goal.returns-in-Ok-over_pool-clause-faithful
returns-in-Ok-over_pool-clause-faithful g c honest =
    let file = c.checked_table.new.file in
    subst (λ (d : detect.ShownDetector (pool.ShownPool g.row.D.Denot)). AtPresent (IsFaithful g.D.Disk) d) (sym c.in-Ok-over_pool.ensures.shown)
    (is_faithful g.D.Disk c.args.root c.args.caps file honest (subst (λ (l : List ℕ). HasPagesOf (parts_of c.args.root) l) (sym c.checked_table.ensures.read.known) (c.in-Ok.ensures.stands (g.met.D.Disk.honest_reads honest file.disk))))

pub returns-in-Ok-over_pool-clause-stands : goal.returns-in-Ok-over_pool-clause-stands
returns-in-Ok-over_pool-clause-stands g c were =
    c.in-Ok.ensures.stands (subst (λ (d : detect.ShownDetector (pool.ShownPool g.row.D.Denot)). IsTrue (g.D.Disk.reads_were_true d.words.file.disk)) c.in-Ok-over_pool.ensures.shown were)
