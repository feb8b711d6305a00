use Rattle.std.proofs.Common.{◌∙◌, length, refl, sym, ap, subst}
use Rattle.hg_pool.specs.Kept.{IsFaithful}
use Rattle.hg_sets.specs.Interning.{Table}
use Rattle.hg_pool.specs.Shown as pool
use Rattle.hg_recovery.specs.Detectors.{IsAtRest}
use Rattle.hg_recovery.proofs.Detectors.{empty_faithful}
use Rattle.hg_recovery.proofs.at_root.empty_detector.Goals as goal

pub returns-in-Ok-clause-faithful : goal.returns-in-Ok-clause-faithful
returns-in-Ok-clause-faithful g c honest =
    let d = c.in-Ok.detector in
    let n = length d.segments in
    let m = length d.sets.sets in
    subst (λ (p : pool.ShownPool g.row.D.Denot). IsFaithful g.D.Disk p n m) (sym (c.in-Ok.ensures.words ∙ c.in_ok-pool.ensures.pool))
    (empty_faithful g.D.Disk c.args.file c.new.result.entries _ c.args.limits.slots c.new.ensures honest n m)

pub returns-in-Err-clause-handed_back : goal.returns-in-Err-clause-handed_back
returns-in-Err-clause-handed_back g c = c.into_disks.ensures ∙ ap (λ (p : pool.ShownPool g.row.D.Denot). p.file) (c.in-Err.ensures.handed_back ∙ c.in_ok-pool.ensures.pool)

pub returns-in-Ok-clause-size : goal.returns-in-Ok-clause-size
returns-in-Ok-clause-size g c =
    let words = c.in-Ok.ensures.words ∙ c.in_ok-pool.ensures.pool in
    record {
      frames = ap (λ (p : pool.ShownPool g.row.D.Denot). p.most_frames) words;
      slots = ap (λ (p : pool.ShownPool g.row.D.Denot). p.slots) words;
      sets = ap (λ (t : Table). t.limit) c.in-Ok.ensures.sets;
    }

pub returns-in-Ok-clause-rests : goal.returns-in-Ok-clause-rests
returns-in-Ok-clause-rests g c =
    subst (λ (p : pool.ShownPool g.row.D.Denot). IsAtRest p) (sym (c.in-Ok.ensures.words ∙ c.in_ok-pool.ensures.pool)) (record { none_waits = refl; frozen = λ page slot names. names })
