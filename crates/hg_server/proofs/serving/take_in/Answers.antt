use Rattle.std.proofs.Common.{◌∙◌, subst, sym}
use Rattle.hg_store.specs.Shown.{saved}
use Rattle.hg_desk.specs.Counting.{accepted_in}
use Rattle.hg_server.specs.Acknowledged.{BackAreRecorded, BackAreTold}
use Rattle.hg_server.proofs.Acknowledged.{no_talks_durable, talks_durable}
use Rattle.hg_server.proofs.serving.take_in.Goals as goal

pub returns-in-Ok-gather-clause-durable : goal.returns-in-Ok-gather-clause-durable
returns-in-Ok-gather-clause-durable g c honest =
    let start = g.A.Opening.start in
    talks_durable g.D.Disk start (saved g.D.Disk c.in-Ok-gather.taken_in.store) c.in-Ok.shares.items c.in-Ok.talks (c.in-Ok-gather.ensures.acked honest)
    (subst (λ r. BackAreTold g.D.Disk start r) c.in-Ok.is c.requires.told)

pub returns-in-Err-clause-durable : goal.returns-in-Err-clause-durable
returns-in-Err-clause-durable g c honest =
    no_talks_durable g.D.Disk g.A.Opening.start (saved g.D.Disk c.into_store-in-Err.result.store) c.new-in-Err.result c.new-in-Err.ensures

pub returns-in-Ok-gather-clause-recorded : goal.returns-in-Ok-gather-clause-recorded
returns-in-Ok-gather-clause-recorded g c honest whole = (
  accepted_in c.in-Ok.shares.items,
  subst (λ r. BackAreRecorded g.D.Disk g.A.Opening.start r) c.in-Ok.is c.requires.recorded,
  c.in-Ok-gather.ensures.events honest,
)

pub returns-in-Err-clause-recorded : goal.returns-in-Err-clause-recorded
returns-in-Err-clause-recorded g c honest whole = absurd (cc (sym c.cut_short-taken-in-Err.ensures.cut ∙ whole))
