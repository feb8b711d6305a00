use Rattle.std.proofs.Common.{refl, ap, subst}
use Rattle.hg_detect.specs.Shown as detect
use Rattle.hg_pool.specs.Maps as pools
use Rattle.hg_pool.specs.Shown as pool
use Rattle.hg_store.specs.declared.steps.Step.TheVariants.{Commit}
use Rattle.hg_store.specs.declared.steps.StepResult.TheVariants.{Committed}
use Rattle.hg_store.specs.Steps.{ByCommit}
use Rattle.hg_desk.specs.Going.{moments_of}
use Rattle.hg_desk.proofs.Going.{saved_leads}
use Rattle.hg_server.proofs.Leaving.{commit_fault, commit_listed, commit_ran, commit_went, settled_by}
use Rattle.hg_server.proofs.settling.commit_all.Goals as goal

pub returns-in-Ok-clause-went : goal.returns-in-Ok-clause-went
returns-in-Ok-clause-went g c =
    commit_went g.D.Disk c.args.store.now c.commit-committed.new.self c.args.steps.now c.push.new.self c.commit-committed.result
    (commit_listed g.D.Disk c.of-began.result.value c.args.store.now c.args.steps.now c.push.new.self c.of-made.result c.commit-committed.result c.push.ensures c.of-made.ensures c.of-began.ensures)
    c.commit-committed.ensures.done c.commit-committed.ensures.device (λ honest. c.commit-committed.ensures.images honest) (λ honest. c.stands.ensures.backs honest)

pub returns-in-Ok-clause-ran : goal.returns-in-Ok-clause-ran
returns-in-Ok-clause-ran g c =
    commit_ran g.D.Disk c.args.store.now c.commit-committed.new.self c.args.steps.now c.push.new.self c.commit-committed.result
    (commit_listed g.D.Disk c.of-began.result.value c.args.store.now c.args.steps.now c.push.new.self c.of-made.result c.commit-committed.result c.push.ensures c.of-made.ensures c.of-began.ensures)
    c.commit-committed.ensures.done c.commit-committed.ensures.device (λ honest. c.commit-committed.ensures.images honest) (λ honest. c.stands-2.ensures.backs honest)

pub returns-in-Ok-clause-moment : goal.returns-in-Ok-clause-moment
returns-in-Ok-clause-moment g c =
    ap moments_of
    (commit_listed g.D.Disk c.of-began.result.value c.args.store.now c.args.steps.now c.push.new.self c.of-made.result c.commit-committed.result c.push.ensures c.of-made.ensures c.of-began.ensures)

pub returns-in-Err-clause-went : goal.returns-in-Err-clause-went
returns-in-Err-clause-went g c =
    commit_went g.D.Disk c.args.store.now c.commit-committed.new.self c.args.steps.now c.push.new.self c.commit-committed.result
    (commit_listed g.D.Disk c.of-began.result.value c.args.store.now c.args.steps.now c.push.new.self c.of-made.result c.commit-committed.result c.push.ensures c.of-made.ensures c.of-began.ensures)
    c.commit-committed.ensures.done c.commit-committed.ensures.device (λ honest. c.commit-committed.ensures.images honest) (λ honest. c.stands.ensures.backs honest)

pub returns-in-Err-clause-ran : goal.returns-in-Err-clause-ran
returns-in-Err-clause-ran g c =
    commit_ran g.D.Disk c.args.store.now c.commit-committed.new.self c.args.steps.now c.push.new.self c.commit-committed.result
    (commit_listed g.D.Disk c.of-began.result.value c.args.store.now c.args.steps.now c.push.new.self c.of-made.result c.commit-committed.result c.push.ensures c.of-made.ensures c.of-began.ensures)
    c.commit-committed.ensures.done c.commit-committed.ensures.device (λ honest. c.commit-committed.ensures.images honest) (λ honest. c.stands-2.ensures.backs honest)

pub returns-in-Err-clause-moment : goal.returns-in-Err-clause-moment
returns-in-Err-clause-moment g c =
    ap moments_of
    (commit_listed g.D.Disk c.of-began.result.value c.args.store.now c.args.steps.now c.push.new.self c.of-made.result c.commit-committed.result c.push.ensures c.of-made.ensures c.of-began.ensures)

pub returns-in-Ok-clause-kept : goal.returns-in-Ok-clause-kept
returns-in-Ok-clause-kept g c honest =
    let old = c.args.store.now in
    let result = c.commit-committed.result in
    saved_leads g.D.Disk old c.commit-committed.new.self Commit (Committed result) (result, refl, c.commit-committed.ensures.done)
    (old.pending, (c.stands.ensures.backs honest).live)

pub returns-in-Err-clause-kept : goal.returns-in-Err-clause-kept
returns-in-Err-clause-kept g c honest =
    let old = c.args.store.now in
    let result = c.commit-committed.result in
    saved_leads g.D.Disk old c.commit-committed.new.self Commit (Committed result) (result, refl, c.commit-committed.ensures.done)
    (old.pending, (c.stands.ensures.backs honest).live)

pub returns-in-Ok-clause-settled : goal.returns-in-Ok-clause-settled
returns-in-Ok-clause-settled g c =
    let old = c.args.store.now in
    let new = c.commit-committed.new.self in
    let done = subst (λ r. ByCommit g.D.Disk old new r) c.in-Ok.is c.commit-committed.ensures.done.answer in
    settled_by g.D.Disk old new c.in-Ok.field-0 done c.commit-committed.ensures.done.detector (λ honest. c.stands-2.ensures.backs honest)

pub returns-in-Err-clause-cause : goal.returns-in-Err-clause-cause
returns-in-Err-clause-cause g c =
    let old = c.args.store.now in
    let new = c.commit-committed.new.self in
    let done = subst (λ r. ByCommit g.D.Disk old new r) c.in-Err.is c.commit-committed.ensures.done.answer in
    commit_fault g.D.Disk old new c.in-Err.refusal c.commit_fault.result done c.in-Err.ensures.device c.commit_fault.ensures.broken c.commit_fault.ensures.device

pub returns-in-Ok-clause-content : goal.returns-in-Ok-clause-content
returns-in-Ok-clause-content g c = ap (λ (d : detect.ShownDetector (pool.ShownPool g.row.D.Denot)). detect.content (pools.live g.D.Disk) d) c.commit-committed.ensures.done.detector

pub returns-in-Err-clause-content : goal.returns-in-Err-clause-content
returns-in-Err-clause-content g c = ap (λ (d : detect.ShownDetector (pool.ShownPool g.row.D.Denot)). detect.content (pools.live g.D.Disk) d) c.commit-committed.ensures.done.detector
