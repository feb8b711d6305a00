use Rattle.std.proofs.Common.{◌≡◌, ◌∙◌, ◌+◌, ℕ, List, Bool, cond, Err, sym, ap, subst}
use Rattle.std.specs.Prelude.{IfSome}
use Rattle.hg_model.specs.declared.verdict.Refusal.{Refusal}
use Rattle.hg_pages.specs.Files as files
use Rattle.hg_root.specs.Checkpoints.{HasCheckpoint, HasPages, LieWithin, root_of}
use Rattle.hg_root.specs.Finding.{root_in}
use Rattle.hg_root.proofs.Choosing.{true_of}
use Rattle.hg_root.specs.Newest.{IsNewest}
use Rattle.hg_root.specs.Pairs.{failures, first_bytes, second_bytes}
use Rattle.hg_disk.proofs.Staying.{same}
use Rattle.hg_pool.specs.Maps as pools
use Rattle.hg_disk.specs.Moments.{AddsNoImage}
use Rattle.hg_recovery.specs.Answers.{CountedBy}
use Rattle.hg_recovery.proofs.Rooting.{no_room, rooted_so, settled_reads}
use Rattle.hg_recovery.proofs.Telling.{counted_beside}
use Rattle.hg_recovery.proofs.at_root.rooted.Goals as goal

pub returns-in-Err-clause-damaged : goal.returns-in-Err-clause-damaged
returns-in-Err-clause-damaged g c honest told cp is =
    c.in-Err.ensures.damaged (true_of g.D.Disk g.met.D.Disk.honest_reads honest c.standing.new.roots) (ap (λ (r : Refusal). Err r) told) cp
    (subst (λ d. HasCheckpoint cp (first_bytes g.D.Disk c.args.roots) (second_bytes g.D.Disk c.args.roots) (g.D.Disk.state d).contents) (sym c.attach-file.ensures.disk) is)

pub returns-in-Ok-detector_of-clause-rooted : goal.returns-in-Ok-detector_of-clause-rooted
returns-in-Ok-detector_of-clause-rooted g c honest one other bytes first second at =
    let file = c.attach-file.result in
    let found = root_in c.in-Ok.found in
    let roots = c.args.roots in
    let st = c.in-Ok.ensures.stands (true_of g.D.Disk g.met.D.Disk.honest_reads honest c.standing.new.roots) one other first second in
    let made = c.in-Ok-detector_of.ensures.stands (g.met.D.Disk.honest_reads honest _) in
    let known : files.known g.D.Disk file ≡ bytes =
    ap (λ (b : Bool). cond b (g.D.Disk.state file.before.value).contents (g.D.Disk.state file.disk).contents) c.attach-file.ensures.works
    ∙ ap (λ d. (g.D.Disk.state d).contents) c.attach-file.ensures.disk ∙ settled_reads bytes _ at in
    let read : (g.D.Disk.state (files.disk_of file)).contents ≡ bytes = ap (λ d. (g.D.Disk.state d).contents) c.attach-file.ensures.disk ∙ settled_reads bytes _ at in
    rooted_so g.D.Disk c.args.limits.sets one other bytes found st.0 made.0 c.in-Ok-detector_of.detector c.standing.new.roots c.number_of-number.result made.1 st.2
    (subst (λ (l : List ℕ). IfSome st.0 (LieWithin l)) read st.3)
    (subst (λ (l : List ℕ). IfSome made.0 (HasPages l)) known made.2)
    (λ root f is. c.in-Ok.ensures.only (true_of g.D.Disk g.met.D.Disk.honest_reads honest c.standing.new.roots) root f (subst (λ (l : List ℕ). IsNewest root f l (second_bytes g.D.Disk roots)) (sym (settled_reads one _ first)) (subst (λ (l : List ℕ). IsNewest root f one l) (sym (settled_reads other _ second)) is)))
    st.1 c.number_of-number.ensures
    (c.in-Ok-detector_of.ensures.state ∙ ap (λ d. g.D.Disk.state d) c.attach-file.ensures.disk ∙ at)
    (c.in-Ok-detector_of.ensures.names made.0 made.1)
    (c.in-Ok-detector_of.ensures.content (g.met.D.Disk.honest_reads honest _) made.0 made.1 made.2)
    (c.in-Ok-detector_of.ensures.ready honest)
    c.in-Ok-detector_of.ensures.sets

pub returns-in-Err-detector_of-clause-damaged : goal.returns-in-Err-detector_of-clause-damaged
returns-in-Err-detector_of-clause-damaged g c honest told cp is =
    let file = c.attach-file.result in
    let known : files.known g.D.Disk file ≡ (g.D.Disk.state c.args.slots).contents =
    ap (λ (b : Bool). cond b (g.D.Disk.state file.before.value).contents (g.D.Disk.state file.disk).contents) c.attach-file.ensures.works ∙ ap (λ d. (g.D.Disk.state d).contents) c.attach-file.ensures.disk in
    c.in-Err-detector_of.ensures.damaged (g.met.D.Disk.honest_reads honest _) told cp (c.in-Ok.ensures.only (true_of g.D.Disk g.met.D.Disk.honest_reads honest c.standing.new.roots) (root_of cp) is.former is.newest) (subst (λ (l : List ℕ). IfSome cp (HasPages l)) (sym known) is.stand.0)

pub returns-in-Err-detector_of-clause-full : goal.returns-in-Err-detector_of-clause-full
returns-in-Err-detector_of-clause-full g c honest =
    let st = c.in-Ok.ensures.found (true_of g.D.Disk g.met.D.Disk.honest_reads honest c.standing.new.roots) in
    no_room c.args.limits.sets c.args.limits.slots (first_bytes g.D.Disk c.args.roots) (second_bytes g.D.Disk c.args.roots) (root_in c.in-Ok.found) st.0 _ st.1 c.in-Err-detector_of.ensures.full

pub returns-in-Err-clause-state : goal.returns-in-Err-clause-state
returns-in-Err-clause-state g c = ap (λ d. g.D.Disk.state d) (c.into_disks.ensures ∙ c.attach-file.ensures.disk)

pub returns-in-Err-clause-any_moment : goal.returns-in-Err-clause-any_moment
returns-in-Err-clause-any_moment g c =
    let slots = c.args.slots in
    subst (λ d. AddsNoImage g.D.Disk slots d) (sym (c.into_disks.ensures ∙ c.attach-file.ensures.disk)) (same g.D.Disk slots)

pub returns-in-Err-clause-device : goal.returns-in-Err-clause-device
returns-in-Err-clause-device g c =
    let old = failures g.D.Disk c.args.roots in
    let new = failures g.D.Disk c.standing.new.roots in
    let slots = g.D.Disk.failures c.args.slots in
    subst (λ d. CountedBy c.in-Err.refusal (old + slots) (new + g.D.Disk.failures d)) (sym (c.into_disks.ensures ∙ c.attach-file.ensures.disk)) (counted_beside c.in-Err.refusal old new slots c.in-Err.ensures.device)

pub returns-in-Ok-detector_of-clause-state : goal.returns-in-Ok-detector_of-clause-state
returns-in-Ok-detector_of-clause-state g c = c.in-Ok-detector_of.ensures.state ∙ ap (λ d. g.D.Disk.state d) c.attach-file.ensures.disk

pub returns-in-Ok-detector_of-clause-any_moment : goal.returns-in-Ok-detector_of-clause-any_moment
returns-in-Ok-detector_of-clause-any_moment g c =
    subst (λ d. AddsNoImage g.D.Disk d (pools.disk_of c.in-Ok-detector_of.detector.words)) c.attach-file.ensures.disk c.in-Ok-detector_of.ensures.any_moment

pub returns-in-Ok-detector_of-clause-device : goal.returns-in-Ok-detector_of-clause-device
returns-in-Ok-detector_of-clause-device g c =
    ap (λ (n : ℕ). n + g.D.Disk.failures (pools.disk_of c.in-Ok-detector_of.detector.words)) c.in-Ok.ensures.device
    ∙ ap (λ (n : ℕ). failures g.D.Disk c.args.roots + n) (c.in-Ok-detector_of.ensures.device ∙ ap (λ d. g.D.Disk.failures d) c.attach-file.ensures.disk)
