use Rattle.std.proofs.Common.{IsTrue, ◌≡◌, ◌∙◌, inl, inr, ℕ, false, Option, None, Some, Result, Ok, Err, refl, sym, ap, subst, rules}
use Rattle.std.specs.Prelude.{IfErr, IfOk, IfSome}
use Rattle.hg_model.specs.declared.verdict.Refusal.{Refusal}
use Rattle.hg_model.specs.declared.verdict.Refusal.TheVariants.{Damaged, OutOfMemory}
use Rattle.hg_model.specs.declared.verdict.Refusal.TheVariants as refusal
use Rattle.hg_detect.specs.Shown as detect
use Rattle.hg_detect.specs.Shown.{content}
use Rattle.hg_disk.specs.declared.disk.Disk as disk
use Rattle.hg_disk.proofs.Staying.{same}
use Rattle.hg_checkpoint.specs.Tables.{NamesOf}
use Rattle.hg_pages.specs.Files.{disk_of, is_broken, known}
use Rattle.hg_pages.specs.declared.slot_file.SlotFile.{SlotFile}
use Rattle.hg_pool.specs.Maps.{live}
use Rattle.hg_pool.specs.Shown as pool
use Rattle.hg_root.specs.Checkpoints.{Checkpoint, HasPages, root_of}
use Rattle.hg_root.specs.Finding.{IsWholeIn, root_in}
use Rattle.hg_root.specs.Parts.{Parts}
use Rattle.hg_root.specs.Roots.{parts_of}
use Rattle.hg_contents.specs.Images.{start_of}
use Rattle.hg_checkpoint.specs.Restoring.{IsTrueCause, detector_of, file_in}
use Rattle.hg_checkpoint.specs.declared.limits.Limits.{Limits}
use Rattle.hg_disk.specs.Moments.{AddsNoImage}
use Rattle.hg_recovery.specs.Answers.{IsOfRecovery}
use Rattle.hg_recovery.specs.Detectors.{HasSize, IsAtRest}
use Rattle.hg_recovery.specs.Rooting.{IsTooFew, table_at}
use Rattle.hg_recovery.proofs.Detectors.{each_names, each_ready, first_ready, if_err, some_checkpoint}
use Rattle.hg_recovery.proofs.Replaying.{on_ok}
use Rattle.hg_recovery.proofs.at_root.detector_of.Goals as goal

no_root : (o : Option Checkpoint) → root_of o ≡ None → o ≡ None
no_root None is = refl
no_root (Some checkpoint) is = absurd (cc)

memory_is_not_room : (sets slots : ℕ) → IsTooFew sets slots None OutOfMemory
memory_is_not_room sets slots = (λ told. absurd (cc), λ told. absurd (cc))

if_ok : {T E : Type 0} (P Q : T → Type 0) (result : Result T E) → ((value : T) → P value → Q value) → IfOk result P → IfOk result Q
if_ok P Q (Ok value) from holds = from value holds
if_ok P Q (Err error) from holds = tt

-- what holds of a refusal if the reads of its file were true
with_reads : {D : Type 0} (g : disk.Ghosts D) (P : Refusal × SlotFile D → Type 0) (result : Result (detect.ShownDetector (pool.ShownPool D)) (Refusal × SlotFile D)) → IfErr result (λ e. IsTrue (g.reads_were_true (disk_of e.1)) → P e)
    → IsTrue (g.reads_were_true (disk_of (file_in result))) → IfErr result P
with_reads g P (Ok d) is were = tt
with_reads g P (Err e) is were = is were

-- the causes of a restoring over a file that works
of_cause : {D : Type 0} (g : disk.Ghosts D) (root : Parts) (caps : Limits) (file after : SlotFile D) → is_broken file ≡ false → (r : Refusal) → IsTrueCause g root caps file after r → IsOfRecovery r
of_cause g root caps file after works (refusal.Gap number) cause = absurd cause
of_cause g root caps file after works refusal.BadNumber cause = absurd cause
of_cause g root caps file after works refusal.BadLength cause = absurd cause
of_cause g root caps file after works refusal.AddressEnd cause = absurd cause
of_cause g root caps file after works refusal.NoThread cause = absurd cause
of_cause g root caps file after works refusal.ChildUsed cause = absurd cause
of_cause g root caps file after works refusal.SelfJoin cause = absurd cause
of_cause g root caps file after works refusal.ChildNotAlive cause = absurd cause
of_cause g root caps file after works refusal.ChildHoldsLocks cause = absurd cause
of_cause g root caps file after works refusal.Broken cause = absurd (cc (cause, works))
of_cause g root caps file after works refusal.Damaged cause = inl refl
of_cause g root caps file after works refusal.AlreadyHeld cause = absurd cause
of_cause g root caps file after works refusal.LockBusy cause = absurd cause
of_cause g root caps file after works refusal.NotHeld cause = absurd cause
of_cause g root caps file after works refusal.FullHeld cause = absurd cause
of_cause g root caps file after works refusal.FullSegments cause = absurd cause
of_cause g root caps file after works refusal.MessageUsed cause = absurd cause
of_cause g root caps file after works refusal.NotSent cause = absurd cause
of_cause g root caps file after works refusal.MessageTaken cause = absurd cause
of_cause g root caps file after works refusal.FullEvents cause = absurd cause
of_cause g root caps file after works refusal.FullPending cause = absurd cause
of_cause g root caps file after works refusal.FullSets cause = inr (inl refl)
of_cause g root caps file after works refusal.FullSlots cause = inr (inr (inl refl))
of_cause g root caps file after works refusal.DeviceFault cause = inr (inr (inr (inl refl)))
of_cause g root caps file after works refusal.OutOfMemory cause = inr (inr (inr (inr refl)))

pub returns-in-Some-clause-sets : goal.returns-in-Some-clause-sets
returns-in-Some-clause-sets g c =
    let root = c.in-Some.root in
    let caps = c.args.limits in
    let sets = c.args.limits.sets in
    if_ok (λ d. d ≡ detector_of root caps d.words.file) (λ d. d.sets ≡ table_at sets (root_in c.args.found)) c.restored.result
    (λ d is. ap (λ (x : detect.ShownDetector (pool.ShownPool g.row.D.Denot)). x.sets) is ∙ sym (ap (λ (o : Option Parts). table_at sets o) (ap root_in c.in-Some.is)))
    c.restored.ensures.shown

pub returns-in-Some-clause-refusal : goal.returns-in-Some-clause-refusal
returns-in-Some-clause-refusal g c =
    let root = parts_of c.in-Some.root in
    if_err (λ e. IsTrueCause g.D.Disk root c.args.limits c.args.file e.1 e.0) (λ e. IsOfRecovery e.0) c.restored.result (λ e cause. of_cause g.D.Disk root c.args.limits c.args.file e.1 c.requires.works e.0 cause) c.restored.ensures.refusal

pub returns-in-Some-clause-content : goal.returns-in-Some-clause-content
returns-in-Some-clause-content g c honest o is has =
    let root = parts_of c.in-Some.root in
    let k = some_checkpoint o root (is ∙ ap root_in c.in-Some.is) in
    let slots = known g.D.Disk c.args.file in
    subst (λ (p : Option Checkpoint). IfSome p (HasPages slots) → IfOk c.restored.result (λ d. content (live g.D.Disk) d ≡ start_of p)) (sym k.1) (λ pages. c.restored.ensures.content honest k.0 k.2 pages) has

pub returns-in-Some-clause-stands : goal.returns-in-Some-clause-stands
returns-in-Some-clause-stands g c honest =
    on_ok c.restored.result (λ has. (Some has.0, ap (λ (p : Parts). Some p) has.1 ∙ sym (ap root_in c.in-Some.is), has.2)) (c.restored.ensures.stands honest)

pub returns-in-Some-clause-damaged : goal.returns-in-Some-clause-damaged
returns-in-Some-clause-damaged g c honest =
    let root = parts_of c.in-Some.root in
    let slots = known g.D.Disk c.args.file in
    with_reads g.D.Disk (λ e. e.0 ≡ Damaged → (o : Option Checkpoint) → root_of o ≡ root_in c.args.found → ¬ IfSome o (HasPages slots)) c.restored.result
    (if_err (λ e. IsTrueCause g.D.Disk root c.args.limits c.args.file e.1 e.0) (λ e. IsTrue (g.D.Disk.reads_were_true (disk_of e.1)) → e.0 ≡ Damaged → (o : Option Checkpoint) → root_of o ≡ root_in c.args.found → ¬ IfSome o (HasPages slots)) c.restored.result
    (λ e cause were told o is has.
    let k = some_checkpoint o root (is ∙ ap root_in c.in-Some.is) in
    let none = subst (λ (r : Refusal). IsTrueCause g.D.Disk root c.args.limits c.args.file e.1 r) told cause in
    none were (k.0, k.2, subst (λ (p : Option Checkpoint). IfSome p (HasPages slots)) k.1 has))
    c.restored.ensures.refusal) honest

pub returns-in-Some-clause-full : goal.returns-in-Some-clause-full
returns-in-Some-clause-full g c =
    let root = parts_of c.in-Some.root in
    let sets = c.args.limits.sets in
    let slots = c.args.limits.slots in
    if_err (λ e. IsTrueCause g.D.Disk root c.args.limits c.args.file e.1 e.0) (λ e. IsTooFew sets slots (root_in c.args.found) e.0) c.restored.result
    (λ e cause. subst (λ (o : Option Parts). IsTooFew sets slots o e.0) (sym (ap root_in c.in-Some.is)) (
      λ told. (subst (λ (r : Refusal). IsTrueCause g.D.Disk root c.args.limits c.args.file e.1 r) told cause),
      λ told. (subst (λ (r : Refusal). IsTrueCause g.D.Disk root c.args.limits c.args.file e.1 r) told cause),
    ))
    c.restored.ensures.refusal

pub returns-in-Some-clause-ready : goal.returns-in-Some-clause-ready
returns-in-Some-clause-ready g c honest =
    let root = c.in-Some.root in
    each_ready g.D.Disk root c.args.limits (known g.D.Disk c.args.file) (subst IsWholeIn c.in-Some.is c.requires.whole).1 c.restored.result (c.restored.ensures.stands (g.met.D.Disk.honest_reads honest (disk_of (file_in c.restored.result)))) c.restored.ensures.shown (c.restored.ensures.content (g.met.D.Disk.honest_reads honest (disk_of (file_in c.restored.result)))) (c.restored.ensures.faithful honest)

pub returns-in-Ok-clause-ready : goal.returns-in-Ok-clause-ready
returns-in-Ok-clause-ready g c honest = first_ready g.D.Disk c.in-Ok.detector c.args.limits.sets (search rules) (search rules) (search rules)

pub returns-in-Some-clause-names : goal.returns-in-Some-clause-names
returns-in-Some-clause-names g c o is =
    each_names g.D.Disk c.in-Some.root c.args.limits o (subst IsWholeIn c.in-Some.is c.requires.whole).1 (is ∙ ap root_in c.in-Some.is) c.restored.result c.restored.ensures.shown

pub returns-in-Ok-clause-content : goal.returns-in-Ok-clause-content
returns-in-Ok-clause-content g c honest o is has = c.in-Ok.ensures.content ∙ ap (λ (p : Option Checkpoint). start_of p) (sym (no_root o (is ∙ ap root_in c.in-None.is)))

pub returns-in-Ok-clause-names : goal.returns-in-Ok-clause-names
returns-in-Ok-clause-names g c o is = subst (λ (p : Option Checkpoint). NamesOf c.in-Ok.detector.words.root p) (sym (no_root o (is ∙ ap root_in c.in-None.is))) tt

pub returns-in-Ok-clause-stands : goal.returns-in-Ok-clause-stands
returns-in-Ok-clause-stands g c honest = (None, sym (ap root_in c.in-None.is), tt)

pub returns-in-Err-clause-full : goal.returns-in-Err-clause-full
returns-in-Err-clause-full g c =
    let sets = c.args.limits.sets in
    let slots = c.args.limits.slots in
    subst (λ (o : Option Parts). IsTooFew sets slots o OutOfMemory) (sym (ap root_in c.in-None.is)) (memory_is_not_room sets slots)

pub returns-in-Err-clause-device : goal.returns-in-Err-clause-device
returns-in-Err-clause-device g c = ap (λ (f : SlotFile g.row.D.Denot). g.D.Disk.failures (disk_of f)) c.in-Err.ensures.handed_back

pub returns-in-Err-clause-any_moment : goal.returns-in-Err-clause-any_moment
returns-in-Err-clause-any_moment g c =
    let file = c.args.file in
    subst (λ (f : SlotFile g.row.D.Denot). AddsNoImage g.D.Disk (disk_of file) (disk_of f)) (sym c.in-Err.ensures.handed_back) (same g.D.Disk (disk_of file))

pub returns-in-Some-clause-device : goal.returns-in-Some-clause-device
returns-in-Some-clause-device g c = c.restored.ensures.device

pub returns-in-Some-clause-size : goal.returns-in-Some-clause-size
returns-in-Some-clause-size g c =
    let root = c.in-Some.root in
    let caps = c.args.limits in
    if_ok (λ d. d ≡ detector_of root caps d.words.file) (HasSize c.args.limits) c.restored.result
    (λ d is. record {
      frames = ap (λ (x : detect.ShownDetector (pool.ShownPool g.row.D.Denot)). x.words.most_frames) is;
      slots = ap (λ (x : detect.ShownDetector (pool.ShownPool g.row.D.Denot)). x.words.slots) is;
      sets = ap (λ (x : detect.ShownDetector (pool.ShownPool g.row.D.Denot)). x.sets.limit) is;
    })
    c.restored.ensures.shown

pub returns-in-Some-clause-rests : goal.returns-in-Some-clause-rests
returns-in-Some-clause-rests g c =
    let root = c.in-Some.root in
    let caps = c.args.limits in
    if_ok (λ d. d ≡ detector_of root caps d.words.file) (λ d. IsAtRest d.words) c.restored.result
    (λ d is. subst (λ (x : detect.ShownDetector (pool.ShownPool g.row.D.Denot)). IsAtRest x.words) (sym is) (record { none_waits = refl; frozen = λ page slot names. names }))
    c.restored.ensures.shown
