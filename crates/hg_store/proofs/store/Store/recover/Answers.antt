use Rattle.std.proofs.Common.{◌≡◌, refl, subst}
use Rattle.std.specs.Prelude.{IfErr, IfOk}
use Rattle.hg_model.specs.Contents.{Content}
use Rattle.hg_model.specs.declared.verdict.Refusal.TheVariants.{Damaged, FullSets, FullSlots}
use Rattle.hg_detect.specs.Shown.{content}
use Rattle.hg_pool.specs.Maps.{live}
use Rattle.hg_images.specs.Images.{HasContent, Image}
use Rattle.hg_store.specs.Recovering.{HasFewSets, HasTable, LacksSlots, made_of}
use Rattle.hg_store.specs.Store.{IsFresh}
use Rattle.hg_store.proofs.Recovering.{few_calls, files_read, files_synced, lacks_before, only_synced, read_once, reads_same, same_or_fault, same_read, same_settled, slots_read, slots_synced, synced_first}
use Rattle.hg_recovery.proofs.Detectors.{if_err}
use Rattle.hg_store.proofs.store.Store.recover.Goals as goal

pub returns-in-Err-clause-images : goal.returns-in-Err-clause-images
returns-in-Err-clause-images g c honest = only_synced g.D.Disk c.args.devices c.sync_all.new.devices c.sync_all.ensures.stay

pub returns-in-Err-pending_room-clause-images : goal.returns-in-Err-pending_room-clause-images
returns-in-Err-pending_room-clause-images g c honest = only_synced g.D.Disk c.args.devices c.sync_all.new.devices c.sync_all.ensures.stay

pub returns-in-Ok-pending_room-clause-content : goal.returns-in-Ok-pending_room-clause-content
returns-in-Ok-pending_room-clause-content g c honest =
    let at = c.in-Ok.ensures.settled in
    subst (λ (x : Image). IfOk c.recovered.result (λ store. (d : Content) × HasContent x d × IsFresh g.D.Disk store d)) (reads_same g.D.Disk c.args.devices c.sync_all.new.devices at) (c.recovered.ensures.content honest)

pub returns-in-Ok-pending_room-clause-sets : goal.returns-in-Ok-pending_room-clause-sets
returns-in-Ok-pending_room-clause-sets g c honest =
    let at = c.in-Ok.ensures.settled in
    subst (λ (x : Image). IfOk c.recovered.result (λ store. HasTable c.args.caps.sets x (content (live g.D.Disk) store.detector) store.detector.sets)) (reads_same g.D.Disk c.args.devices c.sync_all.new.devices at) (c.recovered.ensures.sets honest)

pub returns-in-Ok-pending_room-clause-damaged : goal.returns-in-Ok-pending_room-clause-damaged
returns-in-Ok-pending_room-clause-damaged g c honest =
    let at = c.in-Ok.ensures.settled in
    subst (λ (x : Image). IfErr c.recovered.result (λ e. e.0 ≡ Damaged → (d : Content) → ¬ HasContent x d)) (reads_same g.D.Disk c.args.devices c.sync_all.new.devices at) (c.recovered.ensures.damaged honest)

pub returns-in-Ok-pending_room-clause-full : goal.returns-in-Ok-pending_room-clause-full
returns-in-Ok-pending_room-clause-full g c honest =
    let at = c.in-Ok.ensures.settled in
    subst (λ (x : Image). IfErr c.recovered.result (λ e. e.0 ≡ FullSets → HasFewSets c.args.caps.sets x)) (reads_same g.D.Disk c.args.devices c.sync_all.new.devices at) (c.recovered.ensures.full honest)

pub returns-in-Ok-pending_room-clause-images : goal.returns-in-Ok-pending_room-clause-images
returns-in-Ok-pending_room-clause-images g c honest =
    let at = c.in-Ok.ensures.settled in
    synced_first g.D.Disk c.args.devices c.sync_all.new.devices _ g.met.D.Disk.has_its_bytes c.sync_all.ensures.stay at (c.recovered.ensures.images honest)

pub returns-in-Err-clause-files : goal.returns-in-Err-clause-files
returns-in-Err-clause-files g c = files_synced g.D.Disk c.args.devices c.sync_all.new.devices c.sync_all.ensures.stay c.sync_all.ensures.bytes

pub returns-in-Err-clause-slots : goal.returns-in-Err-clause-slots
returns-in-Err-clause-slots g c honest = slots_synced g.D.Disk c.args.devices c.sync_all.new.devices c.sync_all.ensures.stay c.sync_all.ensures.bytes

pub returns-in-Err-clause-bytes : goal.returns-in-Err-clause-bytes
returns-in-Err-clause-bytes g c other = absurd (other refl)

pub returns-in-Err-clause-calls : goal.returns-in-Err-clause-calls
returns-in-Err-clause-calls g c = (few_calls g.D.Disk _ _ c.sync_all.ensures.first_calls, few_calls g.D.Disk _ _ c.sync_all.ensures.second_calls)

pub returns-in-Err-pending_room-clause-files : goal.returns-in-Err-pending_room-clause-files
returns-in-Err-pending_room-clause-files g c = files_synced g.D.Disk c.args.devices c.sync_all.new.devices c.sync_all.ensures.stay c.sync_all.ensures.bytes

pub returns-in-Err-pending_room-clause-slots : goal.returns-in-Err-pending_room-clause-slots
returns-in-Err-pending_room-clause-slots g c honest = slots_synced g.D.Disk c.args.devices c.sync_all.new.devices c.sync_all.ensures.stay c.sync_all.ensures.bytes

pub returns-in-Err-pending_room-clause-bytes : goal.returns-in-Err-pending_room-clause-bytes
returns-in-Err-pending_room-clause-bytes g c other = same_settled g.D.Disk c.args.devices c.sync_all.new.devices c.in-Ok.ensures.settled

pub returns-in-Err-pending_room-clause-calls : goal.returns-in-Err-pending_room-clause-calls
returns-in-Err-pending_room-clause-calls g c = (few_calls g.D.Disk _ _ c.sync_all.ensures.first_calls, few_calls g.D.Disk _ _ c.sync_all.ensures.second_calls)

pub returns-in-Ok-pending_room-clause-files : goal.returns-in-Ok-pending_room-clause-files
returns-in-Ok-pending_room-clause-files g c = files_read g.D.Disk c.args.devices c.sync_all.new.devices _ c.in-Ok.ensures.settled c.sync_all.ensures.stay c.recovered.ensures.files

pub returns-in-Ok-pending_room-clause-slots : goal.returns-in-Ok-pending_room-clause-slots
returns-in-Ok-pending_room-clause-slots g c honest = slots_read g.D.Disk c.args.devices c.sync_all.new.devices _ c.in-Ok.ensures.settled c.sync_all.ensures.stay (c.recovered.ensures.slots honest)

pub returns-in-Ok-pending_room-clause-bytes : goal.returns-in-Ok-pending_room-clause-bytes
returns-in-Ok-pending_room-clause-bytes g c =
    same_or_fault g.D.Disk c.args.devices c.recovered.result (same_read g.D.Disk c.args.devices c.sync_all.new.devices _ c.in-Ok.ensures.settled c.recovered.ensures.files)

pub returns-in-Ok-pending_room-clause-calls : goal.returns-in-Ok-pending_room-clause-calls
returns-in-Ok-pending_room-clause-calls g c =
    let read = c.recovered.ensures.files in
    (read_once g.D.Disk _ _ _ c.sync_all.ensures.first_calls read.root0, read_once g.D.Disk _ _ _ c.sync_all.ensures.second_calls read.root1)

pub returns-in-Ok-pending_room-clause-full_slots : goal.returns-in-Ok-pending_room-clause-full_slots
returns-in-Ok-pending_room-clause-full_slots g c honest =
    let mid = c.sync_all.new.devices in
    if_err (λ e. e.0 ≡ FullSlots → LacksSlots g.D.Disk c.args.caps.slots mid (made_of c.recovered.result)) (λ e. e.0 ≡ FullSlots → LacksSlots g.D.Disk c.args.caps.slots c.args.devices (made_of c.recovered.result)) c.recovered.result
    (λ e lacks told. lacks_before g.D.Disk c.args.caps.slots c.args.devices mid (made_of c.recovered.result) c.in-Ok.ensures.settled (lacks told)) (c.recovered.ensures.full_slots honest)
