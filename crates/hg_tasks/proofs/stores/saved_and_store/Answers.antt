use Rattle.hg_store.proofs.Refusals.{is_not_opened}
use Rattle.hg_tasks.proofs.Beginning.{not_opened, not_saved, were_read}
use Rattle.hg_tasks.proofs.stores.saved_and_store.Goals as goal

pub returns-in-Err-clause-cause : goal.returns-in-Err-clause-cause
returns-in-Err-clause-cause g c =
    let e = c.in-Err.ensures in
    not_saved g.D.Disk c.args.devices c.in-Err.disks e.slots e.first e.second c.devices_with.result c.in-Err.refusal e.refusal e.damaged e.device c.devices_with.ensures

pub returns-in-Ok-recover-clause-saved : goal.returns-in-Ok-recover-clause-saved
returns-in-Ok-recover-clause-saved g c =
    let e = c.in-Ok.ensures in
    record {
      read = c.devices_with-devices.result;
      were_read = were_read g.D.Disk c.args.devices c.in-Ok.found.1 e.slots e.first e.second c.devices_with-devices.result c.devices_with-devices.ensures;
      saved = e.content;
      recovered = c.in-Ok-recover.ensures.content;
    }

pub returns-in-Err-recover-clause-cause : goal.returns-in-Err-recover-clause-cause
returns-in-Err-recover-clause-cause g c =
    let e = c.in-Ok.ensures in
    let r = c.in-Err-recover.ensures in
    let refused = c.in-Err-recover.refused in
    not_opened g.D.Disk c.args.devices c.in-Ok.found.1 e.slots e.first e.second refused.1 refused.0 c.devices_with-devices.result c.devices_with-devices.ensures e.device
    (is_not_opened g.D.Disk c.devices_with-devices.result refused.1 refused.0 c.profile.result c.profile.ensures r.refusal r.damaged r.full r.full_slots r.device r.files)
