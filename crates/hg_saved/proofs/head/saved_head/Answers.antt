use Rattle.std.proofs.Common.{Err, sym, ap}
use Rattle.hg_model.specs.declared.verdict.Refusal.{Refusal}
use Rattle.hg_pages.specs.Files.{disk_of}
use Rattle.hg_root.specs.Pairs.{first_of, second_of}
use Rattle.hg_saved.proofs.Contents.{stands_alike, true_alike}
use Rattle.hg_saved.proofs.Heads.{head_alike}
use Rattle.hg_saved.proofs.head.saved_head.Goals as goal

pub returns-in-Err-clause-damaged : goal.returns-in-Err-clause-damaged
returns-in-Err-clause-damaged g c honest told cp has =
    let disks = c.args.disks in
    let roots = c.attach-roots.result in
    c.in-Err.ensures.damaged (true_alike g.D.Disk c.disks_of-in-Err.result c.newest_head.new.roots c.attach-file.result c.disks_of-in-Err.ensures.first c.disks_of-in-Err.ensures.second c.disks_of-in-Err.ensures.slots honest).0 (ap (λ (r : Refusal). Err r) told) cp
    (stands_alike g.D.Disk cp disks.root0 (first_of roots) disks.root1 (second_of roots) disks.slots (disk_of c.attach-file.result)
    (sym c.attach-roots.ensures.first) (sym c.attach-roots.ensures.second) (sym c.attach-file.ensures.disk) has)

pub returns-in-Ok-clause-head : goal.returns-in-Ok-clause-head
returns-in-Ok-clause-head g c were =
    let disks = c.args.disks in
    let roots = c.attach-roots.result in
    let true_roots = true_alike g.D.Disk c.disks_of.result c.newest_head.new.roots c.attach-file.result c.disks_of.ensures.first c.disks_of.ensures.second c.disks_of.ensures.slots were in
    head_alike g.D.Disk c.in-Ok.head (first_of roots) disks.root0 (second_of roots) disks.root1 (disk_of c.attach-file.result) disks.slots
    c.attach-roots.ensures.first c.attach-roots.ensures.second c.attach-file.ensures.disk (c.in-Ok.ensures.head true_roots.0)
