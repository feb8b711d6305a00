use Rattle.std.proofs.Common.{Err, sym, ap}
use Rattle.hg_model.specs.declared.verdict.Refusal.{Refusal}
use Rattle.hg_detect.specs.Memory.{content_of}
use Rattle.hg_pages.specs.Files.{disk_of}
use Rattle.hg_root.specs.Pairs.{first_of, second_of}
use Rattle.hg_saved.proofs.Contents.{reads_alike, saved_alike, stands_alike, true_alike}
use Rattle.hg_saved.proofs.saved.saved_detector.Goals as goal

pub returns-in-Ok-clause-calls : goal.returns-in-Ok-clause-calls
returns-in-Ok-clause-calls g c honest =
    let disks = c.args.disks in
    let roots = c.attach-roots.result in
    reads_alike g.D.Disk (first_of roots) disks.root0 (second_of roots) disks.root1 (disk_of c.attach-file.result) disks.slots (disk_of c.saved_in.new.file) c.disks_of.result.slots
    c.attach-roots.ensures.first c.attach-roots.ensures.second c.attach-file.ensures.disk (sym c.disks_of.ensures.slots) (c.saved_in.ensures.calls (true_alike g.D.Disk c.disks_of.result c.saved_in.new.roots c.saved_in.new.file c.disks_of.ensures.first c.disks_of.ensures.second c.disks_of.ensures.slots honest))

pub returns-in-Err-clause-damaged : goal.returns-in-Err-clause-damaged
returns-in-Err-clause-damaged g c honest told cp has =
    let disks = c.args.disks in
    let roots = c.attach-roots.result in
    c.in-Err.ensures.damaged (true_alike g.D.Disk c.disks_of-in-Err.result c.saved_in.new.roots c.saved_in.new.file c.disks_of-in-Err.ensures.first c.disks_of-in-Err.ensures.second c.disks_of-in-Err.ensures.slots honest) (ap (λ (r : Refusal). Err r) told) cp
    (stands_alike g.D.Disk cp disks.root0 (first_of roots) disks.root1 (second_of roots) disks.slots (disk_of c.attach-file.result)
    (sym c.attach-roots.ensures.first) (sym c.attach-roots.ensures.second) (sym c.attach-file.ensures.disk) has)

pub returns-in-Err-clause-calls : goal.returns-in-Err-clause-calls
returns-in-Err-clause-calls g c honest =
    let disks = c.args.disks in
    let roots = c.attach-roots.result in
    reads_alike g.D.Disk (first_of roots) disks.root0 (second_of roots) disks.root1 (disk_of c.attach-file.result) disks.slots (disk_of c.saved_in.new.file) c.disks_of-in-Err.result.slots
    c.attach-roots.ensures.first c.attach-roots.ensures.second c.attach-file.ensures.disk (sym c.disks_of-in-Err.ensures.slots) (c.saved_in.ensures.calls (true_alike g.D.Disk c.disks_of-in-Err.result c.saved_in.new.roots c.saved_in.new.file c.disks_of-in-Err.ensures.first c.disks_of-in-Err.ensures.second c.disks_of-in-Err.ensures.slots honest))

pub returns-in-Ok-clause-content : goal.returns-in-Ok-clause-content
returns-in-Ok-clause-content g c honest =
    let disks = c.args.disks in
    let roots = c.attach-roots.result in
    saved_alike g.D.Disk (content_of c.in-Ok.detector) (first_of roots) disks.root0 (second_of roots) disks.root1 (disk_of c.attach-file.result) disks.slots
    c.attach-roots.ensures.first c.attach-roots.ensures.second c.attach-file.ensures.disk (c.in-Ok.ensures.content (true_alike g.D.Disk c.disks_of.result c.saved_in.new.roots c.saved_in.new.file c.disks_of.ensures.first c.disks_of.ensures.second c.disks_of.ensures.slots honest))
