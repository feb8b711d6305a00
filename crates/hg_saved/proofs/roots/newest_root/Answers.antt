use Rattle.std.proofs.Common.{rules}
use Rattle.hg_root.specs.Checkpoints.{LieWithin, root_of}
use Rattle.hg_root.specs.Finding.{root_in}
use Rattle.hg_root.specs.Pairs.{first_bytes, second_bytes}
use Rattle.hg_root.proofs.Choosing.{newest_of}
use Rattle.hg_pages.specs.Files as files
use Rattle.hg_recovery.proofs.Rooting.{of_former}
use Rattle.hg_saved.proofs.roots.newest_root.Goals as goal

pub returns-in_err-root-clause-damaged : goal.returns-in_err-root-clause-damaged
returns-in_err-root-clause-damaged g c honest told cp is = c.in_err-root.ensures.damaged honest (search rules) (root_of cp) is.former is.newest

pub returns-then-not-lie_within-clause-damaged : goal.returns-then-not-lie_within-clause-damaged
returns-then-not-lie_within-clause-damaged g c honest told cp is =
    let slots = (g.D.Disk.state (files.disk_of c.args.file.now)).contents in
    let only = c.in_ok-root.ensures.only honest (root_of cp) is.former is.newest in
    let yes = c.lie_within.ensures.1 (of_former (root_in c.in_ok-root.field-0.former) is.former (LieWithin slots) only.1 is.stand.1) in
    absurd (search rules)

pub returns-clause-only : goal.returns-clause-only
returns-clause-only g c honest root former is = (c.in_ok-root.ensures.only honest root former is).0

pub returns-clause-found : goal.returns-clause-found
returns-clause-found g c honest =
    let found = c.in_ok-root.field-0 in
    let old = c.args.roots.now in
    (root_in found.former, newest_of found (first_bytes g.D.Disk old) (second_bytes g.D.Disk old) (c.in_ok-root.ensures.found honest), c.lie_within.ensures.0 (search rules))
