use Rattle.std.proofs.Common.{rules}
use Rattle.hg_pages.specs.Files.{disk_of}
use Rattle.hg_root.specs.Finding.{root_in}
use Rattle.hg_root.specs.Pairs.{first_bytes, second_bytes}
use Rattle.hg_saved.proofs.Heads.{head_within}
use Rattle.hg_saved.proofs.head.newest_head.Goals as goal

pub returns-in_err-found-clause-damaged : goal.returns-in_err-found-clause-damaged
returns-in_err-found-clause-damaged g c honest told = c.in_err-found.ensures.damaged honest (search rules)

pub returns-clause-head : goal.returns-clause-head
returns-clause-head g c honest =
    let roots = c.args.roots.now in
    let found = c.in_ok-found.ensures.found honest in
    head_within (first_bytes g.D.Disk roots) (second_bytes g.D.Disk roots) (g.D.Disk.state (disk_of c.args.file.now)).contents (root_in c.in_ok-found.found) found.0 c.head_in.result found.1 found.2 (c.in_ok-found.ensures.only honest) c.head_in.ensures.says
