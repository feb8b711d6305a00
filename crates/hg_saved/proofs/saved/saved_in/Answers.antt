use Rattle.std.proofs.Common.{List, ℕ, rules, sym, ap, subst}
use Rattle.std.specs.Prelude.{OnOk}
use Rattle.hg_pages.specs.Files.{disk_of}
use Rattle.hg_root.specs.Finding.{root_in}
use Rattle.hg_root.specs.Pairs.{first_bytes, second_bytes}
use Rattle.hg_root.specs.Roots.{parts_of}
use Rattle.hg_checkpoint.specs.NamedPages.{HasPagesOf}
use Rattle.hg_saved.specs.Saved.{GivesContentOf}
use Rattle.hg_saved.proofs.Contents.{each_saved, known_is, none_saved, none_stands, reads_pages}
use Rattle.hg_saved.proofs.Numbers.{empty_is_numbered}
use Rattle.hg_saved.proofs.saved.saved_in.Goals as goal

pub returns-in_err-root-clause-damaged : goal.returns-in_err-root-clause-damaged
returns-in_err-root-clause-damaged g c honest told = c.in_err-root.ensures.damaged honest.0 (search rules)

pub returns-in-Some-clause-content : goal.returns-in-Some-clause-content
returns-in-Some-clause-content g c honest =
    let roots = c.args.roots.now in
    let file = c.args.file.now in
    let root = parts_of c.in-Some.root in
    let found = c.in_ok-root.ensures.found honest.0 in
    let at = known_is g.D.Disk file c.requires.file in
    each_saved (first_bytes g.D.Disk roots) (second_bytes g.D.Disk roots) (g.D.Disk.state (disk_of file)).contents root (root_in c.in_ok-root.field-0) found.0 c.detector_at.result (ap root_in c.in-Some.is) found.1 found.2
    (c.in_ok-root.ensures.only honest.0)
    (subst (λ (l : List ℕ). OnOk c.detector_at.result (HasPagesOf root l)) at (c.detector_at.ensures.stands honest.1))
    (subst (λ (l : List ℕ). GivesContentOf root l c.detector_at.result) at (c.detector_at.ensures.content honest.1))

pub returns-in-Some-clause-damaged : goal.returns-in-Some-clause-damaged
returns-in-Some-clause-damaged g c honest told =
    let roots = c.args.roots.now in
    let file = c.args.file.now in
    let root = parts_of c.in-Some.root in
    none_stands (first_bytes g.D.Disk roots) (second_bytes g.D.Disk roots) (g.D.Disk.state (disk_of file)).contents root (root_in c.in_ok-root.field-0) (ap root_in c.in-Some.is) (c.in_ok-root.ensures.only honest.0)
    (λ has. c.detector_at.ensures.damaged honest.1 told (subst (λ (l : List ℕ). HasPagesOf root l) (sym (known_is g.D.Disk file c.requires.file)) has))

pub returns-in-Some-clause-calls : goal.returns-in-Some-clause-calls
returns-in-Some-clause-calls g c honest =
    let roots = c.args.roots.now in
    reads_pages g.D.Disk (first_bytes g.D.Disk roots) (second_bytes g.D.Disk roots) (parts_of c.in-Some.root) (root_in c.in_ok-root.field-0) (disk_of c.args.file.now) (disk_of c.detector_at.new.file)
    (ap root_in c.in-Some.is) (c.in_ok-root.ensures.only honest.0) c.detector_at.ensures.read.calls

pub returns-in-None-clause-content : goal.returns-in-None-clause-content
returns-in-None-clause-content g c honest =
    let roots = c.args.roots.now in
    let found = c.in_ok-root.ensures.found honest.0 in
    none_saved (first_bytes g.D.Disk roots) (second_bytes g.D.Disk roots) (g.D.Disk.state (disk_of c.args.file.now)).contents (root_in c.in_ok-root.field-0) found.0 c.new_detector.result (ap root_in c.in-None.is) found.1 found.2
    (c.in_ok-root.ensures.only honest.0) c.new_detector.ensures.content

pub returns-in-None-clause-numbered : goal.returns-in-None-clause-numbered
returns-in-None-clause-numbered g c = empty_is_numbered c.new_detector.result c.new_detector.ensures.content
