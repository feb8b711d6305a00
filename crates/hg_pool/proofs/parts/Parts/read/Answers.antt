use Rattle.std.proofs.Common.{rules, ◌≡◌, ◌∙◌, ℕ, List, Option, None, Some, Err, length, get_or, sym, ap, subst}
use Rattle.std.proofs.lemmas.Result.{err_from_is_err_and}
use Rattle.hg_cells.specs.declared.cell.Cell.{Cell}
use Rattle.hg_cells.specs.declared.cell.Cell.TheVariants.{New}
use Rattle.hg_cells.specs.Cells.{IsWithin}
use Rattle.hg_pages.specs.Files as files
use Rattle.hg_pages.specs.Tables.{slot_in}
use Rattle.hg_pool.specs.Maps.{bytes_of, disk_of, in_slot}
use Rattle.hg_pool.specs.Sound.{shown_of}
use Rattle.hg_pool.proofs.Breaking.{more_after}
use Rattle.hg_pool.proofs.FromSlots.{cells_within, new_cells, new_within, no_damage, read_there, stands_there, stays_read, whole_before}
use Rattle.hg_pool.proofs.parts.Parts.read.Goals as goal

pub returns-in-None-clause-cells : goal.returns-in-None-clause-cells
returns-in-None-clause-cells g c h i lt =
    let p = c.args.self.now in
    let none : slot_in p.live.entries c.args.page ≡ None = search rules in
    ap (λ (l : List Cell). get_or l i New) c.requires.new ∙ new_cells 256 i ∙ sym (ap (λ (o : Option ℕ). in_slot (bytes_of g.D.Disk (shown_of p)) o i) none)

pub returns-in-None-clause-named : goal.returns-in-None-clause-named
returns-in-None-clause-named g c i =
    subst (λ (l : List Cell). IsWithin c.args.segments (length c.args.sets.now.sets) (get_or l i New)) (sym c.requires.new) (new_within 256 c.args.segments (length c.args.sets.now.sets) i)

pub returns-in_ok-read_page-in-Some-clause-stays : goal.returns-in_ok-read_page-in-Some-clause-stays
returns-in_ok-read_page-in-Some-clause-stays g c = stays_read g.D.Disk (shown_of c.args.self.now) c.read_page.new.self c.read_page.ensures.stays.any_moment c.read_page.ensures.stays.works (more_after c.read_page.result (g.D.Disk.failures (disk_of (shown_of c.args.self.now))) (g.D.Disk.failures (files.disk_of c.read_page.new.self)) c.read_page.ensures.device) c.read_page.ensures.stays.known

pub returns-in_err-read_page-in-Some-clause-stays : goal.returns-in_err-read_page-in-Some-clause-stays
returns-in_err-read_page-in-Some-clause-stays g c = stays_read g.D.Disk (shown_of c.args.self.now) c.read_page.new.self c.read_page.ensures.stays.any_moment c.read_page.ensures.stays.works (more_after c.read_page.result (g.D.Disk.failures (disk_of (shown_of c.args.self.now))) (g.D.Disk.failures (files.disk_of c.read_page.new.self)) c.read_page.ensures.device) c.read_page.ensures.stays.known

pub returns-in_ok-read_page-in-Some-clause-cells : goal.returns-in_ok-read_page-in-Some-clause-cells
returns-in_ok-read_page-in-Some-clause-cells g c h i lt =
    let p = c.args.self.now in
    let some : slot_in p.live.entries c.args.page ≡ Some c.in-Some.slot = search rules in
    let was = whole_before g.D.Disk (shown_of p) c.read_page.new.self c.read_page.ensures.stays.known h in
    read_there g.D.Disk (shown_of p) c.args.page c.in-Some.slot i c.read_page.new.cells c.args.segments c.args.sets.now.sets (bytes_of g.D.Disk (record (shown_of p) { file = c.read_page.new.self })) lt some c.read_page.ensures.stays.known (c.in_ok-read_page-in-Some.ensures.read (g.met.D.Disk.honest_reads was.honest c.read_page.new.self.disk))

pub returns-in_err-read_page-in-Some-clause-whole : goal.returns-in_err-read_page-in-Some-clause-whole
returns-in_err-read_page-in-Some-clause-whole g c h known =
    let p = c.args.self.now in
    let refused = err_from_is_err_and c.from_residual.result c.from_residual.ensures.1 in
    let some : slot_in p.live.entries c.args.page ≡ Some c.in-Some.slot = search rules in
    rw (refused.1, refused.2)
    (no_damage _ (λ damaged. stands_there g.D.Disk (shown_of p) c.args.page c.in-Some.slot c.args.segments c.args.sets.now.sets h some known (c.read_page.ensures.damaged (g.met.D.Disk.honest_reads h.honest c.read_page.new.self.disk) (c.in_err-read_page-in-Some.was ∙ ap Err damaged))))

pub returns-in_ok-read_page-in-Some-clause-named : goal.returns-in_ok-read_page-in-Some-clause-named
returns-in_ok-read_page-in-Some-clause-named g c =
    cells_within c.args.segments c.args.sets.now.sets c.read_page.new.cells c.in_ok-read_page-in-Some.ensures.named
