use Rattle.std.proofs.Common.{◌≡◌, Err, arith}
use Rattle.hg_pages.specs.Files.{known}
use Rattle.hg_pages.specs.Slots.{slot_text}
use Rattle.hg_pages.specs.declared.fault.SlotFault.TheVariants.{Damaged}
use Rattle.hg_pages.proofs.Keeping.{has_none, has_page}
use Rattle.hg_pages.proofs.Runs.{one_outside, one_slot}
use Rattle.hg_pages.proofs.slot_file.SlotFile.read_page.Goals as goal

pub returns-clause-read : goal.returns-clause-read
returns-clause-read g c honest =
    let is = c.decode_into.ensures.yes c.if-not-decode_into.false in
    has_page (known g.D.Disk c.args.self.now) c.fill.new.bytes c.args.segments c.args.slot c.args.page c.args.sets.now.sets c.decode_into.new.cells (one_slot c.args.slot c.fill.new.bytes (known g.D.Disk c.args.self.now) c.fill.ensures.length (c.in_ok-fill.ensures.read honest)) is.0 is.1

pub returns-then-not-decode_into-clause-damaged : goal.returns-then-not-decode_into-clause-damaged
returns-then-not-decode_into-clause-damaged g c honest told =
    has_none (known g.D.Disk c.args.self.now) c.fill.new.bytes c.args.segments c.args.slot c.args.page c.args.sets.now.sets (one_slot c.args.slot c.fill.new.bytes (known g.D.Disk c.args.self.now) c.fill.ensures.length (c.in_ok-fill.ensures.read honest)) (c.decode_into.ensures.no c.if-not-decode_into.true)

pub returns-in_err-fill-clause-damaged : goal.returns-in_err-fill-clause-damaged
returns-in_err-fill-clause-damaged g c honest told cells has =
    let same : c.in_err-fill.field-0.0 ≡ Damaged = grind arith in
    one_outside c.args.slot (known g.D.Disk c.args.self.now) (c.in_err-fill.ensures.damaged (λ i. Err (same i))) (slot_text c.args.page cells) has.stands.bytes
