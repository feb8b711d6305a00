use Rattle.std.proofs.Common.{◌≡◌, length, if◌then◌else◌, max, ◌+◌, ◌*◌, ℕ, List, ap, is_err, sym, ◌∙◌, subst, arith}
use Rattle.hg_disk.specs.State.{DiskState, overwritten}
use Rattle.hg_pages.specs.Slots.{HasBytes}
use Rattle.hg_pages.proofs.Keeping.{as_known, known_now, length_written, as_read, write_keeps, write_long, written_slot, read_elsewhere, was_ok}
use Rattle.hg_pages.proofs.slot_file.SlotFile.write.Goals as goal

pub returns-in_err-written-clause-any_moment : goal.returns-in_err-written-clause-any_moment
returns-in_err-written-clause-any_moment g c other bytes apart leaves =
    write_keeps g.D.Disk g.met.D.Disk.has_its_bytes c.args.self.now.disk c.write_at-written.new.self c.args.slot other (c.args.slot * 3080) c.bytes.result.now bytes c.write_at-written.result (omega arith) c.bytes.ensures.length apart
    c.write_at-written.ensures.ok c.write_at-written.ensures.err c.write_at-written.ensures.clock c.write_at-written.ensures.kept leaves

pub returns-clause-any_moment : goal.returns-clause-any_moment
returns-clause-any_moment g c other bytes apart leaves =
    write_keeps g.D.Disk g.met.D.Disk.has_its_bytes c.args.self.now.disk c.write_at-written.new.self c.args.slot other (c.args.slot * 3080) c.bytes.result.now bytes c.write_at-written.result (omega arith) c.bytes.ensures.length apart
    c.write_at-written.ensures.ok c.write_at-written.ensures.err c.write_at-written.ensures.clock c.write_at-written.ensures.kept leaves

pub returns-clause-written : goal.returns-clause-written
returns-clause-written g c =
    let is = was_ok c.write_at-written.result c.in_ok-written.field-0 c.in_ok-written.was c.write_at-written.ensures.ok in
    as_known (HasBytes c.args.slot c.args.page.now.bytes) c.is_err-self.result (g.D.Disk.state c.of.result.value).contents (g.D.Disk.state c.write_at-written.new.self).contents (c.is_err-self.ensures.value ∙ ap is_err c.in_ok-written.was)
    (subst (λ (s : DiskState). HasBytes c.args.slot c.args.page.now.bytes s.contents) (sym is)
    (subst (λ (l : List ℕ). HasBytes c.args.slot l (overwritten (g.D.Disk.state c.args.self.now.disk).contents (c.args.slot * 3080) c.bytes.result.now)) c.bytes.ensures.bytes
    (written_slot (g.D.Disk.state c.args.self.now.disk).contents c.args.slot (c.args.slot * 3080) c.bytes.result.now (omega arith) c.bytes.ensures.length)))

pub returns-clause-others : goal.returns-clause-others
returns-clause-others g c other bytes apart was =
    let is = was_ok c.write_at-written.result c.in_ok-written.field-0 c.in_ok-written.was c.write_at-written.ensures.ok in
    let old = (g.D.Disk.state c.args.self.now.disk).contents in
    as_known (HasBytes other bytes) c.is_err-self.result (g.D.Disk.state c.of.result.value).contents (g.D.Disk.state c.write_at-written.new.self).contents (c.is_err-self.ensures.value ∙ ap is_err c.in_ok-written.was)
    (subst (λ (s : DiskState). HasBytes other bytes s.contents) (sym is)
    (read_elsewhere old c.args.slot other (c.args.slot * 3080) c.bytes.result.now bytes (omega arith) c.bytes.ensures.length apart
    (as_read (HasBytes other bytes) c.args.self.now.is_broken (g.D.Disk.state c.args.self.now.before.value).contents old c.if-self.false was)))

pub returns-in_err-written-clause-long : goal.returns-in_err-written-clause-long
returns-in_err-written-clause-long g c n leaves = write_long g.D.Disk c.args.self.now.disk c.write_at-written.new.self n (c.args.slot * 3080) c.bytes.result.now c.write_at-written.result c.write_at-written.ensures.ok c.write_at-written.ensures.err c.write_at-written.ensures.clock c.write_at-written.ensures.kept leaves

pub returns-clause-long : goal.returns-clause-long
returns-clause-long g c n leaves = write_long g.D.Disk c.args.self.now.disk c.write_at-written.new.self n (c.args.slot * 3080) c.bytes.result.now c.write_at-written.result c.write_at-written.ensures.ok c.write_at-written.ensures.err c.write_at-written.ensures.clock c.write_at-written.ensures.kept leaves

pub returns-clause-length : goal.returns-clause-length
returns-clause-length g c =
    let is = was_ok c.write_at-written.result c.in_ok-written.field-0 c.in_ok-written.was c.write_at-written.ensures.ok in
    let old = (g.D.Disk.state c.args.self.now.disk).contents in
    let was = known_now c.args.self.now.is_broken (g.D.Disk.state c.args.self.now.before.value).contents old c.if-self.false in
    as_known (λ (l : List ℕ). length l ≡ max (length (if c.args.self.now.is_broken then (g.D.Disk.state c.args.self.now.before.value).contents else old)) (3080 * c.args.slot + 3080))
    c.is_err-self.result (g.D.Disk.state c.of.result.value).contents (g.D.Disk.state c.write_at-written.new.self).contents (c.is_err-self.ensures.value ∙ ap is_err c.in_ok-written.was)
    (ap (λ (s : DiskState). length s.contents) is ∙ length_written old c.args.slot (c.args.slot * 3080) c.bytes.result.now (omega arith) c.bytes.ensures.length ∙ ap (λ (l : List ℕ). max (length l) (3080 * c.args.slot + 3080)) (sym was))
