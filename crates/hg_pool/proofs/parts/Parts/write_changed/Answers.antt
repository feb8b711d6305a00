use Rattle.std.proofs.Common.{rules, ◌≢◌, ◌∙◌, inl, inr, Result, Ok, Err, OnErr, sym, ap, subst}
use Rattle.std.proofs.lemmas.Result.{IfOk-from_err, err_from_is_err_and}
use Rattle.hg_model.specs.declared.verdict.Refusal.TheVariants.{Damaged}
use Rattle.hg_pages.specs.declared.fault.WriteFault.{WriteFault}
use Rattle.hg_pages.specs.declared.fault.WriteFault.TheVariants as of_write
use Rattle.hg_pages.specs.Fault.{write_refusal}
use Rattle.hg_pages.specs.Tables.{IsNamed}
use Rattle.hg_pool.specs.declared.parts.Parts.{Parts}
use Rattle.hg_pool.specs.Maps.{bytes_of, frame_in}
use Rattle.hg_pool.specs.Sound.{IsSound, shown_of}
use Rattle.hg_pool.specs.Calls.{MayChange}
use Rattle.hg_pool.proofs.Stepping.{cells_on, cells_same, stays_nowhere, stays_on}
use Rattle.hg_pool.proofs.Writing.{stands}
use Rattle.hg_pool.proofs.parts.Parts.write_changed.Goals as goal

-- what holds after both outcomes
on_err : {T E : Type 0} (r : Result T E) {P : Type 0} → P → OnErr r P
on_err (Ok value) is = tt
on_err (Err error) is = is

-- no write finds damage
write_undamaged : (fault : WriteFault) → write_refusal fault ≢ Damaged
write_undamaged of_write.DeviceFault e = cc
write_undamaged of_write.Broken e = cc

pub returns-in_err-write_unnamed-clause-stays : goal.returns-in_err-write_unnamed-clause-stays
returns-in_err-write_unnamed-clause-stays g c =
    stays_on g.D.Disk (shown_of c.args.self.now) (shown_of c.reserve_live.new.self) (shown_of c.write_unnamed.new.self) c.reserve_live.ensures.stays c.write_unnamed.ensures.writes.stays

pub move_live-requires-clause-stands : goal.move_live-requires-clause-stands
move_live-requires-clause-stands g c f is =
    let here = sym (ap (λ (x : Parts g.row.D.Denot). frame_in x.frames.entries c.args.page) (c.write_unnamed.ensures.rest ∙ (λ i. record (c.reserve_live.ensures.rest i) { file = c.write_unnamed.new.self.file }))) ∙ is in
    stands c.args.slot c.args.page f.cells c.in_ok-encoded.encoded.bytes (bytes_of g.D.Disk (shown_of c.write_unnamed.new.self)) (c.in_ok-encoded.ensures.slot f here) c.in_ok-write_unnamed.ensures.written

pub move_live-requires-clause-unpicked : goal.move_live-requires-clause-unpicked
move_live-requires-clause-unpicked g c named =
    let same = ap (λ (x : Parts g.row.D.Denot). x.waiting.entries) (c.write_unnamed.ensures.rest ∙ (λ i. record (c.reserve_live.ensures.rest i) { file = c.write_unnamed.new.self.file })) in
    c.requires.free (inr (inr (inr (subst (λ es. IsNamed es c.args.slot) same named))))

pub returns-clause-stays : goal.returns-clause-stays
returns-clause-stays g c =
    stays_on g.D.Disk (shown_of c.args.self.now) (shown_of c.reserve_live.new.self) (shown_of c.move_live.new.self) c.reserve_live.ensures.stays
    (stays_on g.D.Disk (shown_of c.reserve_live.new.self) (shown_of c.write_unnamed.new.self) (shown_of c.move_live.new.self) c.write_unnamed.ensures.writes.stays c.move_live.ensures.stays)

pub returns-clause-cells : goal.returns-clause-cells
returns-clause-cells g c =
    let same = ap (λ (x : Parts g.row.D.Denot). x.frames.entries) c.write_unnamed.ensures.rest ∙ ap (λ (x : Parts g.row.D.Denot). x.frames.entries) c.reserve_live.ensures.rest in
    cells_on c.args.self.now.frames.entries c.write_unnamed.new.self.frames.entries c.move_live.new.self.frames.entries (cells_same c.args.self.now.frames.entries c.write_unnamed.new.self.frames.entries same) c.move_live.ensures.cells

pub returns-in_err-write_unnamed-clause-cells : goal.returns-in_err-write_unnamed-clause-cells
returns-in_err-write_unnamed-clause-cells g c =
    let same = ap (λ (x : Parts g.row.D.Denot). x.frames.entries) c.write_unnamed.ensures.rest ∙ ap (λ (x : Parts g.row.D.Denot). x.frames.entries) c.reserve_live.ensures.rest in
    cells_same c.args.self.now.frames.entries c.write_unnamed.new.self.frames.entries same

pub returns-in_err-reserve_live-clause-cells : goal.returns-in_err-reserve_live-clause-cells
returns-in_err-reserve_live-clause-cells g c = cells_same c.args.self.now.frames.entries c.reserve_live.new.self.frames.entries (ap (λ (x : Parts g.row.D.Denot). x.frames.entries) c.reserve_live.ensures.rest)

pub write_unnamed-requires-clause-not_live : goal.write_unnamed-requires-clause-not_live
write_unnamed-requires-clause-not_live g c named = c.requires.free (inr (inr (inl (subst (λ es. IsNamed es c.args.slot) c.reserve_live.ensures.entries named))))

pub move_live-requires-clause-settled : goal.move_live-requires-clause-settled
move_live-requires-clause-settled g c =
    subst (λ (x : Parts g.row.D.Denot). MayChange (shown_of x) c.args.page) (sym c.write_unnamed.ensures.rest)
    (subst (λ (x : Parts g.row.D.Denot). MayChange (shown_of x) c.args.page) (sym c.reserve_live.ensures.rest) c.requires.settled)

pub returns-in_err-encoded-clause-stays : goal.returns-in_err-encoded-clause-stays
returns-in_err-encoded-clause-stays g c = stays_nowhere g.D.Disk (shown_of c.args.self.now)

pub returns-in_err-reserve_live-clause-clean : goal.returns-in_err-reserve_live-clause-clean
returns-in_err-reserve_live-clause-clean g c = IfOk-from_err c.from_residual-in_err-reserve_live.result _ c.from_residual-in_err-reserve_live.ensures.0

pub returns-in_err-reserve_live-clause-slots : goal.returns-in_err-reserve_live-clause-slots
returns-in_err-reserve_live-clause-slots g c = IfOk-from_err c.from_residual-in_err-reserve_live.result _ c.from_residual-in_err-reserve_live.ensures.0

pub returns-in_err-reserve_live-clause-refused : goal.returns-in_err-reserve_live-clause-refused
returns-in_err-reserve_live-clause-refused g c = on_err c.from_residual-in_err-reserve_live.result c.reserve_live.ensures.entries

pub returns-in_err-encoded-clause-clean : goal.returns-in_err-encoded-clause-clean
returns-in_err-encoded-clause-clean g c = IfOk-from_err c.from_residual.result _ c.from_residual.ensures.0

pub returns-in_err-encoded-clause-slots : goal.returns-in_err-encoded-clause-slots
returns-in_err-encoded-clause-slots g c = IfOk-from_err c.from_residual.result _ c.from_residual.ensures.0

pub returns-in_err-reserve_live-clause-refusal : goal.returns-in_err-reserve_live-clause-refusal
returns-in_err-reserve_live-clause-refusal g c =
    let p = err_from_is_err_and c.from_residual-in_err-reserve_live.result c.from_residual-in_err-reserve_live.ensures.1 in
    rw (p.1, p.2, c.in_err-reserve_live.ensures.refusal) tt

pub returns-in_err-encoded-clause-refusal : goal.returns-in_err-encoded-clause-refusal
returns-in_err-encoded-clause-refusal g c =
    let p = err_from_is_err_and c.from_residual.result c.from_residual.ensures.1 in
    rw (p.1, p.2) tt

pub returns-in_err-write_unnamed-clause-sound : goal.returns-in_err-write_unnamed-clause-sound
returns-in_err-write_unnamed-clause-sound g c = subst (λ (x : Parts g.row.D.Denot). IsSound x) (sym c.write_unnamed.ensures.rest) c.reserve_live.ensures.sound

pub returns-in_err-write_unnamed-clause-refusal : goal.returns-in_err-write_unnamed-clause-refusal
returns-in_err-write_unnamed-clause-refusal g c = search rules

pub returns-in_err-write_unnamed-clause-device : goal.returns-in_err-write_unnamed-clause-device
returns-in_err-write_unnamed-clause-device g c = search rules

pub move_live-requires-clause-sound : goal.move_live-requires-clause-sound
move_live-requires-clause-sound g c = subst (λ (x : Parts g.row.D.Denot). IsSound x) (sym c.write_unnamed.ensures.rest) c.reserve_live.ensures.sound

pub returns-clause-rest : goal.returns-clause-rest
returns-clause-rest g c =
    let m = c.move_live.new.self in
    (λ i. record (c.move_live.ensures.rest i) { file = m.file; live = m.live; frames = m.frames })
    ∙ (λ i. record (c.write_unnamed.ensures.rest i) { file = m.file; live = m.live; frames = m.frames })
    ∙ (λ i. record (c.reserve_live.ensures.rest i) { file = m.file; live = m.live; frames = m.frames })

pub returns-in_err-write_unnamed-clause-undamaged : goal.returns-in_err-write_unnamed-clause-undamaged
returns-in_err-write_unnamed-clause-undamaged g c =
    let p = err_from_is_err_and c.from_residual-in_err-write_unnamed.result c.from_residual-in_err-write_unnamed.ensures.1 in
    rw (p.1, p.2) (write_undamaged c.in_err-write_unnamed.field-0.0)
