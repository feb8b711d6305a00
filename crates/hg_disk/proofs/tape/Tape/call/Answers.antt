use Rattle.std.proofs.Common.{◌≡◌, ◌≤◌, ◌+◌, ◌-◌, length, refl, ap, ◌∙◌, arith}
use Rattle.hg_disk.specs.Len.{len_written}
use Rattle.hg_disk.specs.Tape.{kept}
use Rattle.hg_disk.proofs.Calling.{reads}
use Rattle.hg_disk.proofs.tape.Tape.call.Goals as goal

pub overflow_add-end : goal.overflow_add-end
overflow_add-end c =
    let tape = c.args.self.now in
    let told = c.index-told.result.now in
    let read = reads (kept tape.history.events) tape.calls.items tape.written.items c.args.i c.args.from _ told tape.calls_kept tape.bytes_kept tape.all_fit c.requires.there c.requires.from c.index-told.ensures refl in
    omega (arith, read.within, c.len_written.ensures, tape.written.ok, tape.written.small)

pub slice_bounds-result-end : goal.slice_bounds-result-end
slice_bounds-result-end c =
    let tape = c.args.self.now in
    let told = c.index-told.result.now in
    let read = reads (kept tape.history.events) tape.calls.items tape.written.items c.args.i c.args.from _ told tape.calls_kept tape.bytes_kept tape.all_fit c.requires.there c.requires.from c.index-told.ensures refl in
    let within : c.args.from + c.len_written.result ≤ length c.deref.result.now = omega (arith, read.within, c.len_written.ensures, ap length c.deref.ensures.value) in
    omega (arith, within)

pub returns-clause-next : goal.returns-clause-next
returns-clause-next c =
    let tape = c.args.self.now in
    let told = c.index-told.result.now in
    let n : c.args.from + c.len_written.result - c.args.from ≡ len_written told.call told.answer = omega (arith, c.len_written.ensures) in
    (reads (kept tape.history.events) tape.calls.items c.deref.result.now c.args.i c.args.from _ told tape.calls_kept (c.deref.ensures.value ∙ tape.bytes_kept) tape.all_fit c.requires.there c.requires.from c.index-told.ensures n).next_is

pub returns-clause-fits : goal.returns-clause-fits
returns-clause-fits c =
    let tape = c.args.self.now in
    let told = c.index-told.result.now in
    let n : c.args.from + c.len_written.result - c.args.from ≡ len_written told.call told.answer = omega (arith, c.len_written.ensures) in
    (reads (kept tape.history.events) tape.calls.items c.deref.result.now c.args.i c.args.from _ told tape.calls_kept (c.deref.ensures.value ∙ tape.bytes_kept) tape.all_fit c.requires.there c.requires.from c.index-told.ensures n).fits
