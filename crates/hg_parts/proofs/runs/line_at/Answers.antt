use Rattle.std.proofs.Common.{◌≡◌, ◌+◌, ◌-◌, ◌<◌, ◌^◌, slice_index_or, rules, arith, sym, ◌∙◌}
use Rattle.hg_parts.specs.Numbers.{number_at}
use Rattle.hg_parts.proofs.Numbers.{found_here, passed_over}
use Rattle.hg_parts.proofs.runs.line_at.Goals as goal

pub overflow_add-result : goal.overflow_add-result
overflow_add-result c =
    let some = c.loop-left-test.true in
    let is = c.from.ensures in
    let within = c.loop-left.invariant.0 in
    let low = c.requires in
    let here = found_here c.args.runs.now (record { place = 0; line = 0 }) c.loop-left.left (c.loop-left.left - 1) c.args.place (omega (arith, some)) (omega (arith, some, within)) c.if-run-place.true in
    let number : number_at c.args.runs.now c.args.place ≡ (slice_index_or c.args.runs.now (c.loop-left.left - 1) (record { place = 0; line = 0 })).line + (c.args.place - (slice_index_or c.args.runs.now (c.loop-left.left - 1) (record { place = 0; line = 0 })).place) = sym c.loop-left.invariant.1 ∙ here in
    let fits : (slice_index_or c.args.runs.now (c.loop-left.left - 1) (record { place = 0; line = 0 })).line + c.from.result < 2 ^ 64 = omega (arith, number, is, low) in
    search rules

pub returns-then-run-place : goal.returns-then-run-place
returns-then-run-place c =
    let some = c.loop-left-test.true in
    let is = c.from.ensures in
    let within = c.loop-left.invariant.0 in
    let here = found_here c.args.runs.now (record { place = 0; line = 0 }) c.loop-left.left (c.loop-left.left - 1) c.args.place (omega (arith, some)) (omega (arith, some, within)) c.if-run-place.true in
    let number : number_at c.args.runs.now c.args.place ≡ (slice_index_or c.args.runs.now (c.loop-left.left - 1) (record { place = 0; line = 0 })).line + (c.args.place - (slice_index_or c.args.runs.now (c.loop-left.left - 1) (record { place = 0; line = 0 })).place) = sym c.loop-left.invariant.1 ∙ here in
    omega (arith, number, is)

pub loop-left-preserved : goal.loop-left-preserved
loop-left-preserved c =
    let some = c.loop-left-test.true in
    let within = c.loop-left.invariant.0 in
    let behind = c.if-run-place.false in (
      omega (arith, within),
      sym (passed_over c.args.runs.now (record { place = 0; line = 0 }) c.loop-left.left (c.loop-left.left - 1) c.args.place (omega (arith, some)) (omega (arith, some, within)) (omega (arith, behind))) ∙ c.loop-left.invariant.1,
    )
