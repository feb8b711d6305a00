use Rattle.std.proofs.Common.{refl, ◌∙◌, arith}
use Rattle.hg_parts.specs.declared.line.EventLine.{EventLine}
use Rattle.hg_parts.proofs.Numbers.{numbers_more, placed_last, routed_more}
use Rattle.hg_parts.proofs.batch.Batch.push.Goals as goal

pub invariant_of-self-then-self-line : goal.invariant_of-self-then-self-line
invariant_of-self-then-self-line c =
    let b = c.args.self.now in
    let l : EventLine = record { line = c.args.line; event = c.args.event.now } in
    let lt = c.if-self-line.true in
    record {
      fits = c.ranges.line.fits;
      routed = routed_more b.routes c.push.new.self b.lines c.push-2.new.self l c.if-not-push.ensures.pushes.1 b.routed c.push-2.ensures;
      numbered = numbers_more b.runs.items c.note.new.runs.items b.greatest c.args.line c.count-place.result c.args.line l b.lines c.push-2.new.self c.note.ensures (c.count-place.ensures ∙ placed_last b.routes b.lines b.routed) refl
          (omega (arith, lt)) (omega arith) b.numbered c.push-2.ensures;
    }

pub invariant_of-self-else-self-line : goal.invariant_of-self-else-self-line
invariant_of-self-else-self-line c =
    let b = c.args.self.now in
    let l : EventLine = record { line = c.args.line; event = c.args.event.now } in
    let ge = c.if-self-line.false in
    record {
      fits = b.fits;
      routed = routed_more b.routes c.push.new.self b.lines c.push-2.new.self l c.if-not-push.ensures.pushes.1 b.routed c.push-2.ensures;
      numbered = numbers_more b.runs.items c.note.new.runs.items b.greatest b.greatest c.count-place.result c.args.line l b.lines c.push-2.new.self c.note.ensures (c.count-place.ensures ∙ placed_last b.routes b.lines b.routed) refl
          (omega arith) (omega (arith, ge)) b.numbered c.push-2.ensures;
    }
