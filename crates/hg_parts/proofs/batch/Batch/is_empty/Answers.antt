use Rattle.std.proofs.Common.{◌∙◌, sym, eqb-true}
use Rattle.hg_parts.proofs.Numbers.{no_readings, placed_last}
use Rattle.hg_parts.proofs.batch.Batch.is_empty.Goals as goal

pub returns : goal.returns
returns c is =
    let b = c.args.self.now in
    no_readings b.lines (sym (placed_last b.routes b.lines b.routed) ∙ sym c.count.ensures ∙ eqb-true c.count.result 0 is)
