use Rattle.std.proofs.Common.{◌≤◌, length, refl, arith}
use Rattle.hg_root.specs.Grammar.{SetFits}
use Rattle.hg_root.proofs.Each.{each_all}
use Rattle.hg_checkpoint.proofs.fitting.sets_have_spellings.Goals as goal

pub returns-clause-each : goal.returns-clause-each
returns-clause-each c =
    let sets = c.args.sets.now.sets in
    let passed : length sets ≤ c.loop-id.id = omega (arith, c.loop-id-test.false, c.len-id-end.ensures.len) in
    (λ yes. each_all SetFits sets c.loop-id.id passed c.loop-id.invariant, λ all. refl)
