use Rattle.std.proofs.Common.{ℕ, subst, sym}
use Rattle.hg_gate.specs.Batches.{IsLog, base_front}
use Rattle.hg_gate.proofs.Basing.{same_base}
use Rattle.hg_gate.proofs.Grammar as grammar
use Rattle.hg_gate.proofs.laws.one_base.Goals as goal

pub returns : goal.returns
returns c = λ bytes base other bodies others one two.
    let same = same_base base other bytes bodies others one two in
    (same, grammar.one_reading (base_front base) bytes bodies others one.1 (subst (λ (n : ℕ). IsLog (base_front n) bytes others) (sym same) two.1))
