use Rattle.std.proofs.Common.{List, ℕ, sym, ap, ◌∙◌}
use Rattle.hg_model.specs.Sets.{common}
use Rattle.hg_sets.specs.Interning.{set_at}
use Rattle.hg_sets.proofs.Remembering.{common-subset}
use Rattle.hg_detect.proofs.engine.Engine.keeps_sets.Goals as goal

pub returns-then-remembers_member-clause-locks : goal.returns-then-remembers_member-clause-locks
returns-then-remembers_member-clause-locks g c = λ all.
    let set = set_at c.args.self.now.sets.sets c.args.locks in
    ap (λ (locks : List ℕ). common set locks) (sym c.counted.ensures.value) ∙ common-subset set c.counted.result.now (sym c.is_subset.ensures ∙ all)
