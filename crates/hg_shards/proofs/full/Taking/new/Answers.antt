use Rattle.std.proofs.Common.{ℕ, List, [], replicate, sym, ap, ◌∙◌, subst}
use Rattle.hg_sets.specs.Interning.{Table}
use Rattle.hg_shards.specs.Asking.{HasSets}
use Rattle.hg_shards.specs.Together.{IsTaking}
use Rattle.hg_shards.proofs.Tables.{first_has}
use Rattle.hg_shards.proofs.Together.{begins_taking}
use Rattle.hg_shards.proofs.full.Taking.new.Goals as goal

pub returns-clause-none : goal.returns-clause-none
returns-clause-none c = λ shards many.
    subst (λ (taken : List ℕ). IsTaking c.args.limit shards taken c.in_ok-with_limit.field-0) (ap (λ n. replicate n 0) many ∙ sym (c.in_ok-vec.ensures.items_if_clones_equal (λ y h. h)))
    (begins_taking c.args.limit shards c.in_ok-with_limit.field-0
    (subst (λ (t : Table). HasSets c.args.limit [] t) (sym c.in_ok-with_limit.ensures.table) (first_has c.args.limit c.requires.least)))
