use Rattle.std.proofs.Common.{sym, ◌∙◌}
use Rattle.std.proofs.lemmas.Bool.{leb-true}
use Rattle.hg_shards.proofs.Filling.{few_lem}
use Rattle.hg_shards.proofs.full.go_on.Goals as goal

pub returns-then-fit_together-clause-first : goal.returns-then-fit_together-clause-first
returns-then-fit_together-clause-first c = λ taken. few_lem c.args.limit c.args.parts.now (leb-true _ c.args.limit (sym c.fit_together.ensures ∙ c.if-fit_together.true))
