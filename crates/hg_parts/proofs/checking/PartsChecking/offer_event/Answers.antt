use Rattle.std.proofs.Common.{[], ◌∷◌, refl, subst}
use Rattle.hg_parts.specs.declared.batch.Batch.{Batch}
use Rattle.hg_parts.specs.Stopping.{reading_at}
use Rattle.hg_parts.specs.Taking.{TakesQuietly}
use Rattle.hg_parts.proofs.Taking.{takes_pushed}
use Rattle.hg_parts.proofs.checking.PartsChecking.offer_event.Goals as goal

pub returns-then-push : goal.returns-then-push
returns-then-push g c = takes_pushed c.args.self.now _ c.args.line c.args.event.now c.if-push.ensures.pushed refl refl refl refl

pub returns : goal.returns
returns g c =
    subst (λ (b : Batch). TakesQuietly (record c.args.self.now { buffer = b }) (reading_at c.args.line c.args.event.now ∷ []) c.offer_behind.result c.offer_behind.new.self) c.if-push.ensures.same c.offer_behind.ensures
