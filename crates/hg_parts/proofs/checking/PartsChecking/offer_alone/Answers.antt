use Rattle.std.proofs.Common.{[], ◌∷◌, refl}
use Rattle.hg_parts.specs.Stopping.{reading_at}
use Rattle.hg_parts.proofs.Taking.{takes_at_once, takes_pushed}
use Rattle.hg_parts.proofs.checking.PartsChecking.offer_alone.Goals as goal

pub returns-then-push : goal.returns-then-push
returns-then-push g c = takes_pushed c.args.self.now _ c.args.line c.args.event.now c.if-push.ensures.pushed refl refl refl refl

pub returns : goal.returns
returns g c =
    takes_at_once c.args.self.now _ (reading_at c.args.line c.args.event.now ∷ []) c.judge_line.result c.requires.settled c.judge_line.ensures.goes c.if-push.ensures.same refl refl refl c.judge_line.ensures.parts c.judge_line.ensures.memory
