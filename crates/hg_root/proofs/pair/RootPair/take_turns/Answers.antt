use Rattle.std.proofs.Common.{◌∙◌, Bool, Some, subst, sym, refl}
use Rattle.hg_gate.specs.Gated.{Rests}
use Rattle.hg_root.specs.Pairs.{IsKnown}
use Rattle.hg_root.proofs.pair.RootPair.take_turns.Goals as goal

pub returns-clause-stands : goal.returns-clause-stands
returns-clause-stands g c root next opened = record {
  older_file = opened.newer_file;
  newer_file = opened.older_file;
  older_rests = subst (λ f. Rests g.D.Disk f opened.newer_file) (sym c.swap.ensures.x_after) opened.newer_rests;
  newer_rests = subst (λ f. Rests g.D.Disk f opened.older_file) (sym c.swap.ensures.y_after) opened.older_rests;
  below = opened.below;
  older_has = opened.newer_has;
  newer_has = opened.older_has;
  known = subst (λ (b : Bool). IsKnown b root) (sym c.swap-2.ensures.x_after) opened.newer_known;
  newer_known = subst (λ (b : Bool). IsKnown b (Some next)) (sym (c.swap-2.ensures.y_after ∙ opened.opened)) (next, refl);
}
