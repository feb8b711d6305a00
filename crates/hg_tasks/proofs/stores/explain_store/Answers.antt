use Rattle.std.proofs.Common.{arith, ◌∙◌, Some, ap, inl, inr, refl, subst, sym}
use Rattle.hg_commands.specs.Races.{FindsRace}
use Rattle.hg_tasks.specs.Explaining.{ExplainsSaved, IsAskedFor}
use Rattle.hg_tasks.proofs.stores.explain_store.Goals as goal
use Rattle.hg_tasks.proofs.stores.explain_store.Goals.{in-Word, in-Race+in-Ok-Some}

pub returns : goal.returns
returns g c = inl (record {
  whole = omega (arith, c.gone_of.ensures, c.if-gone_of-gt0.false);
  address = c.match-explaining.address;
  asked = elim c.match-explaining.branch [
    | in-Word w ↦ subst (λ x. IsAskedFor g.D.Disk x c.args.store (Some c.match-explaining.address)) (sym w.in-Word.is) (ap Some w.address-is)
    | in-Race+in-Ok-Some w ↦ subst (λ x. IsAskedFor g.D.Disk x c.args.store (Some c.match-explaining.address)) (sym w.in-Race.is)
        (subst (λ x. FindsRace g.D.Disk w.in-Race.number c.args.store x) (w.in-Ok-Some.field-0-is ∙ ap Some (sym w.address-is)) w.in-Ok-Some.ensures.found)
  ];
  streams = c.explain_events-status.result.1;
  explains = c.explain_events-status.ensures;
  left = (refl, refl);
})

pub returns-then-gone_of-gt0 : goal.returns-then-gone_of-gt0
returns-then-gone_of-gt0 g c = inr (inr (inl (
  omega (arith, c.gone_of.ensures, c.if-gone_of-gt0.true),
  (
    c.match-explaining.address,
    elim c.match-explaining.branch [
      | in-Word w ↦ subst (λ x. IsAskedFor g.D.Disk x c.args.store (Some c.match-explaining.address)) (sym w.in-Word.is) (ap Some w.address-is)
      | in-Race+in-Ok-Some w ↦ subst (λ x. IsAskedFor g.D.Disk x c.args.store (Some c.match-explaining.address)) (sym w.in-Race.is)
          (subst (λ x. FindsRace g.D.Disk w.in-Race.number c.args.store x) (w.in-Ok-Some.field-0-is ∙ ap Some (sym w.address-is)) w.in-Ok-Some.ensures.found)
    ],
    (
      _,
      subst (λ d. ExplainsSaved g.D.Disk d c.match-explaining.address c.args.explaining.all c.args.outputs (c.explain_saved-status.result.0, c.explain_saved-status.result.1) c.explain_saved-status.result.2) c.into_devices-devices.ensures
          c.explain_saved-status.ensures,
    ),
  ),
)))
