use Rattle.std.proofs.Common.{refl}
use Rattle.hg_tasks.proofs.stores.explain_saved.Goals as goal

pub returns : goal.returns
returns g c = record {
  detector = c.in-Ok.found.0;
  store = c.in-Ok.found.1;
  saved = c.in-Ok.ensures.saved;
  streams = c.explain_behind_events-status.result.1;
  explains = c.explain_behind_events-status.ensures;
  left = (refl, refl);
}
