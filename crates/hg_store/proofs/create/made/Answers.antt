use Rattle.std.proofs.Common.{◌∙◌, false, ap, refl, sym}
use Rattle.hg_detect.specs.Shown as detect
use Rattle.hg_pool.specs.Shown as pool
use Rattle.std.specs.Prelude.{vec_capacity}
use Rattle.hg_model.specs.Parts as model
use Rattle.hg_store.specs.Kept.{Parts}
use Rattle.hg_store.proofs.Making.{fresh, sound}
use Rattle.hg_store.proofs.create.made.Goals as goal

pub invariant_of-result : goal.invariant_of-result
invariant_of-result g c =
    let s : Parts g.row.D.Denot g.D.Disk = record {
      journals = c.args.journals;
      detector = c.args.detector;
      checkpointer = c.args.checkpointer;
      committed = c.of-committed.result.value;
      frozen = c.of-frozen.result.value;
      pending = c.args.pending.items;
      durable = c.events-durable.result;
      counted = c.args.counted;
      counting = c.events-durable.result;
      is_broken = false;
      in_doubt = false;
    } in
    sound g.D.Disk s (vec_capacity c.args.pending) (record {
      committed = c.of-committed.ensures;
      pending = c.requires.none;
      durable = c.events-durable.ensures ∙ ap (λ (p : model.Parts). p.events) c.state.ensures;
      counting = c.events-durable.ensures ∙ ap (λ (p : model.Parts). p.events) c.state.ensures ∙ ap (λ (d : detect.ShownDetector (pool.ShownPool g.row.D.Denot)). d.parts.events) (sym c.of-frozen.ensures);
      works = refl;
      certain = refl;
      idle = c.requires.idle;
    }) c.requires.lawful c.requires.room c.requires.journals c.requires.words c.requires.checkpointer c.requires.stands

pub returns-clause-fresh : goal.returns-clause-fresh
returns-clause-fresh g c basis based =
    let s : Parts g.row.D.Denot g.D.Disk = record {
      journals = c.args.journals;
      detector = c.args.detector;
      checkpointer = c.args.checkpointer;
      committed = c.of-committed.result.value;
      frozen = c.of-frozen.result.value;
      pending = c.args.pending.items;
      durable = c.events-durable.result;
      counted = c.args.counted;
      counting = c.events-durable.result;
      is_broken = false;
      in_doubt = false;
    } in
    fresh g.D.Disk s (record {
      committed = c.of-committed.ensures;
      pending = c.requires.none;
      durable = c.events-durable.ensures ∙ ap (λ (p : model.Parts). p.events) c.state.ensures;
      counting = c.events-durable.ensures ∙ ap (λ (p : model.Parts). p.events) c.state.ensures ∙ ap (λ (d : detect.ShownDetector (pool.ShownPool g.row.D.Denot)). d.parts.events) (sym c.of-frozen.ensures);
      works = refl;
      certain = refl;
      idle = c.requires.idle;
    }) basis based
