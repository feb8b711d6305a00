use Rattle.std.proofs.Common.{◌≡◌, ◌∙◌, ℕ, List, Option, Some, None, refl, sym, ap, subst}
use Rattle.std.specs.Option.{unwrap_or}
use Rattle.hg_pages.specs.Tables as tables
use Rattle.hg_pages.specs.Tables.{ShownTable, slot_in}
use Rattle.hg_pool.specs.Tables.{FindsBelow}
use Rattle.hg_pool.specs.declared.parts.Parts.{Parts}
use Rattle.hg_pool.specs.Reached.{IsReached}
use Rattle.hg_pool.proofs.parts.Parts.root_opened.Goals as goal

pub returns-in-Some-clause-sound : goal.returns-in-Some-clause-sound
returns-in-Some-clause-sound g c =
    let p = c.args.self.now in
    let s = c.requires.sound in
    let table = c.in-Some.table in
    let was : p.frozen ≡ Some table = sym c.in-Some.ensures.value in
    let none : c.take.new.self ≡ None = c.in-Some.ensures.after in
    let below : FindsBelow p.slots table.entries = subst (λ (o : Option tables.ShownTable). FindsBelow p.slots (unwrap_or o p.root).entries) was s.frozen_below in
    record {
      picked = λ page slot waits. absurd (cc (sym (ap (λ (es : List (ℕ × ℕ)). slot_in es page) (s.sealed c.requires.sealed)) ∙ waits));
      copied = s.copied;
      few = s.few;
      most = s.most;
      numbers = s.numbers;
      sealed = s.sealed;
      most_frames = s.most_frames;
      least_frames = s.least_frames;
      most_slots = s.most_slots;
      root_below = below;
      frozen_below = subst (λ (o : Option tables.ShownTable). FindsBelow p.slots (unwrap_or o table).entries) (sym none) below;
      live_below = s.live_below;
    }

no_table : (o : Option ShownTable) → ((t : ShownTable) → o ≡ Some t → ⊥) → o ≡ None
no_table None not = refl
no_table (Some t) not = absurd (not t refl)

pub returns-in_default-clause-reached : goal.returns-in_default-clause-reached
returns-in_default-clause-reached g c reached =
    let p : Parts g.row.D.Denot = c.args.self.now in
    let none = sym c.take.ensures.value ∙ no_table c.take.result c.in_default.not-Some in
    subst (λ (o : Option ShownTable). IsReached (record p { frozen = o })) (none ∙ sym c.take.ensures.after) reached
