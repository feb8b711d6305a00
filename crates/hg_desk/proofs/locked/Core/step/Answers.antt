use Rattle.std.proofs.Common.{rules, ◌≡◌, ◌∷◌, ◌++◌, ◌+◌, ℕ, ap, subst, ◌∙◌}
use Rattle.hg_store.specs.Runs.{Made, made}
use Rattle.hg_store.specs.Shown.{ShownStore}
use Rattle.hg_desk.specs.Told.{StepKept, Told, fitting, listed, made_durable, taken}
use Rattle.hg_desk.proofs.Counts.{Steps, core_after, kept_on}
use Rattle.hg_desk.proofs.locked.Core.step.Given as given
use Rattle.hg_desk.proofs.locked.Core.step.Goals as goal

-- what holds once the step was made
module _ (g : given.Over) (c : goal.After-note_step g) where
  steps : Steps g.D.Disk c.self.inside.store c.step-result.new.self c.args.step.now c.step-result.result
  steps = record {
    done = c.step-result.ensures.done;
    content = λ honest. c.step-result.ensures.content honest;
    device = c.step-result.ensures.device;
    backs = λ honest. c.durable_before-before.ensures.backs honest;
    backs_then = λ honest. c.stands.ensures.backs honest;
    images = λ honest. c.step-result.ensures.images honest;
    count = λ honest. c.durable_before-before.ensures.count honest;
    all = λ works. c.durable_before-before.ensures.events works;
    more = λ works. search rules;
  }

pub invariant_of-self : goal.invariant_of-self
invariant_of-self g c =
    core_after g.D.Disk g.A.Opening.start g.A.Column.opening g.B.Column.opening c.self.inside.store c.step-result.new.self c.args.step.now c.step-result.result (steps g c)
    c.self.inside.accepted.total c.self.inside.durable.total c.self.inside.accepted_count c.self.inside.durable_count c.self.inside.steps c.self.inside.acks c.self.invariant
    c.durable_before-before.result c.durable_before-before.ensures.durable
    c.note_accepted.new.book.total c.note_durable.new.book.total c.note_accepted.new.count c.note_durable.new.count c.push.new.self
    (c.note_accepted.ensures.book ∙ ap (λ (n : ℕ). c.self.inside.accepted.total + fitting c.self.inside.accepted.total n) c.accepted_by.ensures)
    (c.note_durable.ensures.book ∙ ap (λ (n : ℕ). c.self.inside.durable.total + fitting c.self.inside.durable.total n) c.durable_by.ensures)
    c.note_accepted.ensures.count c.note_durable.ensures.count (c.push.ensures ∙ ap (λ (m : Made g.row.D.Denot). m ∷ c.self.inside.steps) (c.of.ensures ∙ ap (λ (s : ShownStore g.row.D.Denot). made s c.args.step.now c.step-result.result) c.of-began.ensures))

pub returns : goal.returns
returns g c =
    let old = c.self.inside.store in
    let new = c.step-result.new.self in
    let result = c.step-result.result in
    let told = c.note_step.new.share in
    let one : told.accepted ≡ c.args.share.now.accepted + fitting c.self.inside.accepted.total (taken result) =
    ap (λ (t : Told). t.accepted) c.note_step.ensures ∙ ap (λ (t : Told). t.accepted) c.note_durable.ensures.share ∙ ap (λ (t : Told). t.accepted) c.note_accepted.ensures.share
    ∙ ap (λ (n : ℕ). c.args.share.now.accepted + fitting c.self.inside.accepted.total n) c.accepted_by.ensures in
    let two : told.durable ≡ c.args.share.now.durable + fitting c.self.inside.durable.total (made_durable c.durable_before-before.result result) =
    ap (λ (t : Told). t.durable) c.note_step.ensures ∙ ap (λ (t : Told). t.durable) c.note_durable.ensures.share
    ∙ ap (λ (t : Told). t.durable + fitting c.self.inside.durable.total c.durable_by.result) c.note_accepted.ensures.share
    ∙ ap (λ (n : ℕ). c.args.share.now.durable + fitting c.self.inside.durable.total n) c.durable_by.ensures in
    let three : told.acks ≡ c.args.share.now.acks =
    ap (λ (t : Told). t.acks) c.note_step.ensures ∙ ap (λ (t : Told). t.acks) c.note_durable.ensures.share ∙ ap (λ (t : Told). t.acks) c.note_accepted.ensures.share in
    let four : told.steps ≡ listed c.args.step.now result ++ c.args.share.now.steps =
    ap (λ (t : Told). t.steps) c.note_step.ensures ∙ ap (λ (t : Told). listed c.args.step.now result ++ t.steps) c.note_durable.ensures.share
    ∙ ap (λ (t : Told). listed c.args.step.now result ++ t.steps) c.note_accepted.ensures.share in
    let kept : StepKept g.D.Disk old new c.args.share.now told c.args.step.now result =
    kept_on g.D.Disk g.A.Opening.start g.A.Column.opening g.B.Column.opening old new c.args.step.now result (steps g c)
    c.self.inside.accepted.total c.self.inside.durable.total c.self.inside.accepted_count c.self.inside.durable_count c.self.inside.steps c.self.inside.acks c.self.invariant
    c.durable_before-before.result c.durable_before-before.ensures.durable c.args.share.now told one two three four in
    subst (λ (s : ShownStore g.row.D.Denot). StepKept g.D.Disk s new c.args.share.now told c.args.step.now result) c.self.view_is kept
