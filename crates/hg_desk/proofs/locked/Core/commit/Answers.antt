use Rattle.std.proofs.Common.{rules, ◌≡◌, ◌∷◌, ◌+◌, ℕ, ap, refl, subst, ◌∙◌, arith}
use Rattle.hg_detect.specs.Shown as detect
use Rattle.hg_pool.specs.Maps as pools
use Rattle.hg_pool.specs.Shown as pool
use Rattle.hg_store.specs.Runs.{Made, made}
use Rattle.hg_store.specs.Shown.{ShownStore}
use Rattle.hg_store.specs.declared.steps.Step.TheVariants.{Commit}
use Rattle.hg_store.specs.declared.steps.StepResult.TheVariants.{Committed}
use Rattle.hg_desk.specs.Told.{StepKept, Told, fitting, made_durable}
use Rattle.hg_desk.proofs.Counts.{Steps, core_after, fitting_none, kept_on}
use Rattle.hg_desk.proofs.locked.Core.commit.Given as given
use Rattle.hg_desk.proofs.locked.Core.commit.Goals as goal

-- what holds once the commit was made
module _ (g : given.Over) (c : goal.After-note_durable g) where
  steps : Steps g.D.Disk c.self.inside.store c.commit-answer.new.self Commit (Committed c.commit-answer.result)
  steps = record {
    done = (c.commit-answer.result, refl, c.commit-answer.ensures.done);
    content = λ honest. ap (λ (d : detect.ShownDetector (pool.ShownPool g.row.D.Denot)). detect.content (pools.live g.D.Disk) d) c.commit-answer.ensures.done.detector;
    device = c.commit-answer.ensures.device;
    backs = λ honest. c.durable_before-before.ensures.backs honest;
    backs_then = λ honest. c.stands.ensures.backs honest;
    images = λ honest. c.commit-answer.ensures.images honest;
    count = λ honest. c.durable_before-before.ensures.count honest;
    all = λ works. c.durable_before-before.ensures.events works;
    more = λ works. search rules;
  }

  -- no event was accepted
  none : (n : ℕ) → n ≡ n + fitting c.self.inside.accepted.total 0
  none n = let is = fitting_none c.self.inside.accepted.total in omega (arith, is)

pub invariant_of-self : goal.invariant_of-self
invariant_of-self g c =
    core_after g.D.Disk g.A.Opening.start g.A.Column.opening g.B.Column.opening c.self.inside.store c.commit-answer.new.self Commit (Committed c.commit-answer.result) (steps g c)
    c.self.inside.accepted.total c.self.inside.durable.total c.self.inside.accepted_count c.self.inside.durable_count c.self.inside.steps c.self.inside.acks c.self.invariant
    c.durable_before-before.result c.durable_before-before.ensures.durable
    c.self.inside.accepted.total c.note_durable.new.book.total c.self.inside.accepted_count c.note_durable.new.count c.push.new.self
    (none g c c.self.inside.accepted.total)
    (c.note_durable.ensures.book ∙ ap (λ (n : ℕ). c.self.inside.durable.total + fitting c.self.inside.durable.total n) c.durable_by_commit.ensures)
    c.self.invariant.accepted_counted c.note_durable.ensures.count (c.push.ensures ∙ ap (λ (m : Made g.row.D.Denot). m ∷ c.self.inside.steps) (c.of-made.ensures ∙ ap (λ (s : ShownStore g.row.D.Denot). made s Commit (Committed c.commit-answer.result)) c.of-began.ensures))

pub returns : goal.returns
returns g c =
    let old = c.self.inside.store in
    let new = c.commit-answer.new.self in
    let result = Committed c.commit-answer.result in
    let one : c.note_durable.new.share.accepted ≡ c.args.share.now.accepted + fitting c.self.inside.accepted.total 0 =
    ap (λ (t : Told). t.accepted) c.note_durable.ensures.share ∙ none g c c.args.share.now.accepted in
    let two : c.note_durable.new.share.durable ≡ c.args.share.now.durable + fitting c.self.inside.durable.total (made_durable c.durable_before-before.result result) =
    ap (λ (t : Told). t.durable) c.note_durable.ensures.share ∙ ap (λ (n : ℕ). c.args.share.now.durable + fitting c.self.inside.durable.total n) c.durable_by_commit.ensures in
    let three : c.note_durable.new.share.acks ≡ c.args.share.now.acks = ap (λ (t : Told). t.acks) c.note_durable.ensures.share in
    let four : c.note_durable.new.share.steps ≡ c.args.share.now.steps = ap (λ (t : Told). t.steps) c.note_durable.ensures.share in
    let kept : StepKept g.D.Disk old new c.args.share.now c.note_durable.new.share Commit result =
    kept_on g.D.Disk g.A.Opening.start g.A.Column.opening g.B.Column.opening old new Commit result (steps g c)
    c.self.inside.accepted.total c.self.inside.durable.total c.self.inside.accepted_count c.self.inside.durable_count c.self.inside.steps c.self.inside.acks c.self.invariant
    c.durable_before-before.result c.durable_before-before.ensures.durable c.args.share.now c.note_durable.new.share one two three four in
    subst (λ (s : ShownStore g.row.D.Denot). StepKept g.D.Disk s new c.args.share.now c.note_durable.new.share Commit result) c.self.view_is kept
