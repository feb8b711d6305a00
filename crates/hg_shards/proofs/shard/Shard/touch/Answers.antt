use Rattle.std.proofs.Common.{inl, inr, refl, sym, subst, ◌∙◌}
use Rattle.hg_model.specs.Accessing.{access_event, access_named}
use Rattle.hg_detect.specs.Memory.{content_of}
use Rattle.hg_shards.specs.Sharding.{AnswersShard, LogGoes, own_words}
use Rattle.hg_shards.specs.declared.shard.Shard.{Shard}
use Rattle.hg_shards.proofs.Going.{offer_goes, pass_goes}
use Rattle.hg_shards.proofs.Noting.{offer_counts, offer_grows, pass_counts, pass_grows, pass_keeps}
use Rattle.hg_shards.proofs.Offering.{judged_cut, no_memory, none_passes, offers_cut, offers_pass, passed_answer, shard_answers}
use Rattle.hg_shards.proofs.shard.Shard.touch.Goals as goal

pub returns-in-Some-clause-answers : goal.returns-in-Some-clause-answers
returns-in-Some-clause-answers c =
    let old = c.args.self.now in
    let d = c.judge.new.self.detector in
    let whole = c.requires.ready.whole in
    let given = c.judge.ensures.answers in
    subst (λ (s : Shard). AnswersShard old (access_named c.args.source c.args.number c.args.write c.args.access) c.judge.result s) (sym c.judge.ensures.rest)
    (shard_answers old d c.judge.new.self.log _ c.judge.result c.requires.ready
    (offer_grows _ old.detector _ c.judge.result d whole given)
    (offer_counts _ old.detector _ c.judge.result d whole given)
    (subst (λ (s : Shard). LogGoes old c.judge.result s) c.judge.ensures.rest c.judge.ensures.log)
    (offer_goes _ old.detector d _ c.judge.result whole given)
    given.lawful
    (λ trace k. offers_cut _ (own_words old) trace old.detector k c.args.source c.args.number c.args.write c.args.access c.in-Some.own c.judge.result d (c.in-Some.ensures c.args.write) whole given))

pub returns-in-None-clause-answers : goal.returns-in-None-clause-answers
returns-in-None-clause-answers c =
    let old = c.args.self.now in
    let d = c.pass.new.self in
    shard_answers old d old.log _ c.pass.result c.requires.ready
    (pass_grows _ old.detector c.args.source c.args.number c.args.access c.pass.result d c.pass.ensures)
    (pass_counts _ old.detector c.args.source c.args.number c.args.access c.pass.result d c.pass.ensures)
    (inl (refl, λ accepted. pass_keeps _ old.detector c.args.source c.args.number c.args.access c.pass.result d c.pass.ensures))
    (pass_goes _ old.detector d c.args.source c.args.number c.args.access c.pass.result c.pass.ensures)
    (c.pass.ensures.lawful c.requires.ready.whole)
    (λ trace k. offers_pass _ (own_words old) trace old.detector k c.args.source c.args.number c.args.write c.args.access c.pass.result d (c.in-None.ensures c.args.write) c.pass.ensures)

pub returns-in-Some-clause-passes : goal.returns-in-Some-clause-passes
returns-in-Some-clause-passes c = λ trace k some by accepts. absurd (none_passes (own_words c.args.self.now) c.args.write c.args.access c.in-Some.own (c.in-Some.ensures c.args.write) by)

pub returns-in-Some-clause-grows : goal.returns-in-Some-clause-grows
returns-in-Some-clause-grows c = λ trace k accepts out.
    let old = c.args.self.now in
    let is = c.in-Some.ensures c.args.write in
    let judged = judged_cut (own_words old) trace (content_of old.detector) k c.args.source c.args.number c.args.write c.args.access c.in-Some.own is in
    (access_event c.args.write c.in-Some.own, record { alike = is.alike; stays = inr is.stays }, c.judge.ensures.answers.grows (sym judged ∙ accepts) c.requires.ready.whole out)

pub returns-in-None-clause-passes : goal.returns-in-None-clause-passes
returns-in-None-clause-passes c = λ trace k some by accepts. passed_answer (own_words c.args.self.now) trace (content_of c.args.self.now.detector) k _ c.pass.result accepts (c.pass.ensures.answered c.args.write)

pub returns-in-None-clause-grows : goal.returns-in-None-clause-grows
returns-in-None-clause-grows c = λ trace k accepts out.
    absurd (no_memory c.pass.result (passed_answer (own_words c.args.self.now) trace (content_of c.args.self.now.detector) k _ c.pass.result accepts (c.pass.ensures.answered c.args.write)) out)
