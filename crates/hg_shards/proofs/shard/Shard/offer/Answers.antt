use Rattle.std.proofs.Common.{inl, refl, sym, ◌∙◌, subst}
use Rattle.hg_model.specs.declared.event.Event.{Event}
use Rattle.hg_cells.specs.contracts.paged.PagedWordsWords.TheImpl as paged
use Rattle.hg_detect.specs.Memory.{content_of}
use Rattle.hg_shards.specs.Sharding.{WantsOwnRoom, own_words}
use Rattle.hg_shards.proofs.Going.{offer_goes}
use Rattle.hg_shards.proofs.Noting.{asks_none_of, offer_counts, offer_grows, offer_keeps}
use Rattle.hg_shards.proofs.Offering.{no_access, offers_own, own_other, shard_answers}
use Rattle.hg_shards.proofs.Sharding.{same_verdict}
use Rattle.hg_shards.proofs.shard.Shard.offer.Goals as goal

pub returns-in_default-clause-answers : goal.returns-in_default-clause-answers
returns-in_default-clause-answers c =
    let old = c.args.self.now in
    let n = c.args.named.now in
    let d = c.apply.new.self in
    let whole = c.requires.ready.whole in
    shard_answers old d old.log n c.apply.result c.requires.ready
    (offer_grows _ old.detector n c.apply.result d whole c.apply.ensures)
    (offer_counts _ old.detector n c.apply.result d whole c.apply.ensures)
    (inl (refl, offer_keeps _ old.detector n c.apply.result d whole c.apply.ensures (asks_none_of (content_of old.detector) n.event c.in_default.not-Read c.in_default.not-Write)))
    (offer_goes _ old.detector d n c.apply.result whole c.apply.ensures)
    c.apply.ensures.lawful
    (λ trace k. offers_own _ (own_words old) trace old.detector k n c.apply.result d
    (own_other (own_words old) (content_of old.detector) n.event c.in_default.not-Read c.in_default.not-Write) whole c.apply.ensures)

pub returns-in_default-clause-passes : goal.returns-in_default-clause-passes
returns-in_default-clause-passes c = λ trace k some by accepts. absurd (some (no_access c.args.named.now.event c.in_default.not-Read c.in_default.not-Write))

pub returns-in_default-clause-grows : goal.returns-in_default-clause-grows
returns-in_default-clause-grows c = λ trace k accepts out.
    let old = c.args.self.now in
    let n = c.args.named.now in (
      n.event,
      record { alike = inl refl; stays = inl (no_access n.event c.in_default.not-Read c.in_default.not-Write) },
      c.apply.ensures.grows (sym (same_verdict (own_words old) trace (content_of old.detector) k n) ∙ accepts) c.requires.ready.whole out,
    )

pub returns-in-Read-clause-grows : goal.returns-in-Read-clause-grows
returns-in-Read-clause-grows c =
    let n = c.args.named.now in
    subst (λ (e : Event). WantsOwnRoom paged.ghosts c.args.self.now (record { source = n.source; number = n.number; event = e }) c.touch.result) (sym c.in-Read.is) c.touch.ensures.grows

pub returns-in-Write-clause-grows : goal.returns-in-Write-clause-grows
returns-in-Write-clause-grows c =
    let n = c.args.named.now in
    subst (λ (e : Event). WantsOwnRoom paged.ghosts c.args.self.now (record { source = n.source; number = n.number; event = e }) c.touch-in-Write.result) (sym c.in-Write.is) c.touch-in-Write.ensures.grows
