use Rattle.std.proofs.Common.{rules, ◌++◌, sym, ap, subst, ◌∙◌}
use Rattle.hg_model.specs.declared.event.Named.{Named}
use Rattle.hg_model.specs.Accessing.{access_named}
use Rattle.hg_records.specs.Records.{RecordFits}
use Rattle.hg_pool.specs.Maps as pools
use Rattle.hg_store.specs.Steps.{HasRoom, IsAnsweredWhenFull, if_accepted}
use Rattle.hg_store.proofs.Backing.{backs_of, counts_all, events_of, parts_stand}
use Rattle.hg_store.proofs.Offered.{full_calls_nothing, full_is_done, full_is_offered, images, is_done, is_offered, is_sound, no_room}
use Rattle.hg_store.proofs.store.Store.touch.Goals as goal

pub returns-then-self-clause-images : goal.returns-then-self-clause-images
returns-then-self-clause-images g c honest = let k = c.self.invariant.stands honest in rw (← c.self.view_is) (parts_stand g.D.Disk _ k.0 _ k.1 (λ doubt. doubt))

pub returns-then-not-has_room-clause-done : goal.returns-then-not-has_room-clause-done
returns-then-not-has_room-clause-done g c = full_is_done g.D.Disk c.args.self.now (access_named c.args.source c.args.number c.args.write c.args.access) c.answer_when_full.result (search rules) (λ room. no_room c.has_room.result c.if-not-has_room.true (c.has_room.ensures.no room)) (subst (λ (n : Named). IsAnsweredWhenFull g.D.Disk c.args.self.now n c.answer_when_full.result) c.named_access.ensures c.answer_when_full.ensures) (rw (← c.self.view_is) (c.self.invariant.words (search rules)))

pub returns-then-not-has_room-clause-content : goal.returns-then-not-has_room-clause-content
returns-then-not-has_room-clause-content g c honest = let k = c.self.invariant.stands honest in full_is_offered g.D.Disk c.args.self.now (access_named c.args.source c.args.number c.args.write c.args.access) c.answer_when_full.result (search rules) (λ room. no_room c.has_room.result c.if-not-has_room.true (c.has_room.ensures.no room)) (subst (λ (n : Named). IsAnsweredWhenFull g.D.Disk c.args.self.now n c.answer_when_full.result) c.named_access.ensures c.answer_when_full.ensures) (rw (← c.self.view_is) (events_of g.D.Disk _ k.0 k.1 (search rules))) (counts_all g.D.Disk c.args.self.now (rw (← c.self.view_is) (backs_of g.D.Disk _ k.0 k.1)))

pub returns-then-not-has_room-clause-device : goal.returns-then-not-has_room-clause-device
returns-then-not-has_room-clause-device g c = full_calls_nothing g.D.Disk c.args.self.now (access_named c.args.source c.args.number c.args.write c.args.access) c.answer_when_full.result (search rules) (λ room. no_room c.has_room.result c.if-not-has_room.true (c.has_room.ensures.no room)) (subst (λ (n : Named). IsAnsweredWhenFull g.D.Disk c.args.self.now n c.answer_when_full.result) c.named_access.ensures c.answer_when_full.ensures)

pub returns-then-not-has_room-clause-images : goal.returns-then-not-has_room-clause-images
returns-then-not-has_room-clause-images g c honest = let k = c.self.invariant.stands honest in rw (← c.self.view_is) (parts_stand g.D.Disk _ k.0 _ k.1 (λ doubt. doubt))

pub invariant_of-self : goal.invariant_of-self
invariant_of-self g c =
    is_sound g.D.Disk g.met.D.Disk.has_its_bytes _ _ c.self.invariant (search rules) (subst HasRoom (sym c.self.view_is) (c.has_room.ensures.yes c.if-not-has_room.false)).few (subst HasRoom (sym c.self.view_is) (c.has_room.ensures.yes c.if-not-has_room.false)).fits c.offer_access-answer.new.detector (access_named c.args.source c.args.number c.args.write c.args.access) c.offer_access-answer.result (subst RecordFits c.named_access-touching.ensures c.records_fit.ensures) c.offer_access-answer.ensures
    c.add_accepted.new.pending.items (c.add_accepted.ensures.added ∙ ap (λ (n : Named). c.self.inside.pending.items ++ if_accepted n c.offer_access-answer.result) c.named_access-touching.ensures) c.is_broken-self-inside.result (c.is_broken-self-inside.ensures ∙ ap pools.is_broken c.words.ensures) _ (search rules)

pub returns-clause-done : goal.returns-clause-done
returns-clause-done g c = rw (← c.self.view_is)
    (is_done g.D.Disk g.met.D.Disk.has_its_bytes _ _ c.self.invariant (search rules) (subst HasRoom (sym c.self.view_is) (c.has_room.ensures.yes c.if-not-has_room.false)).few (subst HasRoom (sym c.self.view_is) (c.has_room.ensures.yes c.if-not-has_room.false)).fits c.offer_access-answer.new.detector (access_named c.args.source c.args.number c.args.write c.args.access) c.offer_access-answer.result (subst RecordFits c.named_access-touching.ensures c.records_fit.ensures) c.offer_access-answer.ensures
    c.add_accepted.new.pending.items (c.add_accepted.ensures.added ∙ ap (λ (n : Named). c.self.inside.pending.items ++ if_accepted n c.offer_access-answer.result) c.named_access-touching.ensures) c.is_broken-self-inside.result (c.is_broken-self-inside.ensures ∙ ap pools.is_broken c.words.ensures))

pub returns-clause-content : goal.returns-clause-content
returns-clause-content g c honest = let k = c.self.invariant.stands honest in rw (← c.self.view_is)
    (is_offered g.D.Disk g.met.D.Disk.has_its_bytes _ _ c.self.invariant (search rules) (subst HasRoom (sym c.self.view_is) (c.has_room.ensures.yes c.if-not-has_room.false)).few (subst HasRoom (sym c.self.view_is) (c.has_room.ensures.yes c.if-not-has_room.false)).fits c.offer_access-answer.new.detector (access_named c.args.source c.args.number c.args.write c.args.access) c.offer_access-answer.result (subst RecordFits c.named_access-touching.ensures c.records_fit.ensures) c.offer_access-answer.ensures
    c.add_accepted.new.pending.items (c.add_accepted.ensures.added ∙ ap (λ (n : Named). c.self.inside.pending.items ++ if_accepted n c.offer_access-answer.result) c.named_access-touching.ensures) c.is_broken-self-inside.result (c.is_broken-self-inside.ensures ∙ ap pools.is_broken c.words.ensures) k.0 k.1)

pub returns-clause-images : goal.returns-clause-images
returns-clause-images g c honest = let k = c.self.invariant.stands honest in rw (← c.self.view_is)
    (images g.D.Disk g.met.D.Disk.has_its_bytes _ _ c.self.invariant (search rules) (subst HasRoom (sym c.self.view_is) (c.has_room.ensures.yes c.if-not-has_room.false)).few (subst HasRoom (sym c.self.view_is) (c.has_room.ensures.yes c.if-not-has_room.false)).fits c.offer_access-answer.new.detector (access_named c.args.source c.args.number c.args.write c.args.access) c.offer_access-answer.result (subst RecordFits c.named_access-touching.ensures c.records_fit.ensures) c.offer_access-answer.ensures
    c.add_accepted.new.pending.items (c.add_accepted.ensures.added ∙ ap (λ (n : Named). c.self.inside.pending.items ++ if_accepted n c.offer_access-answer.result) c.named_access-touching.ensures) c.is_broken-self-inside.result (c.is_broken-self-inside.ensures ∙ ap pools.is_broken c.words.ensures) k.0 k.1)
