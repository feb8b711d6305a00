use Rattle.std.proofs.Common.{◌≡◌, [], refl, rules}
use Rattle.std.proofs.lemmas.Bool.{true≢false}
use Rattle.std.proofs.lemmas.List.{nil_from_length}
use Rattle.hg_store.proofs.Backing.{parts_stand}
use Rattle.hg_store.proofs.Committing.{failed, grown, images, nothing_waited, succeeded_as}
use Rattle.hg_store.proofs.store.Store.commit.Goals as goal

pub returns-then-self-clause-images : goal.returns-then-self-clause-images
returns-then-self-clause-images g c honest = let k = c.self.invariant.stands honest in rw (← c.self.view_is) (parts_stand g.D.Disk _ k.0 _ k.1 (λ _. refl))

pub returns-then-is_empty-clause-images : goal.returns-then-is_empty-clause-images
returns-then-is_empty-clause-images g c honest = let k = c.self.invariant.stands honest in rw (← c.self.view_is) (parts_stand g.D.Disk _ k.0 _ k.1 (λ _. refl))

pub returns-in-Ok-clause-images : goal.returns-in-Ok-clause-images
returns-in-Ok-clause-images g c honest =
    let k = c.self.invariant.stands honest in
    let w = k.1.works (search rules) in
    let same : c.deref.result.now ≡ c.self.inside.pending.items = search rules in
    rw (← c.self.view_is) (images g.D.Disk _ k.0 k.1 c.append.new.self w.rests (rw same at c.append.ensures.any_moment k.0.base k.0.events w.journals))

pub returns-in-Err-clause-images : goal.returns-in-Err-clause-images
returns-in-Err-clause-images g c honest =
    let k = c.self.invariant.stands honest in
    let w = k.1.works (search rules) in
    let same : c.deref.result.now ≡ c.self.inside.pending.items = search rules in
    rw (← c.self.view_is) (images g.D.Disk _ k.0 k.1 c.append.new.self w.rests (rw same at c.append.ensures.any_moment k.0.base k.0.events w.journals))

pub invariant_of-self-in-Err : goal.invariant_of-self-in-Err
invariant_of-self-in-Err g c = record {
  lawful = c.self.invariant.lawful;
  few = c.self.invariant.few;
  room = c.self.invariant.room;
  journals = λ no. absurd (true≢false no);
  fits = λ no. absurd (true≢false no);
  counting = c.self.invariant.counting;
  words = λ no. absurd (true≢false no);
  checkpointer = λ no. absurd (true≢false no);
  sealed = c.self.invariant.sealed;
  stands = λ honest.
      let k = c.self.invariant.stands honest in
      let w = k.1.works (search rules) in
      let same : c.deref.result.now ≡ c.self.inside.pending.items = search rules in
      (k.0, failed g.D.Disk _ k.0 k.1 c.append.new.self w.rests (rw same at c.append.ensures.any_moment k.0.base k.0.events w.journals));
}

pub invariant_of-self-in-Ok : goal.invariant_of-self-in-Ok
invariant_of-self-in-Ok g c = record {
  lawful = c.self.invariant.lawful;
  few = search rules;
  room = search rules;
  journals = search rules;
  fits = search rules;
  counting = c.self.invariant.counting;
  words = c.self.invariant.words;
  checkpointer = c.self.invariant.checkpointer;
  sealed = c.self.invariant.sealed;
  stands = λ honest.
      let k = c.self.invariant.stands honest in
      let w = k.1.works (search rules) in
      let same : c.deref.result.now ≡ c.self.inside.pending.items = search rules in (
        grown g.D.Disk _ k.0 k.1 c.append.new.self w.rests,
        succeeded_as g.D.Disk _ k.0 k.1 c.append.new.self w.rests c.events-events.result c.of-in-Ok.result.value c.clear.new.self.items c.self.inside.is_broken c.self.inside.in_doubt
            (search rules) (search rules) (search rules) w.certain (search rules) (search rules) (rw same at c.in-Ok.ensures.added k.0.base k.0.events w.journals),
      );
}

pub invariant_of-self : goal.invariant_of-self
invariant_of-self g c = let none : c.self.inside.pending.items ≡ [] = nil_from_length c.self.inside.pending.items (search rules) in record {
  lawful = c.self.invariant.lawful;
  few = c.self.invariant.few;
  room = c.self.invariant.room;
  journals = c.self.invariant.journals;
  fits = c.self.invariant.fits;
  counting = c.self.invariant.counting;
  words = c.self.invariant.words;
  checkpointer = c.self.invariant.checkpointer;
  sealed = c.self.invariant.sealed;
  stands = λ honest.
      let k = c.self.invariant.stands honest in
      (k.0, nothing_waited g.D.Disk _ k.0 k.1 none c.of.result.value c.events-events.result (search rules) (search rules));
}
