use Rattle.std.proofs.Common.{◌≡◌, false, refl, rules}
use Rattle.std.proofs.lemmas.Bool.{true≢false}
use Rattle.hg_store.proofs.Backing.{parts_stand}
use Rattle.hg_store.proofs.Turning.{retire_failed, retire_images, retired_or_not}
use Rattle.hg_store.proofs.store.Store.retire.Goals as goal

pub returns-then-self-clause-images : goal.returns-then-self-clause-images
returns-then-self-clause-images g c honest = let k = c.self.invariant.stands honest in rw (← c.self.view_is) (parts_stand g.D.Disk _ k.0 _ k.1 (λ doubt. doubt))

pub returns-in-Ok-clause-images : goal.returns-in-Ok-clause-images
returns-in-Ok-clause-images g c honest =
    let k = c.self.invariant.stands honest in
    let works : c.self.inside.is_broken ≡ false = c.if-self.false in
    let w = k.1.works works in
    rw (← c.self.view_is) (retire_images g.D.Disk _ k.0 k.1 c.retire.new.self works (c.retire.ensures.any_moment k.0.base k.0.events w.journals))

pub returns-in-Err-clause-images : goal.returns-in-Err-clause-images
returns-in-Err-clause-images g c honest =
    let k = c.self.invariant.stands honest in
    let works : c.self.inside.is_broken ≡ false = c.if-self.false in
    let w = k.1.works works in
    rw (← c.self.view_is) (retire_images g.D.Disk _ k.0 k.1 c.retire.new.self works (c.retire.ensures.any_moment k.0.base k.0.events w.journals))

pub invariant_of-self : goal.invariant_of-self
invariant_of-self g c = record {
  lawful = c.self.invariant.lawful;
  few = c.self.invariant.few;
  room = c.self.invariant.room;
  journals = search rules;
  fits = search rules;
  counting = c.self.invariant.counting;
  words = c.self.invariant.words;
  checkpointer = c.self.invariant.checkpointer;
  sealed = c.self.invariant.sealed;
  stands = λ honest.
      let k = c.self.invariant.stands honest in
      let works : c.self.inside.is_broken ≡ false = c.if-self.false in
      let w = k.1.works works in
      retired_or_not g.D.Disk _ k.0 k.1 c.retire.new.self works c.self.inside.is_broken c.in-Ok.retired c.in-Ok.ensures.retired.0 c.in-Ok.ensures.retired.1 (c.in-Ok.ensures.keeps k.0.base k.0.events w.journals);
}

pub invariant_of-self-in-Err : goal.invariant_of-self-in-Err
invariant_of-self-in-Err g c = record {
  lawful = c.self.invariant.lawful;
  few = c.self.invariant.few;
  room = c.self.invariant.room;
  journals = λ no. absurd (true≢false no);
  fits = λ no. absurd (true≢false no);
  counting = c.self.invariant.counting;
  words = λ no. absurd (true≢false no);
  checkpointer = λ no. absurd (true≢false no);
  sealed = c.self.invariant.sealed;
  stands = λ honest.
      let k = c.self.invariant.stands honest in
      let works : c.self.inside.is_broken ≡ false = c.if-self.false in
      let w = k.1.works works in
      retire_failed g.D.Disk _ k.0 k.1 c.retire.new.self works (c.retire.ensures.any_moment k.0.base k.0.events w.journals);
}
