use Rattle.std.proofs.Common.{◌≡◌, false, refl, rules}
use Rattle.std.proofs.lemmas.Bool.{true≢false}
use Rattle.hg_store.proofs.Turning.{turn_failed, turn_images, turned}
use Rattle.hg_store.proofs.store.Store.take_turns.Goals as goal

pub returns-in-Ok-clause-images : goal.returns-in-Ok-clause-images
returns-in-Ok-clause-images g c honest =
    let k = c.self.invariant.stands honest in
    let w = k.1.works (search rules) in
    rw (← c.self.view_is) (turn_images g.D.Disk _ k.0 k.1 c.turn.new.self (c.turn.ensures.any_moment k.0.base k.0.events w.journals))

pub returns-in-Err-clause-images : goal.returns-in-Err-clause-images
returns-in-Err-clause-images g c honest =
    let k = c.self.invariant.stands honest in
    let w = k.1.works (search rules) in
    rw (← c.self.view_is) (turn_images g.D.Disk _ k.0 k.1 c.turn.new.self (c.turn.ensures.any_moment k.0.base k.0.events w.journals))

pub invariant_of-self : goal.invariant_of-self
invariant_of-self g c = record {
  lawful = c.self.invariant.lawful;
  few = c.self.invariant.few;
  room = c.self.invariant.room;
  journals = search rules;
  fits = search rules;
  counting = c.self.invariant.counting;
  words = c.self.invariant.words;
  checkpointer = c.self.invariant.checkpointer;
  sealed = c.self.invariant.sealed;
  stands = λ honest.
      let k = c.self.invariant.stands honest in
      let works : c.self.inside.is_broken ≡ false = search rules in
      let w = k.1.works works in
      (k.0, turned g.D.Disk _ k.0 k.1 c.turn.new.self c.self.inside.is_broken works (c.in-Ok.ensures.keeps k.0.base k.0.events w.journals));
}

pub invariant_of-self-in-Err : goal.invariant_of-self-in-Err
invariant_of-self-in-Err g c = record {
  lawful = c.self.invariant.lawful;
  few = c.self.invariant.few;
  room = c.self.invariant.room;
  journals = λ no. absurd (true≢false no);
  fits = λ no. absurd (true≢false no);
  counting = c.self.invariant.counting;
  words = λ no. absurd (true≢false no);
  checkpointer = λ no. absurd (true≢false no);
  sealed = c.self.invariant.sealed;
  stands = λ honest.
      let k = c.self.invariant.stands honest in
      let w = k.1.works (search rules) in
      (k.0, turn_failed g.D.Disk _ k.0 k.1 c.turn.new.self (c.turn.ensures.any_moment k.0.base k.0.events w.journals));
}
