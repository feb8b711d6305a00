use Rattle.std.proofs.Common.{◌≡◌, false, true, rules, subst, inr, ◌∙◌, sym, ap, refl}
use Rattle.std.proofs.lemmas.Bool.{true≢false}
use Rattle.hg_checkpoint.specs.declared.phase.Phase.{Phase}
use Rattle.hg_checkpoint.specs.declared.phase.Phase.TheVariants as phase
use Rattle.hg_store.proofs.Going.{progress_at}
use Rattle.hg_root.specs.Checkpoints.{root_of}
use Rattle.hg_checkpoint.specs.Standing.{IsNext}
use Rattle.hg_store.specs.Kept.{is_rooting}
use Rattle.hg_store.proofs.Backing.{parts_stand}
use Rattle.hg_store.proofs.Checkpointing.{of_pool, rooted, rooting_failed, roots_images}
use Rattle.hg_store.specs.Shown.{ShownStore, phase_of}
use Rattle.hg_store.proofs.NotMade.{if_refused, if_wrong, of_writing, sound_by, step_not_made}
use Rattle.hg_store.proofs.store.Store.write_root.Goals as goal

pub returns-then-self-clause-images : goal.returns-then-self-clause-images
returns-then-self-clause-images g c honest = let k = c.self.invariant.stands honest in rw (← c.self.view_is) (parts_stand g.D.Disk _ k.0 _ k.1 (λ doubt. doubt))

pub returns-in-Ok-clause-images : goal.returns-in-Ok-clause-images
returns-in-Ok-clause-images g c honest =
    let k = c.self.invariant.stands honest in
    let w = k.1.works c.if-self.false in
    rw (← c.self.view_is) (roots_images g.D.Disk _ k.0 k.1 g.met.D.Disk.has_its_bytes c.write_root.new.self (c.write_root.ensures.any_moment k.0.now.checkpoint k.0.now.former w.stands.roots))

pub returns-in-Err-clause-images : goal.returns-in-Err-clause-images
returns-in-Err-clause-images g c honest =
    let k = c.self.invariant.stands honest in
    let w = k.1.works c.if-self.false in
    rw (← c.self.view_is) (roots_images g.D.Disk _ k.0 k.1 g.met.D.Disk.has_its_bytes c.write_root.new.self (c.write_root.ensures.any_moment k.0.now.checkpoint k.0.now.former w.stands.roots))

pub invariant_of-self : goal.invariant_of-self
invariant_of-self g c = record {
  lawful = c.self.invariant.lawful;
  few = c.self.invariant.few;
  room = c.self.invariant.room;
  journals = c.self.invariant.journals;
  fits = c.self.invariant.fits;
  counting = c.self.invariant.counting;
  words = c.self.invariant.words;
  checkpointer = λ _. c.in-Ok.ensures.works;
  sealed = λ _. c.self.invariant.sealed (search rules);
  stands = λ honest.
      let k = c.self.invariant.stands honest in
      let works : c.self.inside.is_broken ≡ false = c.if-self.false in
      let w = k.1.works works in
      let r = progress_at g.D.Disk _ k.0 k.1 works phase.Prepared c.in-Ok.ensures.phase.1 in
      let rest = c.write_root.ensures.rest in (
        k.0,
        rooted g.D.Disk _ k.0 k.1 g.met.D.Disk.has_its_bytes c.write_root.new.self c.self.inside.is_broken works (c.write_root.ensures.any_moment k.0.now.checkpoint k.0.now.former w.stands.roots)
            (record { next = rest.0; number = rest.1; head = rest.2 }) (inr c.in-Ok.ensures.written) r
            (record { roots = c.in-Ok.ensures.stands (root_of k.0.now.checkpoint) k.0.now.former w.stands.roots; slots = w.stands.slots; names = w.stands.names })
            (of_pool (λ p. IsNext g.D.Disk c.self.inside.checkpointer p k.0.now.checkpoint r.next) (λ p. IsNext g.D.Disk c.write_root.new.self p k.0.now.checkpoint r.next) c.words.result.now c.self.inside.detector.words c.words.ensures (c.write_root.ensures.next k.0.now.checkpoint r.next) r.is_next),
      );
}

pub invariant_of-self-in-Err : goal.invariant_of-self-in-Err
invariant_of-self-in-Err g c =
    sound_by g.D.Disk _ c.write_root.new.self c.self.inside.detector.words (Unit {0}) _ c.self.invariant _ _ c.self.inside.checkpointer.phase c.in-Err.fault c.not_made.new.is_broken c.if-self.false c.not_made.ensures.broken
    c.in-Err.ensures.phase (if_wrong (Unit {0}) c.in-Err.fault (λ e. (e, refl)) c.in-Err.ensures.unchanged)
    (of_writing (Unit {0}) _ _ c.self.inside.checkpointer.is_broken c.self.inside.checkpointer.phase c.in-Err.fault (c.self.invariant.checkpointer c.if-self.false) c.in-Err.ensures.phase
    (if_refused (Unit {0}) c.in-Err.fault (λ r so none. (so none, refl)) c.in-Err.ensures.refused)) (λ lawful. record {
      lawful = c.self.invariant.lawful;
      few = c.self.invariant.few;
      room = c.self.invariant.room;
      journals = λ no. absurd (true≢false no);
      fits = λ no. absurd (true≢false no);
      counting = c.self.invariant.counting;
      words = λ no. absurd (true≢false no);
      checkpointer = λ no. absurd (true≢false no);
      sealed = λ rooting. c.self.invariant.sealed (subst (λ (p : Phase). is_rooting p ≡ true) c.in-Err.ensures.refused_phase rooting);
      stands = λ honest.
          let k = c.self.invariant.stands honest in
          let works : c.self.inside.is_broken ≡ false = c.if-self.false in
          let w = k.1.works works in
          (k.0, rooting_failed g.D.Disk _ k.0 k.1 g.met.D.Disk.has_its_bytes c.write_root.new.self (c.write_root.ensures.any_moment k.0.now.checkpoint k.0.now.former w.stands.roots));
    })

pub returns-in-Err-clause-done : goal.returns-in-Err-clause-done
returns-in-Err-clause-done g c =
    rw (← c.self.view_is) (step_not_made g.D.Disk _ c.write_root.new.self c.self.inside.detector.words (Unit {0}) (Unit {0}) _ c.self.invariant _ _ phase.Written c.self.inside.checkpointer.phase c.in-Err.fault c.not_made.result c.phase_now-phase.result c.not_made.new.is_broken c.if-self.false
    c.not_made.ensures.told (c.phase_now-phase.ensures ∙ ap (λ (s : ShownStore g.row.D.Denot). phase_of s) (sym c.self.view_is)) c.not_made.ensures.broken
    c.in-Err.ensures.phase (if_wrong (Unit {0}) c.in-Err.fault (λ e. (e, refl)) c.in-Err.ensures.unchanged) (of_writing (Unit {0}) _ _ c.self.inside.checkpointer.is_broken c.self.inside.checkpointer.phase c.in-Err.fault (c.self.invariant.checkpointer c.if-self.false) c.in-Err.ensures.phase
    (if_refused (Unit {0}) c.in-Err.fault (λ r so none. (so none, refl)) c.in-Err.ensures.refused)))
