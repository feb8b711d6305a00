use Rattle.std.proofs.Common.{◌≡◌, ◌∙◌, false, true, length, ℕ, List, IsTrue, rules, subst, sym, ap, refl}
use Rattle.std.proofs.lemmas.Bool.{true≢false}
use Rattle.hg_checkpoint.specs.declared.phase.Phase.{Phase}
use Rattle.hg_checkpoint.specs.declared.phase.Phase.TheVariants as phase
use Rattle.hg_pool.specs.Kept.{AreWithin}
use Rattle.hg_pool.specs.Maps.{disk_of, is_broken, live}
use Rattle.hg_pool.specs.Shown.{Frame, ShownPool as Pool}
use Rattle.hg_store.specs.Kept.{is_rooting}
use Rattle.hg_store.proofs.Backing.{parts_stand}
use Rattle.hg_store.proofs.Going.{progress_at}
use Rattle.hg_store.proofs.Opening.{at_opened, failed_as, has_opened, images_as, opening, succeeded_as}
use Rattle.hg_store.proofs.Staying.{same_content, same_images_as}
use Rattle.hg_store.specs.Shown.{ShownStore, phase_of}
use Rattle.hg_store.proofs.NotMade.{either, if_wrong, of_device, sound_by, step_not_made}
use Rattle.hg_store.proofs.store.Store.open_root.Goals as goal

pub returns-then-self-clause-images : goal.returns-then-self-clause-images
returns-then-self-clause-images g c honest = let k = c.self.invariant.stands honest in rw (← c.self.view_is) (parts_stand g.D.Disk _ k.0 _ k.1 (λ doubt. doubt))

pub returns-in-Ok-clause-images : goal.returns-in-Ok-clause-images
returns-in-Ok-clause-images g c honest =
    let k = c.self.invariant.stands honest in
    let works : c.self.inside.is_broken ≡ false = c.if-self.false in
    let w = k.1.works works in
    let r = progress_at g.D.Disk _ k.0 k.1 works phase.Written c.in-Ok.ensures.phase.1 in
    let same = rw c.words_mut.ensures.value at c.in-Ok.ensures.pool in
    let each = rw c.words_mut.ensures.value at c.open_root.ensures.any_moment in
    rw (← c.self.view_is) (images_as g.D.Disk _ k.0 k.1 works r c.open_root.new.self c.open_root.new.pool (ap (λ (p : Pool g.row.D.Denot). disk_of p) same) (each k.0.now.checkpoint k.0.now.former r.next w.stands r.is_next))

pub returns-in-Ok-clause-checkpoint : goal.returns-in-Ok-clause-checkpoint
returns-in-Ok-clause-checkpoint g c honest =
    let k = c.self.invariant.stands honest in
    let works : c.self.inside.is_broken ≡ false = c.if-self.false in
    let w = k.1.works works in
    let r = progress_at g.D.Disk _ k.0 k.1 works phase.Written c.in-Ok.ensures.phase.1 in
    let same = rw c.words_mut.ensures.value at c.in-Ok.ensures.pool in
    let from = rw c.words_mut.ensures.value at c.in-Ok.ensures.stands in
    rw (← c.self.view_is) (has_opened g.D.Disk _ k.0 k.1 works r c.open_root.new.self c.open_root.new.pool c.in-Ok.number same c.in-Ok.ensures.opened c.in-Ok.ensures.number.0 (from k.0.now.checkpoint k.0.now.former r.next w.stands r.is_next))

pub returns-in-Ok-clause-live : goal.returns-in-Ok-clause-live
returns-in-Ok-clause-live g c =
    let same = rw c.words_mut.ensures.value at c.in-Ok.ensures.pool in
    rw (← c.self.view_is) (same_content g.D.Disk c.self.inside.detector c.open_root.new.pool (λ word. ap (λ (p : Pool g.row.D.Denot). live g.D.Disk p word) same))

pub returns-in-Err-clause-images : goal.returns-in-Err-clause-images
returns-in-Err-clause-images g c honest =
    let k = c.self.invariant.stands honest in
    let works : c.self.inside.is_broken ≡ false = c.if-self.false in
    let w = k.1.works works in
    let same = c.in-Err.ensures.same_pool ∙ c.words_mut.ensures.value in
    let each = rw c.words_mut.ensures.value at c.open_root.ensures.any_moment in
    rw (← c.self.view_is) (either ℕ _ c.self.inside.checkpointer.is_broken c.self.inside.checkpointer.phase c.in-Err.fault (c.self.invariant.checkpointer works) c.in-Err.ensures.unchanged c.in-Err.ensures.phase
    (λ still. same_images_as g.D.Disk _ k.0 k.1 c.open_root.new.self c.open_root.new.pool still same) (λ written.
    let r = progress_at g.D.Disk _ k.0 k.1 works phase.Written written in
    images_as g.D.Disk _ k.0 k.1 works r c.open_root.new.self c.open_root.new.pool (ap (λ (p : Pool g.row.D.Denot). disk_of p) same) (each k.0.now.checkpoint k.0.now.former r.next w.stands r.is_next)))

pub invariant_of-self : goal.invariant_of-self
invariant_of-self g c =
    let same = rw c.words_mut.ensures.value at c.in-Ok.ensures.pool in
    let frames : c.open_root.new.pool.frames ≡ c.self.inside.detector.words.frames = ap (λ (p : Pool g.row.D.Denot). p.frames) same in
    let broken : is_broken c.open_root.new.pool ≡ is_broken c.self.inside.detector.words = ap (λ (p : Pool g.row.D.Denot). is_broken p) same in
    record {
      lawful = subst (λ (f : List (ℕ × Frame)). AreWithin f (length c.self.inside.detector.segments) (length c.self.inside.detector.sets.sets)) (sym frames) c.self.invariant.lawful;
      few = c.self.invariant.few;
      room = c.self.invariant.room;
      journals = c.self.invariant.journals;
      fits = c.self.invariant.fits;
      counting = c.self.invariant.counting;
      words = λ works. broken ∙ c.self.invariant.words works;
      checkpointer = λ _. c.in-Ok.ensures.works;
      sealed = λ rooting. absurd (true≢false (sym rooting ∙ ap (λ (p : Phase). is_rooting p) c.in-Ok.ensures.opened));
      stands = λ honest.
          let k = c.self.invariant.stands honest in
          let works : c.self.inside.is_broken ≡ false = c.if-self.false in
          let w = k.1.works works in
          let r = progress_at g.D.Disk _ k.0 k.1 works phase.Written c.in-Ok.ensures.phase.1 in
          let from = rw c.words_mut.ensures.value at c.in-Ok.ensures.stands in
          (at_opened g.D.Disk _ k.0 k.1 works r, succeeded_as g.D.Disk _ k.0 k.1 works r c.open_root.new.self c.open_root.new.pool c.self.inside.counting c.self.inside.is_broken same c.in-Ok.ensures.opened c.in-Ok.ensures.number.1 c.self.invariant.counting (from k.0.now.checkpoint k.0.now.former r.next w.stands r.is_next));
    }

pub invariant_of-self-in-Err : goal.invariant_of-self-in-Err
invariant_of-self-in-Err g c =
    let same = c.in-Err.ensures.same_pool ∙ c.words_mut.ensures.value in
    let frames : c.open_root.new.pool.frames ≡ c.self.inside.detector.words.frames = ap (λ (p : Pool g.row.D.Denot). p.frames) same in
    sound_by g.D.Disk _ c.open_root.new.self c.open_root.new.pool ℕ _ c.self.invariant _ _ c.self.inside.checkpointer.phase c.in-Err.fault c.not_made.new.is_broken c.if-self.false c.not_made.ensures.broken
    c.in-Err.ensures.phase (if_wrong ℕ c.in-Err.fault (λ e. (e, c.in-Err.ensures.same_pool ∙ c.words_mut.ensures.value)) c.in-Err.ensures.unchanged)
    (of_device ℕ _ _ c.self.inside.checkpointer.is_broken c.self.inside.checkpointer.phase c.in-Err.fault (c.self.invariant.checkpointer c.if-self.false) c.in-Err.ensures.phase) (λ lawful. record {
      lawful = subst (λ (f : List (ℕ × Frame)). AreWithin f (length c.self.inside.detector.segments) (length c.self.inside.detector.sets.sets)) (sym frames) c.self.invariant.lawful;
      few = c.self.invariant.few;
      room = c.self.invariant.room;
      journals = λ no. absurd (true≢false no);
      fits = λ no. absurd (true≢false no);
      counting = c.self.invariant.counting;
      words = λ no. absurd (true≢false no);
      checkpointer = λ no. absurd (true≢false no);
      sealed = λ rooting. subst (λ (p : Pool g.row.D.Denot). IsTrue p.is_sealed) (sym same) (c.self.invariant.sealed (subst (λ (p : Phase). is_rooting p ≡ true) c.in-Err.ensures.refused_phase rooting));
      stands = λ honest.
          let k = c.self.invariant.stands honest in
          let works : c.self.inside.is_broken ≡ false = c.if-self.false in
          let w = k.1.works works in
          let r = progress_at g.D.Disk _ k.0 k.1 works phase.Written lawful in
          let each = rw c.words_mut.ensures.value at c.open_root.ensures.any_moment in
          (opening g.D.Disk _ k.0 k.1 works r, failed_as g.D.Disk _ k.0 k.1 works r c.open_root.new.self c.open_root.new.pool same (each k.0.now.checkpoint k.0.now.former r.next w.stands r.is_next));
    })

pub returns-in-Err-clause-done : goal.returns-in-Err-clause-done
returns-in-Err-clause-done g c =
    rw (← c.self.view_is) (step_not_made g.D.Disk _ c.open_root.new.self c.open_root.new.pool ℕ ℕ _ c.self.invariant _ _ phase.Idle c.self.inside.checkpointer.phase c.in-Err.fault c.not_made.result c.phase_now-phase.result c.not_made.new.is_broken c.if-self.false
    c.not_made.ensures.told (c.phase_now-phase.ensures ∙ ap (λ (s : ShownStore g.row.D.Denot). phase_of s) (sym c.self.view_is)) c.not_made.ensures.broken
    c.in-Err.ensures.phase (if_wrong ℕ c.in-Err.fault (λ e. (e, c.in-Err.ensures.same_pool ∙ c.words_mut.ensures.value)) c.in-Err.ensures.unchanged) (of_device ℕ _ _ c.self.inside.checkpointer.is_broken c.self.inside.checkpointer.phase c.in-Err.fault (c.self.invariant.checkpointer c.if-self.false) c.in-Err.ensures.phase))

pub returns-in-Ok-clause-limits : goal.returns-in-Ok-clause-limits
returns-in-Ok-clause-limits g c =
    let same = rw c.words_mut.ensures.value at c.in-Ok.ensures.pool in
    rw (← c.self.view_is) (ap (λ (p : Pool g.row.D.Denot). p.most_frames) same, ap (λ (p : Pool g.row.D.Denot). p.slots) same)

pub returns-in-Err-clause-limits : goal.returns-in-Err-clause-limits
returns-in-Err-clause-limits g c =
    let same = c.in-Err.ensures.same_pool ∙ c.words_mut.ensures.value in
    rw (← c.self.view_is) (ap (λ (p : Pool g.row.D.Denot). p.most_frames) same, ap (λ (p : Pool g.row.D.Denot). p.slots) same)
