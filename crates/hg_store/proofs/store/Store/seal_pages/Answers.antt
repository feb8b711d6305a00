use Rattle.std.proofs.Common.{Err, ◌≡◌, ◌∙◌, false, true, length, rules, subst, sym, ap, List, ℕ, refl}
use Rattle.std.proofs.lemmas.Bool.{true≢false}
use Rattle.hg_checkpoint.specs.Calls.{IsAllowedToSeal, IsOfSealing}
use Rattle.hg_checkpoint.specs.declared.phase.Phase.{Phase}
use Rattle.hg_checkpoint.specs.declared.phase.Phase.TheVariants as phase
use Rattle.hg_store.proofs.Going.{progress_at}
use Rattle.hg_disk.specs.Calls.{CallsAtMost}
use Rattle.hg_pool.specs.Kept.{AreWithin, Stays}
use Rattle.hg_pool.specs.Maps.{disk_of}
use Rattle.hg_pool.specs.Shown.{Frame, ShownPool as Pool}
use Rattle.hg_store.specs.Kept.{is_rooting}
use Rattle.hg_store.proofs.Backing.{parts_stand}
use Rattle.hg_store.proofs.Checkpointing.{seal_images, sealed, sealing_failed}
use Rattle.hg_store.proofs.Staying.{same_content, works_on}
use Rattle.hg_store.specs.Shown.{ShownStore, phase_of}
use Rattle.hg_store.proofs.NotMade.{if_wrong, of_device, of_sealing, sound_by, step_not_made}
use Rattle.hg_store.proofs.store.Store.seal_pages.Goals as goal

pub returns-then-self-clause-images : goal.returns-then-self-clause-images
returns-then-self-clause-images g c honest = let k = c.self.invariant.stands honest in rw (← c.self.view_is) (parts_stand g.D.Disk _ k.0 _ k.1 (λ doubt. doubt))

pub returns-in-Ok-clause-images : goal.returns-in-Ok-clause-images
returns-in-Ok-clause-images g c honest =
    let k = c.self.invariant.stands honest in
    let stays = subst (λ (p : Pool g.row.D.Denot). Stays g.D.Disk p c.seal_pages.new.pool) c.words_mut.ensures.value c.seal_pages.ensures.stays in
    rw (← c.self.view_is) (seal_images g.D.Disk _ k.0 k.1 g.met.D.Disk.has_its_bytes c.seal_pages.new.self c.seal_pages.new.pool c.if-self.false stays c.seal_pages.ensures.rest.0)

pub returns-in-Ok-clause-live : goal.returns-in-Ok-clause-live
returns-in-Ok-clause-live g c honest =
    let k = c.self.invariant.stands honest in
    let stays = subst (λ (p : Pool g.row.D.Denot). Stays g.D.Disk p c.seal_pages.new.pool) c.words_mut.ensures.value c.seal_pages.ensures.stays in
    rw (← c.self.view_is) (same_content g.D.Disk c.self.inside.detector c.seal_pages.new.pool (stays.live_is k.1.faithful.whole))

pub returns-in-Err-clause-images : goal.returns-in-Err-clause-images
returns-in-Err-clause-images g c honest =
    let k = c.self.invariant.stands honest in
    let stays = subst (λ (p : Pool g.row.D.Denot). Stays g.D.Disk p c.seal_pages.new.pool) c.words_mut.ensures.value c.seal_pages.ensures.stays in
    rw (← c.self.view_is) (seal_images g.D.Disk _ k.0 k.1 g.met.D.Disk.has_its_bytes c.seal_pages.new.self c.seal_pages.new.pool c.if-self.false stays c.seal_pages.ensures.rest.0)

pub returns-in-Err-clause-live : goal.returns-in-Err-clause-live
returns-in-Err-clause-live g c honest =
    let k = c.self.invariant.stands honest in
    let stays = subst (λ (p : Pool g.row.D.Denot). Stays g.D.Disk p c.seal_pages.new.pool) c.words_mut.ensures.value c.seal_pages.ensures.stays in
    rw (← c.self.view_is) (same_content g.D.Disk c.self.inside.detector c.seal_pages.new.pool (stays.live_is k.1.faithful.whole))

pub invariant_of-self : goal.invariant_of-self
invariant_of-self g c =
    let stays = subst (λ (p : Pool g.row.D.Denot). Stays g.D.Disk p c.seal_pages.new.pool) c.words_mut.ensures.value c.seal_pages.ensures.stays in
    let frames : c.seal_pages.new.pool.frames ≡ c.self.inside.detector.words.frames = ap (λ (p : Pool _). p.frames) c.seal_pages.ensures.pool ∙ ap (λ (p : Pool _). p.frames) c.words_mut.ensures.value in
    record {
      lawful = subst (λ (f : List (ℕ × Frame)). AreWithin f (length c.self.inside.detector.segments) (length c.self.inside.detector.sets.sets)) (sym frames) c.self.invariant.lawful;
      few = c.self.invariant.few;
      room = c.self.invariant.room;
      journals = c.self.invariant.journals;
      fits = c.self.invariant.fits;
      counting = c.self.invariant.counting;
      words = λ works. works_on g.D.Disk _ _ stays.went (search rules) (c.self.invariant.words works);
      checkpointer = λ _. c.in-Ok.ensures.works;
      sealed = λ _. c.in-Ok.ensures.sealed.1;
      stands = λ honest.
          let k = c.self.invariant.stands honest in
          let works : c.self.inside.is_broken ≡ false = c.if-self.false in
          let w = k.1.works works in
          let at = c.in-Ok.ensures.phase.1.0 in
          let f = progress_at g.D.Disk _ k.0 k.1 works phase.Flushing at in
          let from = rw c.words_mut.ensures.value at c.in-Ok.ensures.next in
          let away = rw c.words_mut.ensures.value at c.in-Ok.ensures.elsewhere in
          let on = rw c.words_mut.ensures.value at c.seal_pages.ensures.stands in (
            k.0,
            sealed g.D.Disk _ k.0 k.1 g.met.D.Disk.has_its_bytes c.seal_pages.new.self c.seal_pages.new.pool c.self.inside.is_broken works stays c.seal_pages.ensures.rest.0
                (record { next = c.seal_pages.ensures.rest.1; number = c.seal_pages.ensures.rest.2; head = c.seal_pages.ensures.rest.3 }) c.in-Ok.ensures.sealed.0 f (on k.0.now.checkpoint k.0.now.former w.stands)
                (from k.0.now.checkpoint k.0.now.former _ _ w.stands f.draft) (away k.0.now.checkpoint _ _ f.draft),
          );
    }

pub invariant_of-self-in-Err : goal.invariant_of-self-in-Err
invariant_of-self-in-Err g c =
    let may = (of_sealing (Unit {0}) _ c.self.inside.detector.words c.self.inside.checkpointer.is_broken c.self.inside.checkpointer.phase c.in-Err.fault (c.self.invariant.checkpointer c.if-self.false) (c.self.invariant.words c.if-self.false)
    (subst (λ (p : Pool g.row.D.Denot). IsAllowedToSeal {T = Unit {0}} (IsOfSealing p) c.self.inside.checkpointer p (Err c.in-Err.fault)) c.words_mut.ensures.value c.in-Err.ensures.phase)) in
    let stays = subst (λ (p : Pool g.row.D.Denot). Stays g.D.Disk p c.seal_pages.new.pool) c.words_mut.ensures.value c.seal_pages.ensures.stays in
    let frames : c.seal_pages.new.pool.frames ≡ c.self.inside.detector.words.frames = ap (λ (p : Pool _). p.frames) c.seal_pages.ensures.pool ∙ ap (λ (p : Pool _). p.frames) c.words_mut.ensures.value in
    sound_by g.D.Disk _ c.seal_pages.new.self c.seal_pages.new.pool (Unit {0}) _ c.self.invariant _ _ c.self.inside.checkpointer.phase c.in-Err.fault c.not_made.new.is_broken c.if-self.false c.not_made.ensures.broken
    may (if_wrong (Unit {0}) c.in-Err.fault (λ e. (e.0, e.1 ∙ c.words_mut.ensures.value)) c.in-Err.ensures.unchanged)
    (of_device (Unit {0}) _ _ c.self.inside.checkpointer.is_broken c.self.inside.checkpointer.phase c.in-Err.fault (c.self.invariant.checkpointer c.if-self.false) may) (λ lawful. record {
      lawful = subst (λ (f : List (ℕ × Frame)). AreWithin f (length c.self.inside.detector.segments) (length c.self.inside.detector.sets.sets)) (sym frames) c.self.invariant.lawful;
      few = c.self.invariant.few;
      room = c.self.invariant.room;
      journals = λ no. absurd (true≢false no);
      fits = λ no. absurd (true≢false no);
      counting = c.self.invariant.counting;
      words = λ no. absurd (true≢false no);
      checkpointer = λ no. absurd (true≢false no);
      sealed = λ rooting. stays.went.sealed (c.self.invariant.sealed (subst (λ (p : Phase). is_rooting p ≡ true) c.in-Err.ensures.refused_phase rooting));
      stands = λ honest. let k = c.self.invariant.stands honest in (k.0, sealing_failed g.D.Disk _ k.0 k.1 g.met.D.Disk.has_its_bytes c.seal_pages.new.self c.seal_pages.new.pool c.if-self.false stays c.seal_pages.ensures.rest.0);
    })

pub returns-in-Err-clause-done : goal.returns-in-Err-clause-done
returns-in-Err-clause-done g c =
    let may = (of_sealing (Unit {0}) _ c.self.inside.detector.words c.self.inside.checkpointer.is_broken c.self.inside.checkpointer.phase c.in-Err.fault (c.self.invariant.checkpointer c.if-self.false) (c.self.invariant.words c.if-self.false)
    (subst (λ (p : Pool g.row.D.Denot). IsAllowedToSeal {T = Unit {0}} (IsOfSealing p) c.self.inside.checkpointer p (Err c.in-Err.fault)) c.words_mut.ensures.value c.in-Err.ensures.phase)) in
    rw (← c.self.view_is) (step_not_made g.D.Disk _ c.seal_pages.new.self c.seal_pages.new.pool (Unit {0}) (Unit {0}) _ c.self.invariant _ _ phase.Sealed c.self.inside.checkpointer.phase c.in-Err.fault c.not_made.result c.phase_now-phase.result c.not_made.new.is_broken c.if-self.false
    c.not_made.ensures.told (c.phase_now-phase.ensures ∙ ap (λ (s : ShownStore g.row.D.Denot). phase_of s) (sym c.self.view_is)) c.not_made.ensures.broken
    may (if_wrong (Unit {0}) c.in-Err.fault (λ e. (e.0, e.1 ∙ c.words_mut.ensures.value)) c.in-Err.ensures.unchanged) (of_device (Unit {0}) _ _ c.self.inside.checkpointer.is_broken c.self.inside.checkpointer.phase c.in-Err.fault (c.self.invariant.checkpointer c.if-self.false) may))

pub returns-in-Ok-clause-calls : goal.returns-in-Ok-clause-calls
returns-in-Ok-clause-calls g c =
    rw (← c.self.view_is) (subst (λ (p : Pool g.row.D.Denot). CallsAtMost g.D.Disk 1 (disk_of p) (disk_of c.seal_pages.new.pool)) c.words_mut.ensures.value c.seal_pages.ensures.calls)

pub returns-in-Err-clause-calls : goal.returns-in-Err-clause-calls
returns-in-Err-clause-calls g c =
    rw (← c.self.view_is) (subst (λ (p : Pool g.row.D.Denot). CallsAtMost g.D.Disk 1 (disk_of p) (disk_of c.seal_pages.new.pool)) c.words_mut.ensures.value c.seal_pages.ensures.calls)

pub returns-in-Ok-clause-limits : goal.returns-in-Ok-clause-limits
returns-in-Ok-clause-limits g c =
    let stays = subst (λ (p : Pool g.row.D.Denot). Stays g.D.Disk p c.seal_pages.new.pool) c.words_mut.ensures.value c.seal_pages.ensures.stays in
    rw (← c.self.view_is) stays.went.limits

pub returns-in-Err-clause-limits : goal.returns-in-Err-clause-limits
returns-in-Err-clause-limits g c =
    let stays = subst (λ (p : Pool g.row.D.Denot). Stays g.D.Disk p c.seal_pages.new.pool) c.words_mut.ensures.value c.seal_pages.ensures.stays in
    rw (← c.self.view_is) stays.went.limits
