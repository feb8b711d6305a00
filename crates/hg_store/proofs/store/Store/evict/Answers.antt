use Rattle.std.proofs.Common.{◌≡◌, ◌∙◌, rules, false, Err, inr, refl, sym, ap, subst, arith}
use Rattle.hg_model.specs.declared.verdict.Refusal.{Refusal}
use Rattle.hg_cells.specs.Words.{after_refusal}
use Rattle.hg_disk.specs.Calls.{CallsAtMost}
use Rattle.hg_pool.specs.Answers.{order_of}
use Rattle.hg_pool.specs.Calls.{HasChanged, HasFreed, LeavesUnwritten}
use Rattle.hg_pool.specs.Kept.{CellsFrom, Stays}
use Rattle.hg_pool.specs.Maps as pools
use Rattle.hg_pool.specs.Maps.{disk_of}
use Rattle.hg_pool.specs.Shown.{ShownPool as Pool}
use Rattle.hg_checkpoint.specs.declared.cause.Cause.{Cause}
use Rattle.hg_store.specs.declared.steps.StepFault.TheVariants.{Refused}
use Rattle.hg_store.proofs.Backing.{parts_stand}
use Rattle.hg_store.proofs.Checkpointing.{put_images, put_standing}
use Rattle.hg_store.proofs.Offering.{not_broken}
use Rattle.hg_store.proofs.Loading.{device_refused, failed_is, of_evicting, of_pool, still_works}
use Rattle.hg_store.proofs.Staying.{same_content, within_still, works_on}
use Rattle.hg_store.proofs.store.Store.evict.Goals as goal

pub returns-then-self-clause-images : goal.returns-then-self-clause-images
returns-then-self-clause-images g c honest = let k = c.self.invariant.stands honest in rw (← c.self.view_is) (parts_stand g.D.Disk _ k.0 _ k.1 (λ doubt. doubt))

pub returns-in-Ok-clause-images : goal.returns-in-Ok-clause-images
returns-in-Ok-clause-images g c honest =
    let k = c.self.invariant.stands honest in
    let stays = subst (λ (p : Pool g.row.D.Denot). Stays g.D.Disk p c.evict.new.self) c.words_mut.ensures.value c.evict.ensures.moves.stays in
    rw (← c.self.view_is) (put_images g.D.Disk _ k.0 k.1 g.met.D.Disk.has_its_bytes c.evict.new.self c.if-self.false stays)

pub returns-in-Err-clause-images : goal.returns-in-Err-clause-images
returns-in-Err-clause-images g c honest =
    let k = c.self.invariant.stands honest in
    let stays = subst (λ (p : Pool g.row.D.Denot). Stays g.D.Disk p c.evict.new.self) c.words_mut.ensures.value c.evict.ensures.moves.stays in
    rw (← c.self.view_is) (put_images g.D.Disk _ k.0 k.1 g.met.D.Disk.has_its_bytes c.evict.new.self c.if-self.false stays)

pub returns-in-Ok-clause-live : goal.returns-in-Ok-clause-live
returns-in-Ok-clause-live g c honest =
    let k = c.self.invariant.stands honest in
    let stays = subst (λ (p : Pool g.row.D.Denot). Stays g.D.Disk p c.evict.new.self) c.words_mut.ensures.value c.evict.ensures.moves.stays in
    rw (← c.self.view_is) (same_content g.D.Disk c.self.inside.detector c.evict.new.self (stays.live_is k.1.faithful.whole))

pub returns-in-Err-clause-live : goal.returns-in-Err-clause-live
returns-in-Err-clause-live g c honest =
    let k = c.self.invariant.stands honest in
    let stays = subst (λ (p : Pool g.row.D.Denot). Stays g.D.Disk p c.evict.new.self) c.words_mut.ensures.value c.evict.ensures.moves.stays in
    rw (← c.self.view_is) (same_content g.D.Disk c.self.inside.detector c.evict.new.self (stays.live_is k.1.faithful.whole))

pub invariant_of-self : goal.invariant_of-self
invariant_of-self g c =
    let stays = subst (λ (p : Pool g.row.D.Denot). Stays g.D.Disk p c.evict.new.self) c.words_mut.ensures.value c.evict.ensures.moves.stays in
    record {
      lawful = within_still _ _ _ _ (subst (λ (p : Pool g.row.D.Denot). CellsFrom p.frames c.evict.new.self.frames) c.words_mut.ensures.value c.evict.ensures.cells) c.self.invariant.lawful;
      few = c.self.invariant.few;
      room = c.self.invariant.room;
      journals = c.self.invariant.journals;
      fits = c.self.invariant.fits;
      counting = c.self.invariant.counting;
      words = λ works. works_on g.D.Disk _ _ stays.went (search rules) (c.self.invariant.words works);
      checkpointer = c.self.invariant.checkpointer;
      sealed = λ rooting. stays.went.sealed (c.self.invariant.sealed rooting);
      stands = λ honest. let k = c.self.invariant.stands honest in (k.0, put_standing g.D.Disk _ k.0 k.1 g.met.D.Disk.has_its_bytes c.evict.new.self _ c.if-self.false stays);
    }

pub invariant_of-self-in-Err : goal.invariant_of-self-in-Err
invariant_of-self-in-Err g c =
    let stays = subst (λ (p : Pool g.row.D.Denot). Stays g.D.Disk p c.evict.new.self) c.words_mut.ensures.value c.evict.ensures.moves.stays in
    record {
      lawful = within_still _ _ _ _ (subst (λ (p : Pool g.row.D.Denot). CellsFrom p.frames c.evict.new.self.frames) c.words_mut.ensures.value c.evict.ensures.cells) c.self.invariant.lawful;
      few = c.self.invariant.few;
      room = c.self.invariant.room;
      journals = λ _. c.self.invariant.journals c.if-self.false;
      fits = λ _. c.self.invariant.fits c.if-self.false;
      counting = c.self.invariant.counting;
      words = search rules;
      checkpointer = λ _. c.self.invariant.checkpointer c.if-self.false;
      sealed = λ rooting. stays.went.sealed (c.self.invariant.sealed rooting);
      stands = λ honest. let k = c.self.invariant.stands honest in (k.0, put_standing g.D.Disk _ k.0 k.1 g.met.D.Disk.has_its_bytes c.evict.new.self _ c.if-self.false stays);
    }

pub returns-in-Ok-clause-calls : goal.returns-in-Ok-clause-calls
returns-in-Ok-clause-calls g c =
    rw (← c.self.view_is) (subst (λ (p : Pool g.row.D.Denot). CallsAtMost g.D.Disk 1 (disk_of p) (disk_of c.evict.new.self)) c.words_mut.ensures.value c.evict.ensures.moves.calls)

pub returns-in-Err-clause-calls : goal.returns-in-Err-clause-calls
returns-in-Err-clause-calls g c =
    rw (← c.self.view_is) (subst (λ (p : Pool g.row.D.Denot). CallsAtMost g.D.Disk 1 (disk_of p) (disk_of c.evict.new.self)) c.words_mut.ensures.value c.evict.ensures.moves.calls)

pub returns-in-Ok-clause-limits : goal.returns-in-Ok-clause-limits
returns-in-Ok-clause-limits g c =
    let stays = subst (λ (p : Pool g.row.D.Denot). Stays g.D.Disk p c.evict.new.self) c.words_mut.ensures.value c.evict.ensures.moves.stays in
    rw (← c.self.view_is) stays.went.limits

pub returns-in-Err-clause-limits : goal.returns-in-Err-clause-limits
returns-in-Err-clause-limits g c =
    let stays = subst (λ (p : Pool g.row.D.Denot). Stays g.D.Disk p c.evict.new.self) c.words_mut.ensures.value c.evict.ensures.moves.stays in
    rw (← c.self.view_is) stays.went.limits

pub cause_of-requires : goal.cause_of-requires
cause_of-requires g c = of_pool c.evict.new.self c.in-Err.refusal c.in-Err.ensures.moves.refusal

pub returns-in-Ok-clause-done : goal.returns-in-Ok-clause-done
returns-in-Ok-clause-done g c =
    let works : c.self.inside.is_broken ≡ false = c.if-self.false in
    let stays = subst (λ (p : Pool g.row.D.Denot). Stays g.D.Disk p c.evict.new.self) c.words_mut.ensures.value c.evict.ensures.moves.stays in
    let on : pools.is_broken c.evict.new.self ≡ false = works_on g.D.Disk _ _ stays.went (search rules) (c.self.invariant.words works) in
    rw (← c.self.view_is) (record {
      moves = record {
        same = record { journals = record { journal0 = refl; journal1 = refl; turns = refl }; counted = refl; root0 = refl; root1 = refl; committed = refl; frozen = refl; durable = refl; progress = refl; in_doubt = refl };
        pending = refl;
        detector = refl;
        works = works;
        breaks = λ _. refl;
        by_file = λ _. works ∙ sym on;
        still = λ broken. absurd (cc (sym works ∙ broken));
      };
      allowed = (works, works);
      freed = subst (λ (p : Pool g.row.D.Denot). HasFreed p c.evict.new.self c.in-Ok.freed) c.words_mut.ensures.value c.in-Ok.ensures.freed;
      unwritten = subst (λ (p : Pool g.row.D.Denot). LeavesUnwritten p c.evict.new.self c.in-Ok.freed) c.words_mut.ensures.value c.in-Ok.ensures.unwritten;
      order = tt;
      changed = λ _. tt;
      broken = λ told. absurd (cc told);
    })

pub returns-in-Err-clause-device : goal.returns-in-Err-clause-device
returns-in-Err-clause-device g c =
    let r = c.in-Err.refusal in
    let why = c.cause_of.result in
    let failed = subst (λ (p : Pool g.row.D.Denot). g.D.Disk.failures (disk_of c.evict.new.self) ≡ after_refusal r (g.D.Disk.failures (disk_of p))) c.words_mut.ensures.value c.in-Err.ensures.moves.device in
    let slots = failed ∙ failed_is why r (g.D.Disk.failures (disk_of c.self.inside.detector.words)) c.cause_of.ensures in
    rw (← c.self.view_is) (omega (arith, slots))

pub returns-in-Err-clause-done : goal.returns-in-Err-clause-done
returns-in-Err-clause-done g c =
    let works : c.self.inside.is_broken ≡ false = c.if-self.false in
    let r = c.in-Err.refusal in
    let why = c.cause_of.result in
    let lent = c.words_mut.ensures.value in
    let after = c.evict.new.self in
    let before = c.self.inside.detector.words in
    let stays = subst (λ (p : Pool g.row.D.Denot). Stays g.D.Disk p after) lent c.evict.ensures.moves.stays in
    let failed = subst (λ (p : Pool g.row.D.Denot). g.D.Disk.failures (disk_of after) ≡ after_refusal r (g.D.Disk.failures (disk_of p))) lent c.in-Err.ensures.moves.device in
    let worked = c.self.invariant.words works in
    let never = not_broken g.D.Disk before after stays.went r failed worked (inr (inr c.in-Err.ensures.moves.refusal)) in
    let told : c.is_broken-self-inside.result ≡ pools.is_broken after = search rules in
    rw (← c.self.view_is) (record {
      moves = record {
        same = record { journals = record { journal0 = refl; journal1 = refl; turns = refl }; counted = refl; root0 = refl; root1 = refl; committed = refl; frozen = refl; durable = refl; progress = refl; in_doubt = refl };
        pending = refl;
        detector = refl;
        works = tt;
        breaks = λ no. told ∙ still_works g.D.Disk before after stays.went why r c.cause_of.ensures failed worked (λ device. no (ap (λ (x : Cause). Err (Refused x)) device)) ∙ sym works;
        by_file = λ _. told;
        still = λ broken. absurd (cc (sym works ∙ broken));
      };
      allowed = inr (works, works, of_evicting after why r c.cause_of.ensures never c.in-Err.ensures.undamaged c.in-Err.ensures.moves.refusal);
      freed = tt;
      unwritten = tt;
      order = subst (λ (p : Pool g.row.D.Denot). order_of after ≡ order_of p) lent c.in-Err.ensures.kept;
      changed = λ _. subst (λ (p : Pool g.row.D.Denot). HasChanged p) lent c.in-Err.ensures.changed;
      broken = λ is. told ∙ c.in-Err.ensures.breaks (ap (λ (x : Refusal). Err x) (device_refused why r c.cause_of.ensures (cc is)));
    })
