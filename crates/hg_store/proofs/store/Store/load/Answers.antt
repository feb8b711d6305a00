use Rattle.std.proofs.Common.{◌≡◌, ◌∙◌, ◌*◌, rules, ℕ, true, false, is_some, Err, inr, refl, sym, ap, subst, arith}
use Rattle.hg_model.specs.History.{overlaps}
use Rattle.hg_model.specs.declared.verdict.Refusal.{Refusal}
use Rattle.hg_sets.specs.Interning.{Table}
use Rattle.hg_cells.specs.Words.{after_refusal}
use Rattle.hg_detect.specs.Shown.{ShownDetector}
use Rattle.hg_pool.specs.Maps as pools
use Rattle.hg_pool.specs.Shown.{ShownPool as Pool}
use Rattle.hg_checkpoint.specs.declared.cause.Cause.{Cause}
use Rattle.hg_store.specs.Paging.{IsInMemory}
use Rattle.hg_store.specs.declared.steps.StepFault.TheVariants.{Refused}
use Rattle.hg_store.proofs.Backing.{parts_stand}
use Rattle.hg_store.proofs.Going.{images}
use Rattle.hg_store.proofs.Offering.{not_broken, reads_true}
use Rattle.hg_store.proofs.Loading.{damage_refused, failed_is, first_word, in_page, loaded, of_loading, of_pool, page_of_first, still_works}
use Rattle.hg_store.proofs.Staying.{works_on}
use Rattle.hg_store.proofs.store.Store.load.Goals as goal

pub returns-then-self-clause-images : goal.returns-then-self-clause-images
returns-then-self-clause-images g c honest = let k = c.self.invariant.stands honest in rw (← c.self.view_is) (parts_stand g.D.Disk _ k.0 _ k.1 (λ doubt. doubt))

pub returns-in-Ok-clause-images : goal.returns-in-Ok-clause-images
returns-in-Ok-clause-images g c honest = let k = c.self.invariant.stands honest in rw (← c.self.view_is) (images g.D.Disk g.met.D.Disk.has_its_bytes _ k.0 k.1 c.if-self.false c.bring.new.self.words c.bring.ensures.went)

pub returns-in-Err-clause-images : goal.returns-in-Err-clause-images
returns-in-Err-clause-images g c honest = let k = c.self.invariant.stands honest in rw (← c.self.view_is) (images g.D.Disk g.met.D.Disk.has_its_bytes _ k.0 k.1 c.if-self.false c.bring.new.self.words c.bring.ensures.went)

pub invariant_of-self : goal.invariant_of-self
invariant_of-self g c = record {
  lawful = c.bring.ensures.lawful;
  few = c.self.invariant.few;
  room = c.self.invariant.room;
  journals = c.self.invariant.journals;
  fits = c.self.invariant.fits;
  counting = c.self.invariant.counting;
  words = λ works. works_on g.D.Disk _ _ c.bring.ensures.went c.in-Ok.ensures.failures (c.self.invariant.words works);
  checkpointer = c.self.invariant.checkpointer;
  sealed = λ rooting. c.bring.ensures.went.sealed (c.self.invariant.sealed rooting);
  stands = λ honest.
      let k = c.self.invariant.stands honest in (
        k.0,
        loaded g.D.Disk g.met.D.Disk.has_its_bytes _ k.0 k.1 c.if-self.false c.bring.new.self _ c.bring.ensures.went (c.bring.ensures.faithful k.1.faithful) (ap (λ (d : ShownDetector (Pool g.row.D.Denot)). d.sets) c.bring.ensures.rest)
            (c.bring.ensures.content k.1.faithful),
      );
}

pub invariant_of-self-in-Err : goal.invariant_of-self-in-Err
invariant_of-self-in-Err g c = record {
  lawful = c.bring.ensures.lawful;
  few = c.self.invariant.few;
  room = c.self.invariant.room;
  journals = λ _. c.self.invariant.journals c.if-self.false;
  fits = λ _. c.self.invariant.fits c.if-self.false;
  counting = c.self.invariant.counting;
  words = search rules;
  checkpointer = λ _. c.self.invariant.checkpointer c.if-self.false;
  sealed = λ rooting. c.bring.ensures.went.sealed (c.self.invariant.sealed rooting);
  stands = λ honest.
      let k = c.self.invariant.stands honest in (
        k.0,
        loaded g.D.Disk g.met.D.Disk.has_its_bytes _ k.0 k.1 c.if-self.false c.bring.new.self _ c.bring.ensures.went (c.bring.ensures.faithful k.1.faithful) (ap (λ (d : ShownDetector (Pool g.row.D.Denot)). d.sets) c.bring.ensures.rest)
            (c.bring.ensures.content k.1.faithful),
      );
}

pub returns-in-Ok-clause-limits : goal.returns-in-Ok-clause-limits
returns-in-Ok-clause-limits g c = rw (← c.self.view_is) c.bring.ensures.went.limits

pub returns-in-Err-clause-limits : goal.returns-in-Err-clause-limits
returns-in-Err-clause-limits g c = rw (← c.self.view_is) c.bring.ensures.went.limits

pub cause_of-requires : goal.cause_of-requires
cause_of-requires g c = of_pool c.bring.new.self.words c.in-Err.refusal c.in-Err.ensures.refusal

pub returns-in-Ok-clause-content : goal.returns-in-Ok-clause-content
returns-in-Ok-clause-content g c honest = let k = c.self.invariant.stands honest in rw (← c.self.view_is) (record { live = c.bring.ensures.content k.1.faithful; undamaged = tt })

pub returns-in-Err-clause-content : goal.returns-in-Err-clause-content
returns-in-Err-clause-content g c honest =
    let k = c.self.invariant.stands honest in
    rw (← c.self.view_is) (record {
      live = c.bring.ensures.content k.1.faithful;
      undamaged = damage_refused c.cause_of.result c.in-Err.refusal c.cause_of.ensures (c.in-Err.ensures.undamaged (reads_true g.D.Disk _ k.0 k.1));
    })

pub returns-in-Err-clause-device : goal.returns-in-Err-clause-device
returns-in-Err-clause-device g c =
    let slots = c.in-Err.ensures.failures ∙ failed_is c.cause_of.result c.in-Err.refusal (g.D.Disk.failures (pools.disk_of c.self.inside.detector.words)) c.cause_of.ensures in
    rw (← c.self.view_is) (omega (arith, slots))

pub returns-in-Ok-clause-done : goal.returns-in-Ok-clause-done
returns-in-Ok-clause-done g c =
    let works : c.self.inside.is_broken ≡ false = c.if-self.false in
    let on : pools.is_broken c.bring.new.self.words ≡ false = works_on g.D.Disk _ _ c.bring.ensures.went c.in-Ok.ensures.failures (c.self.invariant.words works) in
    let page = c.get.result in
    rw (← c.self.view_is) (record {
      moves = record {
        same = record { journals = record { journal0 = refl; journal1 = refl; turns = refl }; counted = refl; root0 = refl; root1 = refl; committed = refl; frozen = refl; durable = refl; progress = refl; in_doubt = refl };
        pending = refl;
        detector = c.bring.ensures.rest;
        works = works;
        breaks = λ _. refl;
        by_file = λ _. works ∙ sym on;
        still = λ broken. absurd (cc (sym works ∙ broken));
      };
      allowed = (works, works);
      loaded = subst (λ (n : ℕ). is_some (pools.frame_in c.bring.new.self.words.frames n) ≡ true) (page_of_first page ∙ c.get.ensures.value) (c.in-Ok.ensures.brought (page * 256) (first_word page));
      again = λ _ _. refl;
    })

pub returns-in-Err-clause-done : goal.returns-in-Err-clause-done
returns-in-Err-clause-done g c =
    let works : c.self.inside.is_broken ≡ false = c.if-self.false in
    let r = c.in-Err.refusal in
    let why = c.cause_of.result in
    let after = c.bring.new.self.words in
    let before = c.self.inside.detector.words in
    let went = c.bring.ensures.went in
    let failed = c.in-Err.ensures.failures in
    let worked = c.self.invariant.words works in
    let never = not_broken g.D.Disk before after went r failed worked (inr (inr c.in-Err.ensures.refusal)) in
    let told : c.is_broken-self-inside.result ≡ pools.is_broken after = search rules in
    rw (← c.self.view_is) (record {
      moves = record {
        same = record { journals = record { journal0 = refl; journal1 = refl; turns = refl }; counted = refl; root0 = refl; root1 = refl; committed = refl; frozen = refl; durable = refl; progress = refl; in_doubt = refl };
        pending = refl;
        detector = c.bring.ensures.rest;
        works = tt;
        breaks = λ no. told ∙ still_works g.D.Disk before after went why r c.cause_of.ensures failed worked (λ device. no (ap (λ (x : Cause). Err (Refused x)) device)) ∙ sym works;
        by_file = λ _. told;
        still = λ broken. absurd (cc (sym works ∙ broken));
      };
      allowed = inr (works, works, of_loading after why r c.cause_of.ensures never c.in-Err.ensures.refusal);
      loaded = tt;
      again = λ _ there. absurd (cc (c.in-Err.ensures.again (λ w over. subst (λ (n : ℕ). is_some (pools.frame_in before.frames n) ≡ true) (sym (in_page c.get.result w over ∙ c.get.ensures.value)) there)));
    })
