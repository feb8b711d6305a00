use Rattle.std.proofs.Common.{rules, subst}
use Rattle.std.proofs.lemmas.Bool.{true≢false}
use Rattle.hg_disk.specs.Calls.{CallsAtMost}
use Rattle.hg_pool.specs.Calls.{IsStale}
use Rattle.hg_pool.specs.Kept.{CellsFrom, Stays}
use Rattle.hg_pool.specs.Maps.{disk_of}
use Rattle.hg_pool.specs.Shown.{ShownPool as Pool}
use Rattle.hg_store.proofs.Backing.{parts_stand}
use Rattle.hg_store.proofs.Checkpointing.{put_images, put_standing}
use Rattle.hg_store.proofs.Staying.{same_content, within_still, works_on}
use Rattle.hg_store.proofs.store.Store.put.Goals as goal

pub returns-then-self-clause-images : goal.returns-then-self-clause-images
returns-then-self-clause-images g c honest = let k = c.self.invariant.stands honest in rw (← c.self.view_is) (parts_stand g.D.Disk _ k.0 _ k.1 (λ doubt. doubt))

pub returns-in-Ok-clause-images : goal.returns-in-Ok-clause-images
returns-in-Ok-clause-images g c honest =
    let k = c.self.invariant.stands honest in
    let stays = subst (λ (p : Pool g.row.D.Denot). Stays g.D.Disk p c.put.new.self) c.words_mut.ensures.value c.put.ensures.writes.stays in
    rw (← c.self.view_is) (put_images g.D.Disk _ k.0 k.1 g.met.D.Disk.has_its_bytes c.put.new.self c.if-self.false stays)

pub returns-in-Err-clause-images : goal.returns-in-Err-clause-images
returns-in-Err-clause-images g c honest =
    let k = c.self.invariant.stands honest in
    let stays = subst (λ (p : Pool g.row.D.Denot). Stays g.D.Disk p c.put.new.self) c.words_mut.ensures.value c.put.ensures.writes.stays in
    rw (← c.self.view_is) (put_images g.D.Disk _ k.0 k.1 g.met.D.Disk.has_its_bytes c.put.new.self c.if-self.false stays)

pub returns-in-Ok-clause-live : goal.returns-in-Ok-clause-live
returns-in-Ok-clause-live g c honest =
    let k = c.self.invariant.stands honest in
    let stays = subst (λ (p : Pool g.row.D.Denot). Stays g.D.Disk p c.put.new.self) c.words_mut.ensures.value c.put.ensures.writes.stays in
    rw (← c.self.view_is) (same_content g.D.Disk c.self.inside.detector c.put.new.self (stays.live_is k.1.faithful.whole))

pub returns-in-Err-clause-live : goal.returns-in-Err-clause-live
returns-in-Err-clause-live g c honest =
    let k = c.self.invariant.stands honest in
    let stays = subst (λ (p : Pool g.row.D.Denot). Stays g.D.Disk p c.put.new.self) c.words_mut.ensures.value c.put.ensures.writes.stays in
    rw (← c.self.view_is) (same_content g.D.Disk c.self.inside.detector c.put.new.self (stays.live_is k.1.faithful.whole))

pub invariant_of-self : goal.invariant_of-self
invariant_of-self g c =
    let stays = subst (λ (p : Pool g.row.D.Denot). Stays g.D.Disk p c.put.new.self) c.words_mut.ensures.value c.put.ensures.writes.stays in
    record {
      lawful = within_still _ _ _ _ (subst (λ (p : Pool g.row.D.Denot). CellsFrom p.frames c.put.new.self.frames) c.words_mut.ensures.value c.put.ensures.cells) c.self.invariant.lawful;
      few = c.self.invariant.few;
      room = c.self.invariant.room;
      journals = c.self.invariant.journals;
      fits = c.self.invariant.fits;
      counting = c.self.invariant.counting;
      words = λ works. works_on g.D.Disk _ _ stays.went (search rules) (c.self.invariant.words works);
      checkpointer = c.self.invariant.checkpointer;
      sealed = λ rooting. stays.went.sealed (c.self.invariant.sealed rooting);
      stands = λ honest. let k = c.self.invariant.stands honest in (k.0, put_standing g.D.Disk _ k.0 k.1 g.met.D.Disk.has_its_bytes c.put.new.self _ c.if-self.false stays);
    }

pub invariant_of-self-in-Err : goal.invariant_of-self-in-Err
invariant_of-self-in-Err g c =
    let stays = subst (λ (p : Pool g.row.D.Denot). Stays g.D.Disk p c.put.new.self) c.words_mut.ensures.value c.put.ensures.writes.stays in
    record {
      lawful = within_still _ _ _ _ (subst (λ (p : Pool g.row.D.Denot). CellsFrom p.frames c.put.new.self.frames) c.words_mut.ensures.value c.put.ensures.cells) c.self.invariant.lawful;
      few = c.self.invariant.few;
      room = c.self.invariant.room;
      journals = λ no. absurd (true≢false no);
      fits = λ no. absurd (true≢false no);
      counting = c.self.invariant.counting;
      words = λ no. absurd (true≢false no);
      checkpointer = λ no. absurd (true≢false no);
      sealed = λ rooting. stays.went.sealed (c.self.invariant.sealed rooting);
      stands = λ honest. let k = c.self.invariant.stands honest in (k.0, put_standing g.D.Disk _ k.0 k.1 g.met.D.Disk.has_its_bytes c.put.new.self _ c.if-self.false stays);
    }

pub returns-in-Ok-clause-stale : goal.returns-in-Ok-clause-stale
returns-in-Ok-clause-stale g c told = rw (← c.self.view_is) (subst (λ (p : Pool g.row.D.Denot). IsStale p c.args.page.now) c.words_mut.ensures.value (c.in-Ok.ensures.stale told))

pub returns-in-Ok-clause-calls : goal.returns-in-Ok-clause-calls
returns-in-Ok-clause-calls g c =
    rw (← c.self.view_is) (subst (λ (p : Pool g.row.D.Denot). CallsAtMost g.D.Disk 1 (disk_of p) (disk_of c.put.new.self)) c.words_mut.ensures.value c.put.ensures.writes.calls)

pub returns-in-Err-clause-calls : goal.returns-in-Err-clause-calls
returns-in-Err-clause-calls g c =
    rw (← c.self.view_is) (subst (λ (p : Pool g.row.D.Denot). CallsAtMost g.D.Disk 1 (disk_of p) (disk_of c.put.new.self)) c.words_mut.ensures.value c.put.ensures.writes.calls)

pub returns-in-Ok-clause-limits : goal.returns-in-Ok-clause-limits
returns-in-Ok-clause-limits g c =
    let stays = subst (λ (p : Pool g.row.D.Denot). Stays g.D.Disk p c.put.new.self) c.words_mut.ensures.value c.put.ensures.writes.stays in
    rw (← c.self.view_is) stays.went.limits

pub returns-in-Err-clause-limits : goal.returns-in-Err-clause-limits
returns-in-Err-clause-limits g c =
    let stays = subst (λ (p : Pool g.row.D.Denot). Stays g.D.Disk p c.put.new.self) c.words_mut.ensures.value c.put.ensures.writes.stays in
    rw (← c.self.view_is) stays.went.limits
