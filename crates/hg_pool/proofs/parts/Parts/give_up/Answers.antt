use Rattle.std.proofs.Common.{◌∙◌, ℕ, ap, arith}
use Rattle.lru.specs.LruCache.{LruCache}
use Rattle.hg_cache.specs.declared.frame.Frame.{Frame}
use Rattle.hg_pool.specs.Maps.{frame_in}
use Rattle.hg_pool.specs.Sound.{shown_of}
use Rattle.hg_cache.proofs.Lookups.{looked_removed}
use Rattle.hg_pool.proofs.GivingUp.{reached_given_up, sound_given_up, went_given_up}
use Rattle.hg_pool.proofs.parts.Parts.give_up.Goals as goal

pub returns-clause-frames : goal.returns-clause-frames
returns-clause-frames g c q =
    ap (λ (x : LruCache ℕ Frame). frame_in x.entries q) c.remove.ensures.entries ∙ looked_removed c.args.page q c.args.self.now.frames.entries c.len-count.ensures.valid.0

pub returns-clause-sound : goal.returns-clause-sound
returns-clause-sound g c =
    let p = c.args.self.now in
    sound_given_up p.root p.frozen p.live c.remove-former.new.self p.waiting p.copies p.frames c.remove.new.self p.slots p.is_sealed c.args.page c.requires.sound
    (ap (λ (x : LruCache ℕ Frame). x.cap) c.remove.ensures.entries) (returns-clause-frames g c) c.remove-former.ensures.removed c.remove-former.ensures.room.0 c.remove-former.ensures.room.1
    (omega (arith, c.remove-former.ensures.length)) c.requires.settled

pub returns-clause-reached : goal.returns-clause-reached
returns-clause-reached g c =
    let p = c.args.self.now in
    reached_given_up (shown_of p) c.remove-former.new.self.entries c.remove.new.self.entries c.remove.new.self.cap c.args.page p.search_from c.next_search-self.result c.requires.reached c.remove-former.ensures.removed
    (λ slot lt. let at = c.next_search-self.ensures slot lt in (at.0, λ is. at.1 (c.remove-former.ensures.answer ∙ is)))

pub returns-clause-went : goal.returns-clause-went
returns-clause-went g c =
    let p = c.args.self.now in
    went_given_up g.D.Disk (shown_of p) c.remove-former.new.self.entries c.remove.new.self.entries c.remove.new.self.cap c.args.page c.remove-former.ensures.removed (returns-clause-frames g c)
    (ap (λ (x : LruCache ℕ Frame). x.cap) c.remove.ensures.entries) c.requires.settled
