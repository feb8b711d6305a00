use Rattle.std.proofs.Common.{◌≡◌, ◌==◌, ◌∙◌, ◌<◌, ◌^◌, ℕ, Bool, List, Option, Some, None, get_or, true, false, if◌then◌else◌, refl, sym, ap, subst}
use Rattle.lru.specs.LruCache.{LruCache}
use Rattle.hg_cells.specs.declared.cell.Cell.TheVariants.{New}
use Rattle.hg_pages.specs.Tables.{slot_in}
use Rattle.hg_cache.specs.declared.frame.Frame.{Frame}
use Rattle.hg_pool.specs.Kept.{IsWhole}
use Rattle.hg_pool.specs.Maps.{bytes_of, frame_in, in_frame_or, in_slot}
use Rattle.hg_pool.specs.Shown.{ShownPool}
use Rattle.hg_pool.specs.Sound.{shown_of}
use Rattle.hg_pool.proofs.Changing.{LiveHere, still_file}
use Rattle.hg_cache.proofs.Lookups.{if_false, if_true, itself, looked_new, same_number}
use Rattle.hg_pool.proofs.Stepping.{frozen_from_live, sound_frames, stays_at}
use Rattle.hg_pool.proofs.parts.Parts.take_in.Goals as goal

pub returns-clause-frames : goal.returns-clause-frames
returns-clause-frames g c =
    ap (λ (x : LruCache ℕ Frame). x.entries) c.in_ok-put.ensures.entries

number : (b : Bool) (page q : ℕ) (new f : Frame) (o : Option Frame) → (page == q) ≡ b → (if b then Some new else o) ≡ Some f → page < 2 ^ 54 → (o ≡ Some f → q < 2 ^ 54) → q < 2 ^ 54
number true page q new f o test is lt rest = subst (λ (n : ℕ). n < 2 ^ 54) (same_number page q test) lt
number false page q new f o test is lt rest = rest is

apart : (b : Bool) (page q : ℕ) (f : Frame) (frames : List (ℕ × Frame)) → (page == q) ≡ b → frame_in frames page ≡ None → frame_in frames q ≡ Some f → b ≡ false
apart true page q f frames test none is = absurd (cc (sym none ∙ ap (λ (n : ℕ). frame_in frames n) (same_number page q test) ∙ is))
apart false page q f frames test none is = refl

pub returns-clause-sound : goal.returns-clause-sound
returns-clause-sound g c =
    let p = c.args.self.now in
    let s = c.requires.sound in
    let page = c.args.page in
    let fresh : Frame = record { cells = c.args.cells; is_dirty = false } in
    let look : (q : ℕ) → frame_in c.put.new.self.entries q ≡ (if page == q then Some fresh else frame_in p.frames.entries q) =
    λ q. ap (λ (x : List (ℕ × Frame)). frame_in x q) (returns-clause-frames g c) ∙ looked_new page q fresh p.frames.entries in
    sound_frames p.root p.frozen p.live p.waiting p.copies p.frames c.put.new.self p.slots p.is_sealed s (ap (λ (x : LruCache ℕ Frame). x.cap) c.in_ok-put.ensures.entries)
    (λ q f is. number (page == q) page q fresh f (frame_in p.frames.entries q) refl (sym (look q) ∙ is) c.requires.number (s.numbers q f))
    (λ q slot f waits none is dirty. (f, look q ∙ if_false (page == q) (Some fresh) (frame_in p.frames.entries q) (apart (page == q) page q f p.frames.entries refl c.requires.absent is) ∙ is, dirty))

pub returns-clause-stays : goal.returns-clause-stays
returns-clause-stays g c =
    let p = c.args.self.now in
    let old : ShownPool g.row.D.Denot = shown_of p in
    let new : ShownPool g.row.D.Denot = record old { frames = c.put.new.self.entries; most_frames = c.put.new.self.cap } in
    let page = c.args.page in
    let fresh : Frame = record { cells = c.args.cells; is_dirty = false } in
    let look : (q : ℕ) → frame_in new.frames q ≡ (if page == q then Some fresh else frame_in p.frames.entries q) =
    λ q. ap (λ (x : List (ℕ × Frame)). frame_in x q) (returns-clause-frames g c) ∙ looked_new page q fresh p.frames.entries in
    let here : frame_in new.frames page ≡ Some fresh = look page ∙ if_true (page == page) (Some fresh) (frame_in p.frames.entries page) (itself page) in
    let live : IsWhole g.D.Disk old → LiveHere g.D.Disk page old new = λ h i lt.
    ap (λ (o : Option Frame). in_frame_or o (in_slot (bytes_of g.D.Disk old) (slot_in old.live page) i) i) here
    ∙ c.requires.stands h i lt
    ∙ sym (ap (λ (o : Option Frame). in_frame_or o (in_slot (bytes_of g.D.Disk old) (slot_in old.live page) i) i) c.requires.absent) in
    stays_at g.D.Disk old new page (still_file g.D.Disk old new refl refl (λ q s there. there) (λ sealed. sealed) (λ sealed. refl) (ap (λ (x : LruCache ℕ Frame). x.cap) c.in_ok-put.ensures.entries, refl) (λ none. none)) (λ s b named has. has)
    (λ q test. record { frames = look q ∙ if_false (page == q) (Some fresh) (frame_in p.frames.entries q) test; live = refl; frozen = refl; waiting = refl; copies = refl })
    live
    (λ h. record {
      frozen = frozen_from_live g.D.Disk page old new refl refl (λ i lt. refl) (live h);
      whole = record {
        live_page = (h.pages page).live_page;
        frozen_page = (h.pages page).frozen_page;
        clean = λ f there clean i lt. let same : fresh ≡ f = cc (sym here ∙ there) in ap (λ (x : Frame). get_or x.cells i New) (sym same) ∙ c.requires.stands h i lt;
      };
    })
