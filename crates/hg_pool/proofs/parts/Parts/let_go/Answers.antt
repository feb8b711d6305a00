use Rattle.std.proofs.Common.{◌≡◌, ◌==◌, ◌∙◌, ℕ, Bool, Option, Some, None, get_or, true, false, if◌then◌else◌, refl, sym, ap}
use Rattle.lru.specs.LruCache.{LruCache}
use Rattle.hg_cells.specs.declared.cell.Cell.{Cell}
use Rattle.hg_cells.specs.declared.cell.Cell.TheVariants.{New}
use Rattle.hg_pages.specs.Tables.{slot_in}
use Rattle.hg_cache.specs.declared.frame.Frame.{Frame}
use Rattle.hg_pool.specs.Maps.{bytes_of, frame_in, in_frame_or, in_slot}
use Rattle.hg_pool.specs.Shown.{ShownPool}
use Rattle.hg_pool.specs.Sound.{shown_of}
use Rattle.hg_pool.specs.Kept.{IsWhole}
use Rattle.hg_pool.proofs.Changing.{LiveHere, still_file}
use Rattle.hg_cache.proofs.Lookups.{if_false, if_true, itself, looked_removed}
use Rattle.hg_pool.proofs.Stepping.{cells_gone, clean_apart, frozen_from_live, sound_frames, stays_at}
use Rattle.hg_pool.proofs.parts.Parts.let_go.Goals as goal

looks : (page : ℕ) (o : Option Frame) (stored : Cell) (i : ℕ) → ((f : Frame) → o ≡ Some f → get_or f.cells i New ≡ stored) → stored ≡ in_frame_or o stored i
looks page None stored i same = refl
looks page (Some f) stored i same = sym (same f refl)

pub returns-clause-sound : goal.returns-clause-sound
returns-clause-sound g c =
    let p = c.args.self.now in
    let s = c.requires.sound in
    let new = c.remove.ensures.entries in
    let look : (q : ℕ) → frame_in c.remove.new.self.entries q ≡ (if c.args.page == q then None else frame_in p.frames.entries q) =
    λ q. ap (λ (x : LruCache ℕ Frame). frame_in x.entries q) new ∙ looked_removed c.args.page q p.frames.entries c.len-count.ensures.valid.0 in
    sound_frames p.root p.frozen p.live p.waiting p.copies p.frames c.remove.new.self p.slots p.is_sealed s (ap (λ (x : LruCache ℕ Frame). x.cap) new)
    (λ q f is. s.numbers q f (kept (c.args.page == q) (frame_in p.frames.entries q) f (sym (look q) ∙ is)))
    (λ q slot f waits none is dirty.
    let apart = clean_apart p.root p.frozen p.live p.waiting p.copies p.frames p.slots p.is_sealed c.args.page q slot f s c.requires.clean is dirty in
    (f, look q ∙ if_false (c.args.page == q) None (frame_in p.frames.entries q) apart ∙ is, dirty))
  where
    kept : (b : Bool) (o : Option Frame) (f : Frame) → (if b then None else o) ≡ Some f → o ≡ Some f
    kept true o f is = absurd (cc is)
    kept false o f is = is

pub returns-clause-stays : goal.returns-clause-stays
returns-clause-stays g c =
    let p = c.args.self.now in
    let old : ShownPool g.row.D.Denot = shown_of p in
    let new : ShownPool g.row.D.Denot = record old { frames = c.remove.new.self.entries; most_frames = c.remove.new.self.cap } in
    let page = c.args.page in
    let is = c.remove.ensures.entries in
    let look : (q : ℕ) → frame_in new.frames q ≡ (if page == q then None else frame_in p.frames.entries q) =
    λ q. ap (λ (x : LruCache ℕ Frame). frame_in x.entries q) is ∙ looked_removed page q p.frames.entries c.len-count.ensures.valid.0 in
    let gone : frame_in new.frames page ≡ None = look page ∙ if_true (page == page) None (frame_in p.frames.entries page) (itself page) in
    let live : IsWhole g.D.Disk old → LiveHere g.D.Disk page old new = λ h i lt.
    ap (λ (o : Option Frame). in_frame_or o (in_slot (bytes_of g.D.Disk old) (slot_in old.live page) i) i) gone
    ∙ looks page (frame_in old.frames page) (in_slot (bytes_of g.D.Disk old) (slot_in old.live page) i) i (λ f there. (h.pages page).clean f there (c.requires.clean f there) i lt) in
    stays_at g.D.Disk old new page (still_file g.D.Disk old new refl refl (λ q s there. there) (λ sealed. sealed) (λ sealed. refl) (ap (λ (x : LruCache ℕ Frame). x.cap) is, refl) (λ none. none)) (λ s b named has. has)
    (λ q apart. record { frames = look q ∙ if_false (page == q) None (frame_in p.frames.entries q) apart; live = refl; frozen = refl; waiting = refl; copies = refl })
    live
    (λ h. record {
      frozen = frozen_from_live g.D.Disk page old new refl refl (λ i lt. refl) (live h);
      whole = record { live_page = (h.pages page).live_page; frozen_page = (h.pages page).frozen_page; clean = λ f there. absurd (cc (sym gone ∙ there)) };
    })

pub returns-clause-cells : goal.returns-clause-cells
returns-clause-cells g c =
    let p = c.args.self.now in
    cells_gone c.args.page p.frames.entries c.remove.new.self.entries
    (λ q. ap (λ (x : LruCache ℕ Frame). frame_in x.entries q) c.remove.ensures.entries ∙ looked_removed c.args.page q p.frames.entries c.len-count.ensures.valid.0)
