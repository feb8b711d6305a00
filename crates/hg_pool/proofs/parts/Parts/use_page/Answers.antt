use Rattle.std.proofs.Common.{◌∙◌, ℕ, List, refl, sym, ap}
use Rattle.std.specs.Map.{keys_of}
use Rattle.lru.specs.LruCache.{LruCache}
use Rattle.hg_cache.specs.declared.frame.Frame.{Frame}
use Rattle.hg_pool.specs.Maps.{frame_in}
use Rattle.hg_pool.specs.Shown.{ShownPool}
use Rattle.hg_pool.specs.Sound.{shown_of}
use Rattle.hg_pool.proofs.Changing.{still_file}
use Rattle.hg_cache.proofs.Lookups.{looked_promoted}
use Rattle.hg_cache.proofs.Orders.{order_unused, order_used}
use Rattle.hg_pool.proofs.Stepping.{sound_frames, stays_all}
use Rattle.hg_pool.proofs.parts.Parts.use_page.Goals as goal

pub returns-clause-looks : goal.returns-clause-looks
returns-clause-looks g c q = ap (λ (x : LruCache ℕ Frame). frame_in x.entries q) c.promote.ensures.entries ∙ looked_promoted c.args.page q c.args.self.now.frames.entries c.len-count.ensures.valid.0

pub returns-clause-sound : goal.returns-clause-sound
returns-clause-sound g c =
    let p = c.args.self.now in
    let s = c.requires.sound in
    sound_frames p.root p.frozen p.live p.waiting p.copies p.frames c.promote.new.self p.slots p.is_sealed s (ap (λ (x : LruCache ℕ Frame). x.cap) c.promote.ensures.entries)
    (λ q f is. s.numbers q f (sym (returns-clause-looks g c q) ∙ is))
    (λ q slot f waits none is dirty. (f, returns-clause-looks g c q ∙ is, dirty))

pub returns-clause-stays : goal.returns-clause-stays
returns-clause-stays g c =
    let old : ShownPool g.row.D.Denot = shown_of c.args.self.now in
    let new : ShownPool g.row.D.Denot = record old { frames = c.promote.new.self.entries; most_frames = c.promote.new.self.cap } in
    stays_all g.D.Disk old new (still_file g.D.Disk old new refl refl (λ q s there. there) (λ sealed. sealed) (λ sealed. refl) (ap (λ (x : LruCache ℕ Frame). x.cap) c.promote.ensures.entries, refl) (λ none. none)) (λ s b named has. has)
    (λ q. record { frames = returns-clause-looks g c q; live = refl; frozen = refl; waiting = refl; copies = refl })

pub returns-clause-order : goal.returns-clause-order
returns-clause-order g c is = ap (λ (x : LruCache ℕ Frame). keys_of x.entries) c.promote.ensures.entries ∙ order_used c.args.page c.args.self.now.frames.entries (sym c.promote.ensures.value ∙ is)

pub returns-clause-absent : goal.returns-clause-absent
returns-clause-absent g c is =
    ap (λ (x : LruCache ℕ Frame). keys_of x.entries) c.promote.ensures.entries
    ∙ ap (λ (es : List (ℕ × Frame)). keys_of es) (order_unused c.args.page c.args.self.now.frames.entries (sym c.promote.ensures.value ∙ is))
