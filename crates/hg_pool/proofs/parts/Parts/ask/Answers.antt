use Rattle.std.proofs.Common.{◌≡◌, ◌-◌, ◌∷◌, ◌∙◌, ℕ, nat_eq, List, is_some, take, refl, sym, ap}
use Rattle.std.proofs.lemmas.Option.{IfSome_then}
use Rattle.std.specs.Map.{keys_of}
use Rattle.std.specs.Set.{remove_key}
use Rattle.lru.specs.LruCache.{LruCache}
use Rattle.hg_cache.specs.declared.frame.Frame.{Frame}
use Rattle.hg_pool.specs.Maps.{frame_in}
use Rattle.hg_pool.specs.Shown.{ShownPool}
use Rattle.hg_pool.specs.Sound.{shown_of}
use Rattle.hg_pool.proofs.Changing.{still_file}
use Rattle.hg_cache.proofs.Lookups.{if_true, looked_promoted}
use Rattle.hg_cache.proofs.Orders.{order_used}
use Rattle.hg_pool.proofs.Stepping.{sound_frames, stays_all}
use Rattle.hg_pool.proofs.parts.Parts.ask.Goals as goal

pub returns-clause-sound : goal.returns-clause-sound
returns-clause-sound g c =
    let p = c.args.self.now in
    let looks : (q : ℕ) → frame_in c.ask.new.self.entries q ≡ frame_in p.frames.entries q =
    λ q. ap (λ (x : LruCache ℕ Frame). frame_in x.entries q) c.ask.ensures.entries ∙ looked_promoted c.args.page q p.frames.entries c.len-count.ensures.valid.0 in
    let s = c.requires.sound in
    sound_frames p.root p.frozen p.live p.waiting p.copies p.frames c.ask.new.self p.slots p.is_sealed s (ap (λ (x : LruCache ℕ Frame). x.cap) c.ask.ensures.entries)
    (λ q f is. s.numbers q f (sym (looks q) ∙ is))
    (λ q slot f waits none is dirty. (f, looks q ∙ is, dirty))

pub returns-clause-stays : goal.returns-clause-stays
returns-clause-stays g c =
    let looks : (q : ℕ) → frame_in c.ask.new.self.entries q ≡ frame_in c.args.self.now.frames.entries q =
    λ q. ap (λ (x : LruCache ℕ Frame). frame_in x.entries q) c.ask.ensures.entries ∙ looked_promoted c.args.page q c.args.self.now.frames.entries c.len-count.ensures.valid.0 in
    let old : ShownPool g.row.D.Denot = shown_of c.args.self.now in
    let new : ShownPool g.row.D.Denot = record old { frames = c.ask.new.self.entries; most_frames = c.ask.new.self.cap } in
    stays_all g.D.Disk old new (still_file g.D.Disk old new refl refl (λ q s there. there) (λ sealed. sealed) (λ sealed. refl) (ap (λ (x : LruCache ℕ Frame). x.cap) c.ask.ensures.entries, refl) (λ none. none)) (λ s b named has. has)
    (λ q. record { frames = looks q; live = refl; frozen = refl; waiting = refl; copies = refl })

pub returns-clause-looks : goal.returns-clause-looks
returns-clause-looks g c q = ap (λ (x : LruCache ℕ Frame). frame_in x.entries q) c.ask.ensures.entries ∙ looked_promoted c.args.page q c.args.self.now.frames.entries c.len-count.ensures.valid.0

pub returns-clause-order : goal.returns-clause-order
returns-clause-order g c there =
    let p = c.args.self.now in
    let page = c.args.page in
    ap (λ (x : LruCache ℕ Frame). keys_of x.entries) c.ask.ensures.entries
    ∙ order_used page p.frames.entries there
    ∙ ap (λ (ks : List ℕ). page ∷ ks)
    (sym (if_true (is_some (frame_in p.frames.entries page)) (remove_key (nat_eq page) (keys_of p.frames.entries)) (take (p.frames.cap - 1) (keys_of p.frames.entries)) there))

pub returns-clause-cells : goal.returns-clause-cells
returns-clause-cells g c =
    let looks : (q : ℕ) → frame_in c.ask.new.self.entries q ≡ frame_in c.args.self.now.frames.entries q =
    λ q. ap (λ (x : LruCache ℕ Frame). frame_in x.entries q) c.ask.ensures.entries ∙ looked_promoted c.args.page q c.args.self.now.frames.entries c.len-count.ensures.valid.0 in
    IfSome_then c.ask.result c.ask.ensures.cells
    (λ answer is. IfSome_then answer is (λ cell has. (has.0, looks c.args.page ∙ has.1, has.2)))

pub returns-clause-within : goal.returns-clause-within
returns-clause-within g c n m within q f is i =
    let looks : (q : ℕ) → frame_in c.ask.new.self.entries q ≡ frame_in c.args.self.now.frames.entries q =
    λ q. ap (λ (x : LruCache ℕ Frame). frame_in x.entries q) c.ask.ensures.entries ∙ looked_promoted c.args.page q c.args.self.now.frames.entries c.len-count.ensures.valid.0 in
    within q f (sym (looks q) ∙ is) i
