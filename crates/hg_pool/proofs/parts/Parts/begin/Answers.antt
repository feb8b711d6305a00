use Rattle.std.proofs.Common.{ℕ, List, refl, ap}
use Rattle.lru.specs.LruCache.{LruCache}
use Rattle.hg_cells.specs.declared.cell.Cell.{Cell}
use Rattle.hg_pool.specs.Sound.{shown_of}
use Rattle.hg_pool.proofs.Begun.{frozen_begun, sound_begun, whole_begun}
use Rattle.hg_pool.proofs.parts.Parts.begin.Goals as goal

pub returns-clause-sound : goal.returns-clause-sound
returns-clause-sound g c =
    let p = c.args.self.now in
    let n = c.requires in
    sound_begun (shown_of p) p.root p.frozen c.args.table p.live p.waiting c.args.waiting p.copies c.clear.new.self p.frames p.slots p.is_sealed n.sound refl refl n.dirty n.free n.few n.left n.slots n.frozen_room n.live_room
    (ap (λ (x : LruCache ℕ (List Cell)). x.entries) c.clear.ensures) (ap (λ (x : LruCache ℕ (List Cell)). x.cap) c.clear.ensures)

pub returns-clause-frozen : goal.returns-clause-frozen
returns-clause-frozen g c =
    frozen_begun g.D.Disk (shown_of c.args.self.now) c.args.table.entries c.args.waiting.entries c.clear.new.self.entries c.requires.dirty c.requires.left (ap (λ (x : LruCache ℕ (List Cell)). x.entries) c.clear.ensures)

pub returns-clause-whole : goal.returns-clause-whole
returns-clause-whole g c =
    whole_begun g.D.Disk (shown_of c.args.self.now) c.args.table.entries c.args.waiting.entries c.clear.new.self.entries c.requires.dirty c.requires.left (ap (λ (x : LruCache ℕ (List Cell)). x.entries) c.clear.ensures)
