use Rattle.std.proofs.Common.{◌≡◌, ◌==◌, ◌∙◌, ℕ, ◌+◌, ◌<◌, ◌≤◌, List, [], ◌∷◌, length, Option, Some, None, is_some, if◌then◌else◌, arith, sym, ap, subst}
use Rattle.std.specs.Option.{unwrap_or}
use Rattle.lru.specs.LruCache.{LruCache}
use Rattle.hg_cells.specs.declared.cell.Cell.{Cell}
use Rattle.hg_pages.specs.Tables as tables
use Rattle.hg_pages.specs.Tables.{AreEntries, IsNamed, slot_in}
use Rattle.hg_pages.proofs.Places.{in_order, once}
use Rattle.hg_pool.specs.Maps.{copy_in}
use Rattle.hg_pool.specs.Shown.{ShownPool}
use Rattle.hg_pool.specs.Sound.{AreSound, shown_of}
use Rattle.hg_cache.proofs.Lookups.{itself, looked_removed}
use Rattle.hg_pool.proofs.Moving.{no_page_left, sound_released, stays_released}
use Rattle.hg_pool.proofs.Stepping.{the_some}
use Rattle.hg_pool.proofs.parts.Parts.release.Goals as goal

-- where one page waits, there is room for it
one_waits : (waiting : List (ℕ × ℕ)) (page slot : ℕ) → slot_in waiting page ≡ Some slot → 1 ≤ length waiting
one_waits [] page slot is = absurd (let bad : None ≡ Some slot = is in cc)
one_waits (entry ∷ waiting) page slot is = omega arith

room_for_one : (root t : tables.ShownTable) (frozen : Option tables.ShownTable) (waiting : List (ℕ × ℕ)) (page slot : ℕ) → frozen ≡ Some t → slot_in waiting page ≡ Some slot
    → length (unwrap_or frozen root).entries + length waiting ≤ (unwrap_or frozen root).capacity → slot < (unwrap_or frozen root).slots → (length t.entries < t.capacity) × (slot < t.slots)
room_for_one root t frozen waiting page slot is waits room within =
    let here : length t.entries + length waiting ≤ t.capacity = subst (λ (o : Option tables.ShownTable). length (unwrap_or o root).entries + length waiting ≤ (unwrap_or o root).capacity) is room in
    (omega (arith, here, one_waits waiting page slot waits), subst (λ (o : Option tables.ShownTable). slot < (unwrap_or o root).slots) is within)

pub returns-clause-unpicked : goal.returns-clause-unpicked
returns-clause-unpicked g c named =
    let p = c.args.self.now in
    let left = no_page_left (c.args.page == named.0) (slot_in p.waiting.entries named.0) c.args.slot (sym (c.remove.ensures.removed named.0) ∙ named.1) in
    let same = once p.waiting.entries c.args.page named.0 c.args.slot (in_order p.waiting.entries c.len-entries.ensures.entries).distinct c.requires.waits left.1 in
    absurd (cc (sym left.0 ∙ ap (λ (n : ℕ). c.args.page == n) (sym same) ∙ itself c.args.page))

pub returns-clause-fewer : goal.returns-clause-fewer
returns-clause-fewer g c =
    let p = c.args.self.now in
    let one : ◌≡◌ {A = ℕ} (if is_some c.remove.result then 1 else 0) 1 = ap {B = ℕ} (λ (o : Option ℕ). if is_some o then 1 else 0) (c.remove.ensures.answer ∙ c.requires.waits) in
    omega (arith, one, c.remove.ensures.length)

pub returns-clause-sound : goal.returns-clause-sound
returns-clause-sound g c =
    let p = c.args.self.now in
    let page = c.args.page in
    let was = c.requires.sound.picked page c.args.slot c.requires.waits in
    let own = the_some p.frozen was.own in
    let put = c.name_frozen.ensures own.0 own.1 in
    subst (λ (o : Option tables.ShownTable). AreSound p.root o p.live c.remove.new.self c.pop.new.self p.frames p.slots p.is_sealed) (sym put.1)
    (sound_released p.root p.frozen own.0 put.0 p.live p.waiting c.remove.new.self p.copies c.pop.new.self p.frames p.slots p.is_sealed page c.args.slot c.requires.sound own.1 put.2 c.requires.waits
    c.remove.ensures.removed (returns-clause-fewer g c)
    (λ q. ap (λ (x : LruCache ℕ (List Cell)). copy_in x.entries q) c.pop.ensures.entries ∙ looked_removed page q p.copies.entries c.len-count.ensures.valid.0)
    (ap (λ (x : LruCache ℕ (List Cell)). x.cap) c.pop.ensures.entries)
    (λ q is. once p.waiting.entries page q c.args.slot (in_order p.waiting.entries c.len-entries.ensures.entries).distinct c.requires.waits is))

pub returns-clause-stays : goal.returns-clause-stays
returns-clause-stays g c =
    let p = c.args.self.now in
    let page = c.args.page in
    let old : ShownPool g.row.D.Denot = shown_of p in
    let was = c.requires.sound.picked page c.args.slot c.requires.waits in
    let own = the_some p.frozen was.own in
    let put = c.name_frozen.ensures own.0 own.1 in
    stays_released g.D.Disk old (unwrap_or c.name_frozen.new.frozen p.root).entries c.remove.new.self.entries c.pop.new.self.entries page c.args.slot
    (λ q. ap (λ (o : Option tables.ShownTable). slot_in (unwrap_or o p.root).entries q) put.1 ∙ put.2.looks q
    ∙ ap (λ (o : Option tables.ShownTable). if page == q then Some c.args.slot else slot_in (unwrap_or o p.root).entries q) (sym own.1))
    c.requires.waits was.unwritten c.remove.ensures.removed
    (λ q. ap (λ (x : LruCache ℕ (List Cell)). copy_in x.entries q) c.pop.ensures.entries ∙ looked_removed page q p.copies.entries c.len-count.ensures.valid.0)
    c.requires.stands c.requires.sound.sealed

pub name_frozen-requires-clause-room : goal.name_frozen-requires-clause-room
name_frozen-requires-clause-room g c t is =
    let p = c.args.self.now in
    let was = c.requires.sound.picked c.args.page c.args.slot c.requires.waits in
    room_for_one p.root t p.frozen p.waiting.entries c.args.page c.args.slot is c.requires.waits was.frozen_room was.frozen_slots
