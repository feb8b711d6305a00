use Rattle.std.proofs.Common.{rules, ◌≡◌, ◌⊎◌, inl, inr, ◌+◌, ◌<◌, ◌==◌, ◌∙◌, ℕ, Bool, true, false, List, length, Some, None, is_some, get_or, if◌then◌else◌, refl, sym, ap, subst, arith}
use Rattle.hg_cells.specs.declared.cell.Cell.{Cell}
use Rattle.hg_cells.specs.declared.cell.Cell.TheVariants.{New}
use Rattle.hg_pages.specs.Slots.{HasSlot}
use Rattle.hg_pages.specs.Tables.{IsNamed, ShownTable, slot_in}
use Rattle.hg_pool.specs.declared.parts.Parts.{Parts}
use Rattle.hg_pool.specs.Maps.{bytes_of, copy_in, frame_in, frozen_at}
use Rattle.hg_pool.proofs.Writing.{frozen_waiting, stands}
use Rattle.hg_pool.specs.Calls.{AreOfEither, IsWith, IsWithout}
use Rattle.hg_pool.specs.Sound.{IsSound, shown_of}
use Rattle.hg_cache.proofs.Lookups.{if_true, itself, same_number}
use Rattle.hg_pool.proofs.Stepping.{cells_on, cells_same, stays_on}
use Rattle.hg_pool.proofs.parts.Parts.write_waiting.Goals as goal

-- a page that has left a table
gone : (page : ℕ) (old new : List (ℕ × ℕ)) → IsWithout page old new → slot_in new page ≡ None
gone page old new looks = looks page ∙ if_true (page == page) None (slot_in old page) (itself page)

-- the page that waited got its slot, and the others keep theirs
moved : (page slot : ℕ) (live waiting new : List (ℕ × ℕ)) → slot_in waiting page ≡ Some slot → IsWith page slot live new → AreOfEither live waiting new
moved page slot live waiting new waits looks q s is = by (page == q) refl (sym (looks q) ∙ is)
  where
    by : (b : Bool) → (page == q) ≡ b → (if b then Some slot else slot_in live q) ≡ Some s → (slot_in live q ≡ Some s) ⊎ (slot_in waiting q ≡ Some s)
    by true test found = inr (ap (λ (n : ℕ). slot_in waiting n) (sym (same_number page q test)) ∙ waits ∙ found)
    by false test found = inl found

pub returns-then-release-clause-writes : goal.returns-then-release-clause-writes
returns-then-release-clause-writes g c =
    record {
      stays = stays_on g.D.Disk (shown_of c.args.self.now) (shown_of c.write_unnamed.new.self) (shown_of c.move_live.new.self) c.write_unnamed.ensures.writes.stays
          (stays_on g.D.Disk (shown_of c.write_unnamed.new.self) (shown_of c.release.new.self) (shown_of c.move_live.new.self) c.release.ensures.stays c.move_live.ensures.stays);
      broken = search rules;
      breaks = search rules;
      device = search rules;
      calls = search rules;
    }

pub returns-else-release-clause-writes : goal.returns-else-release-clause-writes
returns-else-release-clause-writes g c =
    record {
      stays = stays_on g.D.Disk (shown_of c.args.self.now) (shown_of c.write_unnamed.new.self) (shown_of c.release.new.self) c.write_unnamed.ensures.writes.stays c.release.ensures.stays;
      broken = search rules;
      breaks = search rules;
      device = search rules;
      calls = search rules;
    }

pub release-requires-clause-stands : goal.release-requires-clause-stands
release-requires-clause-stands g c =
    let p = c.args.self.now in
    let page = c.args.encoded.now.page in
    let h = c.requires.stands in
    let was = c.requires.sound.picked page c.args.slot c.requires.waits in
    let after : Parts g.row.D.Denot = record p { file = c.write_unnamed.new.self.file } in
    let slot_has : HasSlot c.args.slot page h.0 (bytes_of g.D.Disk (shown_of c.write_unnamed.new.self)) =
    stands c.args.slot page h.0 c.args.encoded.now.bytes (bytes_of g.D.Disk (shown_of c.write_unnamed.new.self)) h.1 c.in_ok-write_unnamed.ensures.written in
    let same : (i : ℕ) → i < 256 → get_or h.0 i New ≡ frozen_at (bytes_of g.D.Disk (shown_of c.write_unnamed.new.self)) (shown_of c.write_unnamed.new.self) page i =
    λ i lt.
    h.2 i lt ∙ sym (frozen_waiting (shown_of p) (bytes_of g.D.Disk (shown_of p)) (bytes_of g.D.Disk (shown_of c.write_unnamed.new.self)) page c.args.slot i c.requires.waits was.present)
    ∙ sym (ap (λ (x : Parts g.row.D.Denot). frozen_at (bytes_of g.D.Disk (shown_of c.write_unnamed.new.self)) (shown_of x) page i) c.write_unnamed.ensures.rest) in
    subst (λ (n : ℕ). (x : List Cell) × HasSlot c.args.slot n x (bytes_of g.D.Disk (shown_of c.write_unnamed.new.self)) × ((i : ℕ) → i < 256 → get_or x i New ≡ frozen_at (bytes_of g.D.Disk (shown_of c.write_unnamed.new.self)) (shown_of c.write_unnamed.new.self) n i))
    (sym c.page.ensures) (h.0, slot_has, same)

pub move_live-requires-clause-stands : goal.move_live-requires-clause-stands
move_live-requires-clause-stands g c f is =
    let p = c.args.self.now in
    let page = c.args.encoded.now.page in
    let mid = c.write_unnamed.new.self in
    let here : c.page-then-release.result ≡ page = c.page-then-release.ensures in
    let there : frame_in p.frames.entries page ≡ Some f =
    sym (ap (λ (x : Parts g.row.D.Denot). frame_in x.frames.entries page) (c.release.ensures.rest ∙ (λ i. record (c.write_unnamed.ensures.rest i) { frozen = c.release.new.self.frozen; waiting = c.release.new.self.waiting; copies = c.release.new.self.copies })))
    ∙ ap (λ (n : ℕ). frame_in c.release.new.self.frames.entries n) (sym here) ∙ is in
    let none : copy_in p.copies.entries page ≡ None =
    sym (ap (λ (x : Parts g.row.D.Denot). copy_in x.copies.entries page) c.write_unnamed.ensures.rest) ∙ ap (λ (n : ℕ). copy_in mid.copies.entries n) (sym c.page.ensures) ∙ c.release.ensures.answer.0 c.if-release.true in
    let has = stands c.args.slot page f.cells c.args.encoded.now.bytes (bytes_of g.D.Disk (shown_of mid)) (c.requires.as_frozen none f there) c.in_ok-write_unnamed.ensures.written in
    subst (λ (n : ℕ). HasSlot c.args.slot n f.cells (bytes_of g.D.Disk (shown_of c.release.new.self))) (sym here)
    (subst (λ (x : Parts g.row.D.Denot). HasSlot c.args.slot page f.cells (bytes_of g.D.Disk (shown_of x))) (sym c.release.ensures.rest) has)

pub returns-in_err-write_unnamed-clause-cells : goal.returns-in_err-write_unnamed-clause-cells
returns-in_err-write_unnamed-clause-cells g c = cells_same c.args.self.now.frames.entries c.write_unnamed.new.self.frames.entries (ap (λ (x : Parts g.row.D.Denot). x.frames.entries) c.write_unnamed.ensures.rest)

pub returns-else-release-clause-cells : goal.returns-else-release-clause-cells
returns-else-release-clause-cells g c =
    cells_same c.args.self.now.frames.entries c.release.new.self.frames.entries
    (ap (λ (x : Parts g.row.D.Denot). x.frames.entries) c.release.ensures.rest ∙ ap (λ (x : Parts g.row.D.Denot). x.frames.entries) c.write_unnamed.ensures.rest)

pub returns-then-release-clause-cells : goal.returns-then-release-clause-cells
returns-then-release-clause-cells g c =
    let same = ap (λ (x : Parts g.row.D.Denot). x.frames.entries) c.release.ensures.rest ∙ ap (λ (x : Parts g.row.D.Denot). x.frames.entries) c.write_unnamed.ensures.rest in
    cells_on c.args.self.now.frames.entries c.release.new.self.frames.entries c.move_live.new.self.frames.entries (cells_same c.args.self.now.frames.entries c.release.new.self.frames.entries same) c.move_live.ensures.cells

pub move_live-requires-clause-present : goal.move_live-requires-clause-present
move_live-requires-clause-present g c =
    let p = c.args.self.now in
    let mid = c.write_unnamed.new.self in
    let page = c.args.encoded.now.page in
    let none : copy_in p.copies.entries page ≡ None =
    sym (ap (λ (x : Parts g.row.D.Denot). copy_in x.copies.entries page) c.write_unnamed.ensures.rest) ∙ ap (λ (n : ℕ). copy_in mid.copies.entries n) (sym c.page.ensures) ∙ c.release.ensures.answer.0 c.if-release.true in
    let there = (c.requires.sound.picked page c.args.slot c.requires.waits).present none in
    ap (λ (n : ℕ). is_some (frame_in c.release.new.self.frames.entries n)) c.page-then-release.ensures
    ∙ ap (λ (x : Parts g.row.D.Denot). is_some (frame_in x.frames.entries page)) c.release.ensures.rest
    ∙ ap (λ (x : Parts g.row.D.Denot). is_some (frame_in x.frames.entries page)) c.write_unnamed.ensures.rest
    ∙ ap is_some there.1

pub move_live-requires-clause-free : goal.move_live-requires-clause-free
move_live-requires-clause-free g c named =
    let was = c.requires.sound.picked c.args.encoded.now.page c.args.slot c.requires.waits in
    let same = ap (λ (x : Parts g.row.D.Denot). x.live) c.release.ensures.rest ∙ ap (λ (x : Parts g.row.D.Denot). x.live) c.write_unnamed.ensures.rest in
    was.not_live (subst (λ (t : ShownTable). IsNamed t.entries c.args.slot) same named)

pub move_live-requires-clause-room : goal.move_live-requires-clause-room
move_live-requires-clause-room g c =
    let was = c.requires.sound.picked c.args.encoded.now.page c.args.slot c.requires.waits in
    let same = ap (λ (x : Parts g.row.D.Denot). x.live) c.release.ensures.rest ∙ ap (λ (x : Parts g.row.D.Denot). x.live) c.write_unnamed.ensures.rest in
    let waited = ap (λ (x : Parts g.row.D.Denot). length x.waiting.entries) c.write_unnamed.ensures.rest in
    subst (λ (t : ShownTable). length t.entries + length c.release.new.self.waiting.entries < t.capacity) (sym same) (omega (arith, was.live_room, c.release.ensures.fewer, waited))

pub move_live-requires-clause-slots : goal.move_live-requires-clause-slots
move_live-requires-clause-slots g c =
    let was = c.requires.sound.picked c.args.encoded.now.page c.args.slot c.requires.waits in
    let same = ap (λ (x : Parts g.row.D.Denot). x.live) c.release.ensures.rest ∙ ap (λ (x : Parts g.row.D.Denot). x.live) c.write_unnamed.ensures.rest in
    subst (λ (t : ShownTable). c.args.slot < t.slots) (sym same) was.live_slots

pub move_live-requires-clause-within : goal.move_live-requires-clause-within
move_live-requires-clause-within g c =
    let was = c.requires.sound.picked c.args.encoded.now.page c.args.slot c.requires.waits in
    let same = ap (λ (x : Parts g.row.D.Denot). x.slots) c.release.ensures.rest ∙ ap (λ (x : Parts g.row.D.Denot). x.slots) c.write_unnamed.ensures.rest in
    subst (λ (n : ℕ). c.args.slot < n) (sym same) was.within

pub move_live-requires-clause-settled : goal.move_live-requires-clause-settled
move_live-requires-clause-settled g c =
    let left = c.release.new.self.waiting.entries in
    inl (ap (λ (n : ℕ). slot_in left n) (c.page-then-release.ensures ∙ sym c.page.ensures) ∙ gone c.page.result c.write_unnamed.new.self.waiting.entries left c.release.ensures.waiting)

pub returns-then-release-clause-slots : goal.returns-then-release-clause-slots
returns-then-release-clause-slots g c =
    let waiting = c.args.self.now.waiting.entries in
    let new = c.move_live.new.self.live.entries in
    let same = ap (λ (x : Parts g.row.D.Denot). x.live) c.release.ensures.rest ∙ ap (λ (x : Parts g.row.D.Denot). x.live) c.write_unnamed.ensures.rest in
    let waits = ap (λ (n : ℕ). slot_in waiting n) c.page-then-release.ensures ∙ c.requires.waits in
    subst (λ (t : ShownTable). AreOfEither t.entries waiting new) same (moved c.page-then-release.result c.args.slot c.release.new.self.live.entries waiting new waits c.move_live.ensures.slots)

pub returns-in_err-write_unnamed-clause-sound : goal.returns-in_err-write_unnamed-clause-sound
returns-in_err-write_unnamed-clause-sound g c = subst (λ (x : Parts g.row.D.Denot). IsSound x) (sym c.write_unnamed.ensures.rest) c.requires.sound

pub release-requires-clause-sound : goal.release-requires-clause-sound
release-requires-clause-sound g c = subst (λ (x : Parts g.row.D.Denot). IsSound x) (sym c.write_unnamed.ensures.rest) c.requires.sound
