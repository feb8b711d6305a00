use Rattle.std.proofs.Common.{◌≡◌, ◌==◌, ◌∙◌, Some, false, is_some, sym, ap}
use Rattle.hg_cache.specs.declared.frame.Frame.{Frame}
use Rattle.hg_pool.specs.Maps.{frame_in}
use Rattle.hg_pool.specs.Sound.{shown_of}
use Rattle.hg_cache.proofs.Lookups.{if_true, itself}
use Rattle.hg_pool.proofs.Stepping.{cells_clean, the_some}
use Rattle.hg_pool.proofs.Moving.{set_at, sound_moved, stays_moved}
use Rattle.hg_pool.proofs.parts.Parts.move_live.Goals as goal

pub returns-clause-clean : goal.returns-clause-clean
returns-clause-clean g c f is =
    let p = c.args.self.now in
    let page = c.args.page in
    let found = the_some (frame_in p.frames.entries page) c.requires.present in
    let clean : Frame = record found.0 { is_dirty = false } in
    let same : clean ≡ f = cc (sym (c.mark_clean.ensures.frames found.0 found.1 page ∙ if_true (page == page) (Some clean) (frame_in p.frames.entries page) (itself page)) ∙ is) in
    ap (λ (x : Frame). x.is_dirty) (sym same)

pub returns-clause-present : goal.returns-clause-present
returns-clause-present g c =
    let p = c.args.self.now in
    let page = c.args.page in
    let found = the_some (frame_in p.frames.entries page) c.requires.present in
    let clean : Frame = record found.0 { is_dirty = false } in
    ap is_some (c.mark_clean.ensures.frames found.0 found.1 page ∙ if_true (page == page) (Some clean) (frame_in p.frames.entries page) (itself page))

pub returns-clause-sound : goal.returns-clause-sound
returns-clause-sound g c =
    let p = c.args.self.now in
    let found = the_some (frame_in p.frames.entries c.args.page) c.requires.present in
    let e = c.set-placed.ensures in
    let put = set_at c.args.page c.args.slot p.live c.set-placed.new.self c.set-placed.result p.waiting c.requires.room c.requires.slots e.ok e.adds e.length e.no_less in
    sound_moved p.root p.frozen p.live c.set-placed.new.self p.waiting p.copies p.frames c.mark_clean.new.self p.slots p.is_sealed c.args.page c.args.slot found.0 c.requires.sound put found.1
    (c.mark_clean.ensures.frames found.0 found.1) c.mark_clean.ensures.cap c.requires.unpicked c.requires.settled c.requires.room c.requires.within

pub returns-clause-stays : goal.returns-clause-stays
returns-clause-stays g c =
    let p = c.args.self.now in
    let found = the_some (frame_in p.frames.entries c.args.page) c.requires.present in
    let e = c.set-placed.ensures in
    let put = set_at c.args.page c.args.slot p.live c.set-placed.new.self c.set-placed.result p.waiting c.requires.room c.requires.slots e.ok e.adds e.length e.no_less in
    stays_moved g.D.Disk (shown_of p) c.set-placed.new.self.entries c.mark_clean.new.self.entries c.mark_clean.new.self.cap c.args.page c.args.slot found.0 put.looks found.1
    (c.mark_clean.ensures.frames found.0 found.1) c.mark_clean.ensures.cap (c.requires.stands found.0 found.1)

pub returns-clause-cells : goal.returns-clause-cells
returns-clause-cells g c =
    let p = c.args.self.now in
    let found = the_some (frame_in p.frames.entries c.args.page) c.requires.present in
    cells_clean c.args.page found.0 p.frames.entries c.mark_clean.new.self.entries found.1 (c.mark_clean.ensures.frames found.0 found.1)
