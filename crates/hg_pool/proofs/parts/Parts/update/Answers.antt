use Rattle.std.proofs.Common.{◌-◌, ◌∷◌, ◌∙◌, ℕ, nat_eq, List, true, is_some, take, refl, sym, ap}
use Rattle.std.specs.Map.{keys_of}
use Rattle.std.specs.Set.{remove_key}
use Rattle.hg_cells.specs.Pages.{filled}
use Rattle.hg_cache.specs.declared.frame.Frame.{Frame}
use Rattle.hg_pool.specs.Maps.{frame_in}
use Rattle.hg_pool.specs.Sound.{shown_of}
use Rattle.hg_pool.proofs.Filling.{sound_filled, went_filled}
use Rattle.hg_cache.proofs.Lookups.{if_true}
use Rattle.hg_cache.proofs.Orders.{order_used}
use Rattle.hg_pool.proofs.Stepping.{the_some}
use Rattle.hg_pool.proofs.parts.Parts.update.Goals as goal

pub returns-clause-sound : goal.returns-clause-sound
returns-clause-sound g c =
    let p = c.args.self.now in
    let found = the_some (frame_in p.frames.entries c.args.page) c.requires.present in
    let e : Frame = record { cells = filled found.0.cells c.args.from c.args.to c.args.cell; is_dirty = true } in
    sound_filled p.root p.frozen p.live p.waiting p.copies p.frames c.update.new.self p.slots p.is_sealed c.args.page e found.0 c.requires.sound c.update.ensures.cap (c.update.ensures.frames found.0 found.1) refl found.1

pub returns-clause-went : goal.returns-clause-went
returns-clause-went g c =
    let p = c.args.self.now in
    let found = the_some (frame_in p.frames.entries c.args.page) c.requires.present in
    let e : Frame = record { cells = filled found.0.cells c.args.from c.args.to c.args.cell; is_dirty = true } in
    went_filled g.D.Disk (shown_of p) c.update.new.self.entries c.update.new.self.cap c.args.page e (c.update.ensures.frames found.0 found.1) refl c.update.ensures.cap c.requires.settled

pub returns-clause-order : goal.returns-clause-order
returns-clause-order g c =
    let p = c.args.self.now in
    let page = c.args.page in
    c.update.ensures.order
    ∙ order_used page p.frames.entries c.requires.present
    ∙ ap (λ (ks : List ℕ). page ∷ ks)
    (sym (if_true (is_some (frame_in p.frames.entries page)) (remove_key (nat_eq page) (keys_of p.frames.entries)) (take (p.frames.cap - 1) (keys_of p.frames.entries)) c.requires.present))
