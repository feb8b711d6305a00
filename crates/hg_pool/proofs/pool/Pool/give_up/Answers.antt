use Rattle.std.proofs.Common.{◌≡◌, ◌==◌, ◌∙◌, None, if◌then◌else◌, ap, rules}
use Rattle.hg_cells.specs.declared.cell.Cell.TheVariants.{New}
use Rattle.hg_pages.specs.Tables.{slot_in}
use Rattle.hg_pool.specs.Maps.{frame_in}
use Rattle.hg_pool.specs.Shown.{ShownPool}
use Rattle.hg_pool.specs.Sound.{shown_of}
use Rattle.hg_pool.proofs.Filled.{faithful_filled}
use Rattle.hg_pool.proofs.GivingUp.{live_given_up, within_left}
use Rattle.hg_pool.proofs.pool.Pool.give_up.Goals as goal

pub returns-clause-cells : goal.returns-clause-cells
returns-clause-cells g c w =
    let p = c.args.self.now in
    let n : ShownPool g.row.D.Denot = shown_of c.give_up.new.self in
    let did = c.give_up.ensures in
    let most : n.most_frames ≡ p.most_frames = did.went.limits.0 ∙ ap (λ (x : ShownPool g.row.D.Denot). x.most_frames) c.self.view_is in
    live_given_up g.D.Disk c.args.page p n (ap shown_of did.rest ∙ (λ k. record (c.self.view_is k) { live = n.live; frames = n.frames; most_frames = most k }))
    (λ q. did.live q ∙ ap (λ (x : ShownPool g.row.D.Denot). if c.args.page == q then None else slot_in x.live q) c.self.view_is)
    (λ q. did.frames q ∙ ap (λ (x : ShownPool g.row.D.Denot). if c.args.page == q then None else frame_in x.frames q) c.self.view_is) w

pub returns-clause-within : goal.returns-clause-within
returns-clause-within g c n m within =
    within_left c.args.page c.args.self.now.frames c.give_up.new.self.frames.entries
    (λ q. c.give_up.ensures.frames q ∙ ap (λ (x : ShownPool g.row.D.Denot). if c.args.page == q then None else frame_in x.frames q) c.self.view_is) n m within

pub returns-clause-faithful : goal.returns-clause-faithful
returns-clause-faithful g c n m is h =
    faithful_filled g.D.Disk c.args.page 0 256 New c.args.self.now (shown_of c.give_up.new.self) n m (search rules) (λ w. returns-clause-cells g c w) is h
