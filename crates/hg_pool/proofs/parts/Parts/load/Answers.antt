use Rattle.std.proofs.Common.{rules, ◌≡◌, ◌∙◌, ◌-◌, ◌∷◌, ℕ, List, take, is_some, refl, sym, ap, subst, get_or}
use Rattle.std.proofs.lemmas.Bool.{true≢false}
use Rattle.std.proofs.lemmas.Result.{on_ok_weaker}
use Rattle.hg_cells.specs.declared.cell.Cell.{Cell}
use Rattle.hg_cells.specs.declared.cell.Cell.TheVariants.{New}
use Rattle.hg_cells.specs.Cells.{IsWithin}
use Rattle.hg_pool.specs.declared.parts.Parts.{Parts}
use Rattle.hg_pool.specs.Answers.{order_of}
use Rattle.hg_pool.specs.Maps.{frame_in}
use Rattle.hg_pool.specs.Shown.{ShownPool}
use Rattle.hg_pool.proofs.FromSlots.{known_there, not_there}
use Rattle.hg_pool.specs.Sound.{shown_of}
use Rattle.hg_cache.proofs.Orders.{before_stays, first_listed}
use Rattle.hg_pool.proofs.Stepping.{stays_on}
use Rattle.hg_pool.specs.Reached.{IsReached}
use Rattle.hg_pool.specs.Picking.{TakesLeastFree}
use Rattle.hg_pool.proofs.parts.Parts.load.Goals as goal

pub returns-then-use_page-clause-before : goal.returns-then-use_page-clause-before
returns-then-use_page-clause-before g c other rest was = ap is_some (c.use_page.ensures.looks other) ∙ first_listed other c.args.self.now.frames.entries rest was

pub returns-then-use_page-clause-reached : goal.returns-then-use_page-clause-reached
returns-then-use_page-clause-reached g c = subst (λ (x : Parts g.row.D.Denot). IsReached x) (sym c.use_page.ensures.rest) c.requires.reached

pub returns-then-use_page-clause-again : goal.returns-then-use_page-clause-again
returns-then-use_page-clause-again g c there =
    let q = c.args.self.now in
    let new = c.use_page.new.self in
    let rest : shown_of new ≡ record (shown_of q) { frames = new.frames.entries } =
    ap (λ (x : Parts g.row.D.Denot). shown_of x) c.use_page.ensures.rest ∙ ap (λ (n : ℕ). record (shown_of q) { frames = new.frames.entries; most_frames = n }) c.use_page.ensures.cap
    in
    (refl, (rest, c.use_page.ensures.looks))

pub make_room-requires-clause-reached : goal.make_room-requires-clause-reached
make_room-requires-clause-reached g c = subst (λ (x : Parts g.row.D.Denot). IsReached x) (sym c.use_page.ensures.rest) c.requires.reached

pub returns-in_err-make_room-clause-moves : goal.returns-in_err-make_room-clause-moves
returns-in_err-make_room-clause-moves g c =
    record {
      takes = subst (λ (x : Parts g.row.D.Denot). TakesLeastFree (shown_of x) (shown_of c.make_room.new.self)) c.use_page.ensures.rest c.make_room.ensures.moves.takes;
      stays = stays_on g.D.Disk (shown_of c.args.self.now) (shown_of c.use_page.new.self) (shown_of c.make_room.new.self) c.use_page.ensures.stays c.make_room.ensures.moves.stays;
      refusal = search rules;
      device = search rules;
      calls = search rules;
    }

pub returns-in_err-make_room-clause-again : goal.returns-in_err-make_room-clause-again
returns-in_err-make_room-clause-again g c there = absurd (true≢false (sym there ∙ sym c.use_page.ensures.answer ∙ c.if-use_page.false))

pub returns-clause-again : goal.returns-clause-again
returns-clause-again g c there = absurd (true≢false (sym there ∙ sym c.use_page.ensures.answer ∙ c.if-use_page.false))

pub returns-clause-before : goal.returns-clause-before
returns-clause-before g c =
    let p = c.args.self.now in
    let page = c.args.page in
    let used = c.use_page.new.self in
    on_ok_weaker c.read_in.result
    (λ came other rest was.
    before_stays p.frames.cap page other c.read_in.new.self.frames.entries rest c.requires.sound.least_frames
    (came
    ∙ ap (λ (ks : List ℕ). page ∷ ks) c.in_ok-make_room.ensures.order
    ∙ ap (λ (most : ℕ). page ∷ take (most - 1) (order_of (shown_of used))) c.use_page.ensures.cap
    ∙ ap (λ (ks : List ℕ). page ∷ take (p.frames.cap - 1) ks) (c.use_page.ensures.absent c.if-use_page.false ∙ was)))
    c.read_in.ensures.order

pub returns-clause-undamaged : goal.returns-clause-undamaged
returns-clause-undamaged g c h known =
    let q = c.args.self.now in
    let room = c.make_room.new.self in
    let old : ShownPool g.row.D.Denot = shown_of q in
    let stays = stays_on g.D.Disk old (shown_of c.use_page.new.self) (shown_of room) c.use_page.ensures.stays c.make_room.ensures.moves.stays in
    let missing = not_there (frame_in q.frames.entries c.args.page) (frame_in room.frames.entries c.args.page) (λ is. ap is_some (sym (c.use_page.ensures.looks c.args.page)) ∙ c.make_room.ensures.fewer c.args.page is)
    (sym c.use_page.ensures.answer ∙ c.if-use_page.false) in
    c.read_in.ensures.whole (stays.went.whole h) (known_there g.D.Disk old (shown_of room) c.args.page c.args.segments c.args.sets.now.sets stays h missing known)

pub returns-clause-reached : goal.returns-clause-reached
returns-clause-reached g c = subst (λ (x : Parts g.row.D.Denot). IsReached x) (sym c.read_in.ensures.rest) c.make_room.ensures.reached

pub returns-clause-moves : goal.returns-clause-moves
returns-clause-moves g c =
    record {
      takes = subst (λ (x : Parts g.row.D.Denot). TakesLeastFree (shown_of c.args.self.now) (shown_of x)) (sym c.read_in.ensures.rest)
          (subst (λ (x : Parts g.row.D.Denot). TakesLeastFree (shown_of x) (shown_of c.make_room.new.self)) c.use_page.ensures.rest c.make_room.ensures.moves.takes);
      stays = stays_on g.D.Disk (shown_of c.args.self.now) (shown_of c.make_room.new.self) (shown_of c.read_in.new.self)
          (stays_on g.D.Disk (shown_of c.args.self.now) (shown_of c.use_page.new.self) (shown_of c.make_room.new.self) c.use_page.ensures.stays c.make_room.ensures.moves.stays)
          c.read_in.ensures.stays;
      refusal = search rules;
      device = search rules;
      calls = search rules;
    }

pub returns-clause-within : goal.returns-clause-within
returns-clause-within g c n m a b within =
    c.read_in.ensures.within n m a b
    (λ q f is i.
    let from = c.make_room.ensures.cells q f is in
    subst (λ (cells : List Cell). IsWithin n m (get_or cells i New)) (sym from.2) (within q from.0 (sym (c.use_page.ensures.looks q) ∙ from.1) i))
