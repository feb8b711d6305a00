use Rattle.std.proofs.Common.{rules, ◌≡◌, ◌⊎◌, inl, inr, ◌<◌, ◌∙◌, ℕ, List, get_or, sym, ap, subst}
use Rattle.hg_cells.specs.declared.cell.Cell.{Cell}
use Rattle.hg_cells.specs.declared.cell.Cell.TheVariants.{New}
use Rattle.hg_pages.specs.Slots.{IsSlot}
use Rattle.hg_pool.specs.Maps.{bytes_of, frame_in, frozen_at}
use Rattle.hg_pool.specs.Sound.{shown_of}
use Rattle.hg_pool.proofs.Writing.{frozen_plain}
use Rattle.hg_pool.proofs.parts.Parts.clean_waiting.Goals as goal

first_or_second : {A B C : Type 0} → A ⊎ B → A ⊎ (B ⊎ C)
first_or_second (inl a) = inl a
first_or_second (inr b) = inr (inl b)

pub write_waiting-requires-clause-stands : goal.write_waiting-requires-clause-stands
write_waiting-requires-clause-stands g c =
    let p = c.args.self.now in
    let was = c.requires.sound.picked c.args.page c.args.slot c.requires.waits in
    let f = was.present c.requires.as_frozen in
    subst (λ (n : ℕ). (x : List Cell) × IsSlot n x c.in_ok-encoded.encoded.bytes × ((i : ℕ) → i < 256 → get_or x i New ≡ frozen_at (bytes_of g.D.Disk (shown_of p)) (shown_of p) n i)) (sym c.in_ok-encoded.ensures.page)
    (f.0.cells, c.in_ok-encoded.ensures.slot f.0 f.1, λ i lt. frozen_plain (shown_of p) (bytes_of g.D.Disk (shown_of p)) c.args.page c.args.slot i f.0 c.requires.waits c.requires.as_frozen f.1)

pub write_waiting-requires-clause-as_frozen : goal.write_waiting-requires-clause-as_frozen
write_waiting-requires-clause-as_frozen g c none f is =
    subst (λ (n : ℕ). IsSlot n f.cells c.in_ok-encoded.encoded.bytes) (sym c.in_ok-encoded.ensures.page) (c.in_ok-encoded.ensures.slot f (ap (λ (n : ℕ). frame_in c.args.self.now.frames.entries n) (sym c.in_ok-encoded.ensures.page) ∙ is))

pub returns-clause-moves : goal.returns-clause-moves
returns-clause-moves g c =
    record { takes = λ q s is. first_or_second (c.write_waiting.ensures.slots q s is); stays = c.write_waiting.ensures.writes.stays; refusal = search rules; device = search rules; calls = search rules }
