use Rattle.std.proofs.Common.{◌≡◌, ◌∙◌, ℕ, List, Some, None, length, sym, ap, subst, arith}
use Rattle.std.proofs.lemmas.Bool.{false≢true}
use Rattle.hg_cells.specs.declared.cell.Cell.{Cell}
use Rattle.hg_pages.specs.Tables.{slot_in}
use Rattle.hg_cache.specs.declared.frame.Frame.{Frame}
use Rattle.hg_pool.specs.Maps.{copy_in, frame_in}
use Rattle.hg_pool.specs.Tables.{FindsBelow}
use Rattle.hg_pool.proofs.Naming.{finds_below}
use Rattle.hg_pool.proofs.pool.Pool.new.Goals as goal

-- nothing is found where nothing is
no_entry : {X : Type 0} (x : X) → None ≡ Some x → ⊥
no_entry x e = cc

pub invariant_of-result : goal.invariant_of-result
invariant_of-result g c =
    let rooms = c.in-Ok.ensures in
    let below = finds_below c.args.slots c.args.table.entries c.requires.table in (
      record {
        picked = λ page slot waits. absurd (no_entry _ (sym (ap (λ (es : List (ℕ × ℕ)). slot_in es page) c.new.ensures) ∙ waits));
        copied = λ page cells is. absurd (no_entry _ (sym (ap (λ (es : List (ℕ × List Cell)). copy_in es page) rooms.copies.0) ∙ is));
        few = omega (arith, ap (λ (es : List (ℕ × ℕ)). length es) c.new.ensures);
        most = rooms.copies.1 ∙ sym rooms.frames.1;
        numbers = λ page f is. absurd (no_entry _ (sym (ap (λ (es : List (ℕ × Frame)). frame_in es page) rooms.frames.0) ∙ is));
        sealed = λ sealed. absurd (false≢true sealed);
        most_frames = omega (arith, rooms.frames.1, c.requires.frames);
        least_frames = omega (arith, rooms.frames.1, rooms.least);
        most_slots = c.requires.slots;
        root_below = below;
        frozen_below = below;
        live_below = subst (λ (es : List (ℕ × ℕ)). FindsBelow c.args.slots es) (sym rooms.table) below;
      },
      λ slot lt. absurd (omega (arith, lt)),
    )
