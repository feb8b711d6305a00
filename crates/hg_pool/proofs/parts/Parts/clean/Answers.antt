use Rattle.std.proofs.Common.{◌≡◌, ◌∙◌, ℕ, Bool, true, List, Option, Some, None, Result, Ok, Err, OnErr, is_some, refl, sym}
use Rattle.hg_cache.specs.declared.frame.Frame.{Frame}
use Rattle.hg_pool.specs.Maps.{frame_in}
use Rattle.hg_pool.specs.Picking.{HasDirty}
use Rattle.hg_pool.proofs.parts.Parts.clean.Goals as goal

-- a page in memory that was found dirty
dirty_there : (frames : List (ℕ × Frame)) (page : ℕ) (b : Bool) → is_some (frame_in frames page) ≡ true
    → ((f : Frame) → frame_in frames page ≡ Some f → b ≡ f.is_dirty) → b ≡ true → HasDirty frames page
dirty_there frames page b there is dirty = by (frame_in frames page) refl there
  where
    by : (o : Option Frame) → frame_in frames page ≡ o → is_some o ≡ true → HasDirty frames page
    by None found some = absurd (cc)
    by (Some f) found some = (f, found, sym (is f found) ∙ dirty)

-- what holds after both outcomes
on_err : {T E : Type 0} (r : Result T E) {P : Type 0} → P → OnErr r P
on_err (Ok value) is = tt
on_err (Err error) is = is

pub returns-in-Some-free_slot-clause-changed : goal.returns-in-Some-free_slot-clause-changed
returns-in-Some-free_slot-clause-changed g c =
    on_err c.write_searched.result
    (dirty_there c.args.self.now.frames.entries c.args.page c.is_changed.result c.requires.present c.is_changed.ensures c.if-not-is_changed.false)
