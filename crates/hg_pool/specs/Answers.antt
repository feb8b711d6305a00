-- What the calls of a pool answer.
use Rattle.std.specs.Prelude.{◌≡◌, ◌⊎◌, ◌-◌, ◌<◌, ℕ, nat_eq, List, [], ◌∷◌, map, take, Option, Some, None, is_some, IsTrue, if◌then◌else◌}
use Rattle.std.specs.Set.{remove_key}
use Rattle.hg_model.specs.declared.verdict.Refusal.{Refusal}
use Rattle.hg_model.specs.declared.verdict.Refusal.TheVariants as refusal
use Rattle.hg_cells.specs.declared.cell.Cell.{Cell}
use Rattle.hg_pages.specs.Tables.{IsNamed}
use Rattle.hg_pool.specs.declared.fault.FreezeFault.{FreezeFault}
use Rattle.hg_pool.specs.declared.fault.FreezeFault.TheVariants as fault
use Rattle.hg_cache.specs.declared.frame.Frame.{Frame}
use Rattle.hg_pool.specs.Maps.{copy_in, frame_in, is_broken}
use Rattle.hg_pool.specs.Shown.{ShownPool}

-- the refusal that tells a refused freeze
abbrev pub refusal_of : FreezeFault → Refusal
refusal_of fault.FullSlots = refusal.FullSlots
refusal_of fault.OutOfMemory = refusal.OutOfMemory

-- The slot is named: by a table of the pool, or as picked.
abbrev pub IsTaken : {D : Type 0} → ShownPool D → ℕ → Type 0
IsTaken p slot = IsNamed p.root slot ⊎ (IsNamed p.frozen slot ⊎ (IsNamed p.live slot ⊎ IsNamed p.waiting slot))

-- Each slot is named.
abbrev pub IsFull : {D : Type 0} → ShownPool D → Type 0
IsFull p = (slot : ℕ) → slot < p.slots → IsTaken p slot

-- A refusal is told only if its cause holds in the pool as it is then: an eviction may have taken the last slot.
abbrev pub IsTrueCause : {D : Type 0} → ShownPool D → Refusal → Type 0
IsTrueCause p refusal.Broken = IsTrue (is_broken p)
IsTrueCause p refusal.FullSlots = IsFull p
IsTrueCause p refusal.DeviceFault = Unit {0}
IsTrueCause p refusal.OutOfMemory = Unit {0}
IsTrueCause p refusal.Damaged = Unit {0}
IsTrueCause p _ = ⊥

-- the first page of a table
abbrev pub least_of : List (ℕ × ℕ) → Option ℕ
least_of [] = None
least_of (e ∷ rest) = Some e.0

-- the pages in memory, the page used last first
abbrev pub order_of : {D : Type 0} → ShownPool D → List ℕ
order_of p = map (λ e. e.0) p.frames

-- The pages in memory after this page was used: it is first. If it was not in memory and all frames were taken, the last
-- page left.
abbrev pub order_with : {D : Type 0} → ShownPool D → ℕ → List ℕ
order_with p page = page ∷ (if is_some (frame_in p.frames page) then remove_key (nat_eq page) (order_of p) else take (p.most_frames - 1) (order_of p))

-- The page is in memory, and was changed since it was new, read or written.
abbrev pub IsDirty : {D : Type 0} → ShownPool D → ℕ → Type 0
IsDirty p page = (f : Frame) × (frame_in p.frames page ≡ Some f) × IsTrue f.is_dirty

-- These are the frozen cells of a waiting page: its copy, or without a copy the cells of its frame, which was not changed
-- since.
abbrev pub IsFrozen : {D : Type 0} → ShownPool D → ℕ → List Cell → Type 0
IsFrozen p page cells = (copy_in p.copies page ≡ Some cells) ⊎ ((copy_in p.copies page ≡ None) × (f : Frame) × (frame_in p.frames page ≡ Some f) × (f.cells ≡ cells))
