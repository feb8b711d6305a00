-- How pages are picked at a freeze.
use Rattle.std.specs.Prelude.{◌≡◌, ◌⊎◌, ◌↔◌, ◌<◌, ◌≤◌, ℕ, true, List, length, Some, is_some}
use Rattle.hg_pages.specs.Tables.{AreEntries, IsNamed, slot_in}
use Rattle.hg_cache.specs.declared.frame.Frame.{Frame}
use Rattle.hg_pool.specs.Answers.{IsTaken}
use Rattle.hg_pool.specs.Maps.{frame_in}
use Rattle.hg_pool.specs.Shown.{ShownPool}

-- the page is in memory, and was changed since it was new, read or written
abbrev pub HasDirty : List (ℕ × Frame) → ℕ → Type 0
HasDirty frames page = (f : Frame) × (frame_in frames page ≡ Some f) × (f.is_dirty ≡ true)

-- The slots are the least that nothing names, and rise with their pages.
pub record AreLeastFree {D : Type 0} (p : ShownPool D) (picks : List (ℕ × ℕ)) : Type 0 where
  pub free : (page slot : ℕ) → slot_in picks page ≡ Some slot → (¬ IsTaken p slot) × (slot < p.slots)
  pub least : (page slot : ℕ) → slot_in picks page ≡ Some slot → (lesser : ℕ) → lesser < slot → IsTaken p lesser ⊎ IsNamed picks lesser
  pub rising : (page later slot other : ℕ) → page < later → slot_in picks page ≡ Some slot → slot_in picks later ≡ Some other → slot < other

-- The slot is the least that nothing names.
abbrev pub IsLeastFree : {D : Type 0} → ShownPool D → ℕ → Type 0
IsLeastFree p slot = (¬ IsTaken p slot) × ((lesser : ℕ) → lesser < slot → IsTaken p lesser)

-- A page with a new slot has the one that was picked for it, or the least one that nothing named.
abbrev pub TakesLeastFree : {D : Type 0} → ShownPool D → ShownPool D → Type 0
TakesLeastFree old new = (page slot : ℕ) → slot_in new.live page ≡ Some slot → (slot_in old.live page ≡ Some slot) ⊎ ((slot_in old.waiting page ≡ Some slot) ⊎ IsLeastFree old slot)

-- Each of the pages, and no other, has a slot.
pub record ArePicks {D : Type 0} (p : ShownPool D) (pages picks : List (ℕ × ℕ)) : Type 0 where
  pub among : (q : ℕ) → is_some (slot_in picks q) ≡ true → is_some (slot_in pages q) ≡ true
  pub each : (q : ℕ) → is_some (slot_in pages q) ≡ true → is_some (slot_in picks q) ≡ true
  pub slots : AreLeastFree p picks
  pub few : length picks ≤ length pages

-- Fewer than n slots are free: fewer than n picks name all slots that nothing else names.
abbrev pub AreTooFew : {D : Type 0} → ShownPool D → ℕ → Type 0
AreTooFew p n = (picks : List (ℕ × ℕ)) × (length picks < n) × ((slot : ℕ) → slot < p.slots → IsTaken p slot ⊎ IsNamed picks slot)

-- There are fewer free slots than changed pages.
abbrev pub LacksSlots : {D : Type 0} → ShownPool D → Type 0
LacksSlots p = (pages : List (ℕ × ℕ)) × AreEntries pages × ((q : ℕ) → (is_some (slot_in pages q) ≡ true) ↔ HasDirty p.frames q) × AreTooFew p (length pages)
