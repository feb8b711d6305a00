-- A pool without a free slot.
use Rattle.std.proofs.Common.{◌≡◌, inl, inr, false, Bool, cond, ℕ, List, Some, sym, ap, subst}
use Rattle.hg_disk.specs.declared.disk.Disk as disk
use Rattle.hg_pages.specs.Tables.{slot_in}
use Rattle.hg_pool.specs.Answers.{IsFull, IsTaken}
use Rattle.hg_pool.specs.Kept.{HasSome, IsWhole, Went}
use Rattle.hg_pool.specs.Maps.{is_broken}
use Rattle.hg_pool.specs.Maps as pools
use Rattle.hg_pool.specs.Shown as pool
use Rattle.hg_recovery.specs.Detectors.{IsAtRest}
use Rattle.hg_store.specs.Recovering.{HasFullSlots}

module _ {D : Type 0} (g : disk.Ghosts D) where
  pub at_rest : (old new : pool.ShownPool D) → Went g old new → IsAtRest old → IsAtRest new
  at_rest old new went rest = record {
    none_waits = went.none_waits rest.none_waits;
    frozen = λ page slot names. went.frozen_table page slot (rest.frozen page slot (subst (λ (t : List (ℕ × ℕ)). slot_in t page ≡ Some slot) went.root names));
  }

  known_now : (p : pool.ShownPool D) → is_broken p ≡ false → pools.bytes_of g p ≡ (g.state (pools.disk_of p)).contents
  known_now p works = ap (λ (b : Bool). cond b (g.state p.file.before.value).contents (g.state p.file.disk).contents) works

  has_page : (p : pool.ShownPool D) (slot : ℕ) → IsAtRest p → IsWhole g p → IsTaken p slot → (page : ℕ) × HasSome slot page (pools.bytes_of g p)
  has_page p slot rest whole (inl (page, names)) = (page, (whole.pages page).frozen_page slot (rest.frozen page slot names))
  has_page p slot rest whole (inr (inl (page, names))) = (page, (whole.pages page).frozen_page slot names)
  has_page p slot rest whole (inr (inr (inl (page, names)))) = (page, (whole.pages page).live_page slot names)
  has_page p slot rest whole (inr (inr (inr (page, names)))) = absurd (cc (sym (subst (λ (t : List (ℕ × ℕ)). slot_in t page ≡ Some slot) rest.none_waits names)))

  pub full_slots : (p : pool.ShownPool D) → IsAtRest p → IsWhole g p → is_broken p ≡ false → IsFull p → HasFullSlots g p.slots (pools.disk_of p)
  full_slots p rest whole works full slot lt =
      let found = has_page p slot rest whole (full slot lt) in
      (found.0, subst (λ (bytes : List ℕ). HasSome slot found.0 bytes) (known_now p works) found.1)
