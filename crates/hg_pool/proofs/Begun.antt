-- The live map is the frozen one.
use Rattle.std.proofs.Common.{◌≡◌, inl, inr, ◌↔◌, ◌≤◌, ◌<◌, ◌/◌, ◌%◌, ◌∙◌, ℕ, Bool, true, false, List, [], length, is_some, Option, Some, None, if◌then◌else◌, refl, sym, ap, subst, arith}
use Rattle.lru.specs.LruCache.{LruCache}
use Rattle.hg_disk.specs.declared.disk.Disk as disk
use Rattle.hg_cells.specs.declared.cell.Cell.{Cell}
use Rattle.hg_pages.specs.Tables as tables
use Rattle.hg_pages.specs.Tables.{AreSlotsBelow, IsNamed, slot_in}
use Rattle.hg_cache.specs.declared.frame.Frame.{Frame}
use Rattle.hg_pool.specs.Answers.{IsTaken}
use Rattle.hg_pool.specs.Calls.{HasRoomFor}
use Rattle.hg_pool.specs.Kept.{IsWhole, SameMap}
use Rattle.hg_pool.specs.Maps.{bytes_of, copy_in, frame_in, frozen, frozen_at, frozen_by, in_copy_or, in_frame_or, in_slot, live, live_at}
use Rattle.hg_pool.specs.Picking.{HasDirty}
use Rattle.hg_pool.specs.Shown.{ShownPool}
use Rattle.hg_pool.specs.Sound.{AreSound}

-- a page that does not wait keeps its slot
left_of : (w live left : Option ℕ) (slot : ℕ) → left ≡ (if is_some w then None else live) → left ≡ Some slot → live ≡ Some slot
left_of None live left slot look is = sym look ∙ is
left_of (Some s) live left slot look is = absurd (cc (sym look ∙ is))

pub sound_begun : {D : Type 0} (p : ShownPool D) (root : tables.ShownTable) (before : Option tables.ShownTable) (after live before_waiting waiting : tables.ShownTable) (copies also : LruCache ℕ (List Cell)) (frames : LruCache ℕ Frame) (slots : ℕ) (is_sealed : Bool) → AreSound root before live before_waiting copies frames slots is_sealed
    → p.root ≡ root.entries → p.live ≡ live.entries
    → ((q : ℕ) → (is_some (slot_in waiting.entries q) ≡ true) ↔ HasDirty frames.entries q) → ((q slot : ℕ) → slot_in waiting.entries q ≡ Some slot → (¬ IsTaken p slot) × (slot < slots)) → length waiting.entries ≤ frames.cap
    → ((q : ℕ) → slot_in after.entries q ≡ (if is_some (slot_in waiting.entries q) then None else slot_in live.entries q))
    → AreSlotsBelow waiting.slots waiting.entries → HasRoomFor waiting after → HasRoomFor waiting live
    → also.entries ≡ [] → also.cap ≡ copies.cap → AreSound root (Some after) live waiting also frames slots false
sound_begun p root before after live before_waiting waiting copies also frames slots is_sealed s root_is live_is dirty free few left own_slots frozen_room live_room none cap = record {
  picked = λ q slot waits.
      let at = free q slot waits in
      let there = (dirty q).0 (ap is_some waits) in
      let not_live : ¬ IsNamed live.entries slot = λ named. at.0 (inr (inr (inl (subst (λ (es : List (ℕ × ℕ)). IsNamed es slot) (sym live_is) named)))) in
      record {
        not_root = λ named. at.0 (inl (subst (λ (es : List (ℕ × ℕ)). IsNamed es slot) (sym root_is) named));
        not_frozen = λ named. not_live (named.0, left_of (slot_in waiting.entries named.0) (slot_in live.entries named.0) (slot_in after.entries named.0) slot (left named.0) named.1);
        not_live = not_live;
        unwritten = left q ∙ ap (λ (o : Option ℕ). if is_some o then None else slot_in live.entries q) waits;
        present = λ missing. there;
        own = refl;
        frozen_room = frozen_room.0;
        live_room = live_room.0;
        frozen_slots = omega (arith, own_slots q slot waits, frozen_room.1);
        live_slots = omega (arith, own_slots q slot waits, live_room.1);
        within = at.1;
        number = s.numbers q there.0 there.1;
      };
  copied = λ q cells is. absurd (cc (sym (ap (λ (es : List (ℕ × List Cell)). copy_in es q) none) ∙ is));
  few = few;
  most = cap ∙ s.most;
  numbers = s.numbers;
  sealed = λ sealed. absurd (cc sealed);
  most_frames = s.most_frames;
  least_frames = s.least_frames;
  most_slots = s.most_slots;
  root_below = s.root_below;
  frozen_below = λ q slot is. s.live_below q slot (left_of (slot_in waiting.entries q) (slot_in live.entries q) (slot_in after.entries q) slot (left q) is);
  live_below = s.live_below;
}

module _ {D : Type 0} (g : disk.Ghosts D) (old : ShownPool D) (after waiting : List (ℕ × ℕ)) (copies : List (ℕ × List Cell)) (dirty : (q : ℕ) → (is_some (slot_in waiting q) ≡ true) ↔ HasDirty old.frames q)
    (left : (q : ℕ) → slot_in after q ≡ (if is_some (slot_in waiting q) then None else slot_in old.live q)) (none : copies ≡ []) where
  abbrev begun : ShownPool D
  begun = record old { frozen = after; waiting = waiting; copies = copies; is_sealed = false }

  clean_one : (q i : ℕ) → i < 256 → (o : Option Frame) → frame_in old.frames q ≡ o → (is_some (slot_in waiting q) ≡ false) → IsWhole g old → in_slot (bytes_of g old) (slot_in old.live q) i ≡ in_frame_or o (in_slot (bytes_of g old) (slot_in old.live q) i) i
  clean_one q i lt None is not h = refl
  clean_one q i lt (Some f) is not h = sym ((h.pages q).clean f is (tidy f.is_dirty refl) i lt)
    where
      tidy : (b : Bool) → f.is_dirty ≡ b → f.is_dirty ≡ false
      tidy true changed = absurd (cc (sym not ∙ (dirty q).1 (f, is, changed)))
      tidy false clean = clean

  one : (q i : ℕ) → i < 256 → (w : Option ℕ) → slot_in waiting q ≡ w → IsWhole g old → frozen_at (bytes_of g old) begun q i ≡ live_at (bytes_of g old) old q i
  one q i lt (Some s) is h =
      ap (λ (o : Option ℕ). frozen_by o (copy_in copies q) (in_slot (bytes_of g old) (slot_in after q) i) (live_at (bytes_of g old) old q i) i) is
      ∙ ap (λ (es : List (ℕ × List Cell)). in_copy_or (copy_in es q) (live_at (bytes_of g old) old q i) i) none
  one q i lt None is h =
      ap (λ (o : Option ℕ). frozen_by o (copy_in copies q) (in_slot (bytes_of g old) (slot_in after q) i) (live_at (bytes_of g old) old q i) i) is
      ∙ ap (λ (o : Option ℕ). in_slot (bytes_of g old) o i) (left q ∙ ap (λ (o : Option ℕ). if is_some o then None else slot_in old.live q) is)
      ∙ clean_one q i lt (frame_in old.frames q) refl (ap is_some is) h

  small : (w : ℕ) → w % 256 < 256
  small w = omega arith

  pub frozen_begun : IsWhole g old → SameMap (live g old) (frozen g begun)
  frozen_begun h w = one (w / 256) (w % 256) (small w) (slot_in waiting (w / 256)) refl h

  pub whole_begun : IsWhole g old → IsWhole g begun
  whole_begun h = record {
    honest = h.honest;
    pages = λ q. record {
      live_page = (h.pages q).live_page;
      frozen_page = λ s is. (h.pages q).live_page s (left_of (slot_in waiting q) (slot_in old.live q) (slot_in after q) s (left q) is);
      clean = (h.pages q).clean;
    };
  }
