-- Words of a page in memory are given a cell.
use Rattle.std.proofs.Common.{◌≡◌, ◌⊎◌, inl, inr, ◌<◌, ◌^◌, ◌==◌, ◌∙◌, ℕ, Bool, true, false, List, is_some, Option, Some, None, if◌then◌else◌, refl, sym, ap, subst}
use Rattle.lru.specs.LruCache.{LruCache}
use Rattle.hg_disk.specs.declared.disk.Disk as disk
use Rattle.hg_cells.specs.declared.cell.Cell.{Cell}
use Rattle.hg_pages.specs.Tables as tables
use Rattle.hg_pages.specs.Tables.{slot_in}
use Rattle.hg_cache.specs.declared.frame.Frame.{Frame}
use Rattle.hg_pool.specs.Kept.{IsWhole, Went}
use Rattle.hg_pool.specs.Maps.{bytes_of, copy_in, frame_in, frozen_by, in_slot, live_at}
use Rattle.hg_pool.specs.Shown.{ShownPool}
use Rattle.hg_pool.specs.Sound.{AreSound}
use Rattle.hg_pool.proofs.Changing.{Here, Same, still_file, went_by}
use Rattle.hg_cache.proofs.Lookups.{if_false, if_true, itself, same_number}
use Rattle.hg_pool.proofs.Stepping.{each_page, sound_frames}

-- the present cells of a page that does not wait, or was copied, are not the frozen ones
pub not_present : (w : Option ℕ) (copy : Option (List Cell)) (written one two : Cell) (i : ℕ) → (w ≡ None) ⊎ (is_some copy ≡ true) → frozen_by w copy written one i ≡ frozen_by w copy written two i
not_present None copy written one two i settled = refl
not_present (Some s) (Some cells) written one two i settled = refl
not_present (Some s) None written one two i (inl none) = absurd (cc none)
not_present (Some s) None written one two i (inr some) = absurd (cc some)

pub went_filled : {D : Type 0} (g : disk.Ghosts D) (old : ShownPool D) (frames : List (ℕ × Frame)) (cap page : ℕ) (e : Frame) → ((q : ℕ) → frame_in frames q ≡ (if page == q then Some e else frame_in old.frames q)) → e.is_dirty ≡ true → cap ≡ old.most_frames
    → (slot_in old.waiting page ≡ None) ⊎ (is_some (copy_in old.copies page) ≡ true) → Went g old (record old { frames = frames; most_frames = cap })
went_filled {D} g old frames cap page e look dirty same_cap settled =
    let new : ShownPool D = record old { frames = frames; most_frames = cap } in
    let here : frame_in frames page ≡ Some e = look page ∙ if_true (page == page) (Some e) (frame_in old.frames page) (itself page) in
    let at : IsWhole g old → Here g page old new = λ h. record {
      frozen = λ i lt. not_present (slot_in old.waiting page) (copy_in old.copies page) (in_slot (bytes_of g old) (slot_in old.frozen page) i) (live_at (bytes_of g old) new page i) (live_at (bytes_of g old) old page i) i settled;
      whole = record {
        live_page = (h.pages page).live_page;
        frozen_page = (h.pages page).frozen_page;
        clean = λ f is clean. let same : e ≡ f = cc (sym here ∙ is) in absurd (cc (sym dirty ∙ ap (λ (x : Frame). x.is_dirty) same ∙ clean));
      };
    } in
    went_by g old new (still_file g old new refl refl (λ q s is. is) (λ sealed. sealed) (λ sealed. refl) (same_cap, refl) (λ none. none)) (λ s b named has. has)
    (each_page (λ q. Same q old new ⊎ (IsWhole g old → Here g q old new)) page (inr at)
    (λ q apart. inl (record { frames = look q ∙ if_false (page == q) (Some e) (frame_in old.frames q) apart; live = refl; frozen = refl; waiting = refl; copies = refl })))

pub sound_filled : (root : tables.ShownTable) (frozen : Option tables.ShownTable) (live waiting : tables.ShownTable) (copies : LruCache ℕ (List Cell)) (frames also : LruCache ℕ Frame) (slots : ℕ) (is_sealed : Bool) (page : ℕ) (e was : Frame) → AreSound root frozen live waiting copies frames slots is_sealed
    → also.cap ≡ frames.cap → ((q : ℕ) → frame_in also.entries q ≡ (if page == q then Some e else frame_in frames.entries q)) → e.is_dirty ≡ true → frame_in frames.entries page ≡ Some was → AreSound root frozen live waiting copies also slots is_sealed
sound_filled root frozen live waiting copies frames also slots is_sealed page e was s cap look dirty there =
    sound_frames root frozen live waiting copies frames also slots is_sealed s cap (λ q f is. number q f (page == q) refl (sym (look q) ∙ is))
    (λ q t f waits none is dirty_there. kept q f is dirty_there (page == q) (look q))
  where
    number : (q : ℕ) (f : Frame) (b : Bool) → (page == q) ≡ b → (if b then Some e else frame_in frames.entries q) ≡ Some f → q < 2 ^ 54
    number q f true test is = subst (λ (n : ℕ). n < 2 ^ 54) (same_number page q test) (s.numbers page was there)
    number q f false test is = s.numbers q f is

    kept : (q : ℕ) (f : Frame) → frame_in frames.entries q ≡ Some f → f.is_dirty ≡ true → (b : Bool) → frame_in also.entries q ≡ (if b then Some e else frame_in frames.entries q) → (x : Frame) × (frame_in also.entries q ≡ Some x) × (x.is_dirty ≡ true)
    kept q f is dirty_there true found = (e, found, dirty)
    kept q f is dirty_there false found = (f, found ∙ is, dirty_there)
