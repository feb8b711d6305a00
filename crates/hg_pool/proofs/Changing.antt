-- What a step of a pool leaves, page by page.
use Rattle.std.proofs.Common.{◌≡◌, ◌⊎◌, inl, inr, ◌<◌, ◌≤◌, ◌/◌, ◌%◌, ℕ, false, List, [], ◌∷◌, ◌≢◌, length, Option, Some, None, IsTrue, refl, sym, ap, subst, ◌∙◌, arith}
use Rattle.hg_disk.specs.declared.disk.Disk as disk
use Rattle.hg_disk.specs.Moments.{GoesOn, Leaves, LeavesOnly, WereTrueBefore}
use Rattle.hg_disk.specs.State.{IsImage}
use Rattle.hg_disk.proofs.Moments.{started, weaker}
use Rattle.hg_cells.specs.declared.cell.Cell.{Cell}
use Rattle.hg_pages.specs.Slots.{HasBytes, HasSlot, slot_text}
use Rattle.hg_pages.specs.Tables.{IsNamed, slot_in}
use Rattle.hg_pages.proofs.Decoding.{stored}
use Rattle.hg_pool.specs.Kept.{BreaksByFailure, Extends, HasSome, IsPageWhole, IsWhole, KeepsNamed, SameMap, Went}
use Rattle.hg_pool.specs.Maps.{bytes_of, copy_in, disk_of, frame_in, frozen, frozen_at, frozen_by, in_frame_or, in_slot, is_broken, live, live_at}
use Rattle.hg_pool.specs.Shown.{ShownPool}

-- nothing is looked up otherwise at this page
pub record Same {D : Type 0} (q : ℕ) (old new : ShownPool D) : Type 0 where
  pub frames : frame_in new.frames q ≡ frame_in old.frames q
  pub live : slot_in new.live q ≡ slot_in old.live q
  pub frozen : slot_in new.frozen q ≡ slot_in old.frozen q
  pub waiting : slot_in new.waiting q ≡ slot_in old.waiting q
  pub copies : copy_in new.copies q ≡ copy_in old.copies q

-- the slot of a page has the same cells in another file
slot_same : (file also : List ℕ) (o : Option ℕ) (page i : ℕ) → i < 256 → ((s : ℕ) → o ≡ Some s → HasSome s page file)
    → ((s : ℕ) (bytes : List ℕ) → o ≡ Some s → HasBytes s bytes file → HasBytes s bytes also) → in_slot also o i ≡ in_slot file o i
slot_same file also None page i lt has stays = refl
slot_same file also (Some s) page i lt has stays =
    let found = has s refl in
    let there : HasSlot s page found.0 also = record { page_is = found.1.page_is; bytes = stays s (slot_text page found.0) refl found.1.bytes } in
    stored s page i found.0 also lt there ∙ sym (stored s page i found.0 file lt found.1)

some_same : (file also : List ℕ) (s page : ℕ) → HasSome s page file → ((bytes : List ℕ) → HasBytes s bytes file → HasBytes s bytes also) → HasSome s page also
some_same file also s page found stays = (found.0, record { page_is = found.1.page_is; bytes = stays (slot_text page found.0) found.1.bytes })

small : (w : ℕ) → w % 256 < 256
small w = omega arith

module _ {D : Type 0} (g : disk.Ghosts D) where
  -- what the slots have that the tables name, they go on to have
  abbrev pub SlotsStay : ShownPool D → ShownPool D → Type 0
  SlotsStay old new = (slot : ℕ) (bytes : List ℕ) → IsNamed old.live slot ⊎ IsNamed old.frozen slot → HasBytes slot bytes (bytes_of g old) → HasBytes slot bytes (bytes_of g new)

  -- the frozen cells of this page are the same, and it is whole
  pub record Here (q : ℕ) (old new : ShownPool D) : Type 0 where
    pub frozen : (i : ℕ) → i < 256 → frozen_at (bytes_of g new) new q i ≡ frozen_at (bytes_of g old) old q i
    pub whole : IsPageWhole g new q

  abbrev pub LiveHere : ℕ → ShownPool D → ShownPool D → Type 0
  LiveHere q old new = (i : ℕ) → i < 256 → live_at (bytes_of g new) new q i ≡ live_at (bytes_of g old) old q i

  -- what a step makes of the file and of the tables
  pub record FileStep (old new : ShownPool D) : Type 0 where
    pub goes : GoesOn g (disk_of old) (disk_of new)
    pub works : is_broken new ≡ false → is_broken old ≡ false
    pub breaks : BreaksByFailure g old new
    pub root : new.root ≡ old.root
    pub frozen_table : Extends old.frozen new.frozen
    pub root_kept : KeepsNamed g old.root old new
    pub frozen_kept : KeepsNamed g old.frozen old new
    pub long : (n : ℕ) → Leaves (λ image. n ≤ length image) (g.state (disk_of old)) → LeavesOnly g (disk_of old) (disk_of new) (λ image. n ≤ length image)
    pub sealed : IsTrue old.is_sealed → IsTrue new.is_sealed
    pub sealed_table : IsTrue old.is_sealed → new.frozen ≡ old.frozen
    pub limits : (new.most_frames ≡ old.most_frames) × (new.slots ≡ old.slots)
    pub none_waits : old.waiting ≡ [] → new.waiting ≡ []

  live_slot_same : (q : ℕ) (old new : ShownPool D) → SlotsStay old new → IsWhole g old → (i : ℕ) → i < 256 → in_slot (bytes_of g new) (slot_in old.live q) i ≡ in_slot (bytes_of g old) (slot_in old.live q) i
  live_slot_same q old new stay h i lt =
      slot_same (bytes_of g old) (bytes_of g new) (slot_in old.live q) q i lt (λ s is. (h.pages q).live_page s is) (λ s bytes is has. stay s bytes (inl (q, is)) has)

  frozen_slot_same : (q : ℕ) (old new : ShownPool D) → SlotsStay old new → IsWhole g old → (i : ℕ) → i < 256 → in_slot (bytes_of g new) (slot_in old.frozen q) i ≡ in_slot (bytes_of g old) (slot_in old.frozen q) i
  frozen_slot_same q old new stay h i lt =
      slot_same (bytes_of g old) (bytes_of g new) (slot_in old.frozen q) q i lt (λ s is. (h.pages q).frozen_page s is) (λ s bytes is has. stay s bytes (inr (q, is)) has)

  -- a page at which nothing is looked up otherwise
  pub live_same : (q : ℕ) (old new : ShownPool D) → Same q old new → SlotsStay old new → IsWhole g old → LiveHere q old new
  live_same q old new same stay h i lt =
      (λ k. in_frame_or (same.frames k) (in_slot (bytes_of g new) (same.live k) i) i)
      ∙ ap (λ (c : Cell). in_frame_or (frame_in old.frames q) c i) (live_slot_same q old new stay h i lt)

  pub here_same : (q : ℕ) (old new : ShownPool D) → Same q old new → SlotsStay old new → IsWhole g old → Here q old new
  here_same q old new same stay h = record {
    frozen = λ i lt.
        (λ k. frozen_by (same.waiting k) (same.copies k) (in_slot (bytes_of g new) (same.frozen k) i) (live_same q old new same stay h i lt k) i)
        ∙ ap (λ (c : Cell). frozen_by (slot_in old.waiting q) (copy_in old.copies q) c (live_at (bytes_of g old) old q i) i) (frozen_slot_same q old new stay h i lt);
    whole = record {
      live_page = λ s is.
          let was = sym same.live ∙ is in
          some_same (bytes_of g old) (bytes_of g new) s q ((h.pages q).live_page s was) (λ bytes has. stay s bytes (inl (q, was)) has);
      frozen_page = λ s is.
          let was = sym same.frozen ∙ is in
          some_same (bytes_of g old) (bytes_of g new) s q ((h.pages q).frozen_page s was) (λ bytes has. stay s bytes (inr (q, was)) has);
      clean = λ f is clean i lt.
          (h.pages q).clean f (sym same.frames ∙ is) clean i lt
          ∙ sym ((λ k. in_slot (bytes_of g new) (same.live k) i) ∙ live_slot_same q old new stay h i lt);
    };
  }

  here_by : (q : ℕ) (old new : ShownPool D) → SlotsStay old new → IsWhole g old → Same q old new ⊎ (IsWhole g old → Here q old new) → Here q old new
  here_by q old new stay h (inl same) = here_same q old new same stay h
  here_by q old new stay h (inr here) = here h

  -- a step, page by page
  pub went_by : (old new : ShownPool D) → FileStep old new → SlotsStay old new → ((q : ℕ) → Same q old new ⊎ (IsWhole g old → Here q old new)) → Went g old new
  went_by old new file stay each = record {
    goes = file.goes;
    works = file.works;
    breaks = file.breaks;
    root = file.root;
    frozen_table = file.frozen_table;
    root_kept = file.root_kept;
    frozen_kept = file.frozen_kept;
    long = file.long;
    whole = λ h. record { honest = h.honest; pages = λ q. (here_by q old new stay h (each q)).whole };
    frozen_is = λ h w. (here_by (w / 256) old new stay h (each (w / 256))).frozen (w % 256) (small w);
    sealed = file.sealed;
    sealed_table = file.sealed_table;
    limits = file.limits;
    none_waits = file.none_waits;
  }

  live_here_by : (q : ℕ) (old new : ShownPool D) → SlotsStay old new → IsWhole g old → Same q old new ⊎ (IsWhole g old → LiveHere q old new) → LiveHere q old new
  live_here_by q old new stay h (inl same) = live_same q old new same stay h
  live_here_by q old new stay h (inr here) = here h

  pub live_by : (old new : ShownPool D) → SlotsStay old new → ((q : ℕ) → Same q old new ⊎ (IsWhole g old → LiveHere q old new)) → IsWhole g old → SameMap (live g old) (live g new)
  live_by old new stay each h w = live_here_by (w / 256) old new stay h (each (w / 256)) (w % 256) (small w)

  -- where the file is as it was
  pub still_file : (old new : ShownPool D) → new.file ≡ old.file → new.root ≡ old.root → Extends old.frozen new.frozen → (IsTrue old.is_sealed → IsTrue new.is_sealed) → (IsTrue old.is_sealed → new.frozen ≡ old.frozen) → (new.most_frames ≡ old.most_frames) × (new.slots ≡ old.slots) → (old.waiting ≡ [] → new.waiting ≡ []) → FileStep old new
  still_file old new file root frozen sealed sealed_table limits none_waits =
      let same : disk_of new ≡ disk_of old = λ k. (file k).disk in
      record {
        goes = ([], ap (λ (d : D). g.state d ∷ g.past d) same, subst (λ (d : D). WereTrueBefore g (disk_of old) d) (sym same) (λ were. were));
        works = λ works. sym (λ k. (file k).is_broken) ∙ works;
        breaks = (let equal = ap (λ (d : D). g.failures d) same in omega (arith, equal), inl (λ k. (file k).is_broken));
        root = root;
        frozen_table = frozen;
        root_kept = λ slot bytes named leaves. subst (λ (d : D). LeavesOnly g (disk_of old) d (HasBytes slot bytes)) (sym same) (started g (disk_of old) (HasBytes slot bytes) leaves);
        frozen_kept = λ slot bytes named leaves. subst (λ (d : D). LeavesOnly g (disk_of old) d (HasBytes slot bytes)) (sym same) (started g (disk_of old) (HasBytes slot bytes) leaves);
        long = λ n leaves. subst (λ (d : D). LeavesOnly g (disk_of old) d (λ image. n ≤ length image)) (sym same) (started g (disk_of old) (λ image. n ≤ length image) leaves);
        sealed = sealed;
        sealed_table = sealed_table;
        limits = limits;
        none_waits = none_waits;
      }

  -- where a call of the file adds no image
  pub quiet_file : (old new : ShownPool D) → LeavesOnly g (disk_of old) (disk_of new) (IsImage (g.state (disk_of old))) → (is_broken new ≡ false → is_broken old ≡ false) → BreaksByFailure g old new → new.root ≡ old.root → Extends old.frozen new.frozen
      → (IsTrue old.is_sealed → IsTrue new.is_sealed) → (IsTrue old.is_sealed → new.frozen ≡ old.frozen) → (new.most_frames ≡ old.most_frames) × (new.slots ≡ old.slots) → (old.waiting ≡ [] → new.waiting ≡ []) → FileStep old new
  quiet_file old new only works breaks root frozen sealed sealed_table limits none_waits = record {
    goes = (only.later, only.has_gone, only.kept);
    works = works;
    breaks = breaks;
    root = root;
    frozen_table = frozen;
    root_kept = λ slot bytes named leaves. weaker g (disk_of old) (disk_of new) (IsImage (g.state (disk_of old))) (HasBytes slot bytes) only leaves;
    frozen_kept = λ slot bytes named leaves. weaker g (disk_of old) (disk_of new) (IsImage (g.state (disk_of old))) (HasBytes slot bytes) only leaves;
    long = λ n leaves. weaker g (disk_of old) (disk_of new) (IsImage (g.state (disk_of old))) (λ image. n ≤ length image) only leaves;
    sealed = sealed;
    sealed_table = sealed_table;
    limits = limits;
    none_waits = none_waits;
  }

  -- where a page is written to a slot that no table of the root or of the frozen map names
  pub written_file : (old new : ShownPool D) (slot : ℕ) → ¬ IsNamed old.root slot → ¬ IsNamed old.frozen slot
      → ((other : ℕ) (bytes : List ℕ) → other ≢ slot → Leaves (HasBytes other bytes) (g.state (disk_of old)) → LeavesOnly g (disk_of old) (disk_of new) (HasBytes other bytes))
      → ((n : ℕ) → Leaves (λ image. n ≤ length image) (g.state (disk_of old)) → LeavesOnly g (disk_of old) (disk_of new) (λ image. n ≤ length image))
      → (is_broken new ≡ false → is_broken old ≡ false) → BreaksByFailure g old new → new.root ≡ old.root → Extends old.frozen new.frozen
      → (IsTrue old.is_sealed → IsTrue new.is_sealed) → (IsTrue old.is_sealed → new.frozen ≡ old.frozen) → (new.most_frames ≡ old.most_frames) × (new.slots ≡ old.slots) → (old.waiting ≡ [] → new.waiting ≡ []) → FileStep old new
  written_file old new slot not_root not_frozen moments long works breaks root frozen sealed sealed_table limits none_waits =
      let all = long 0 (λ image is. omega arith) in
      record {
        goes = (all.later, all.has_gone, all.kept);
        works = works;
        breaks = breaks;
        root = root;
        frozen_table = frozen;
        root_kept = λ other bytes named leaves. moments other bytes (λ same. not_root (subst (λ (s : ℕ). IsNamed old.root s) same named)) leaves;
        frozen_kept = λ other bytes named leaves. moments other bytes (λ same. not_frozen (subst (λ (s : ℕ). IsNamed old.frozen s) same named)) leaves;
        long = long;
        sealed = sealed;
        sealed_table = sealed_table;
        limits = limits;
        none_waits = none_waits;
      }
