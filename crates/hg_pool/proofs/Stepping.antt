-- The steps of a pool, one by one.
use Rattle.std.proofs.Common.{◌≡◌, ◌⊎◌, inl, inr, ◌<◌, ◌≤◌, ◌^◌, ◌==◌, ◌∙◌, ℕ, Bool, true, false, List, length, get_or, is_some, Option, Some, None, Result, Ok, Err, OnOk, OnErr, if◌then◌else◌, refl, sym, ap, subst, arith}
use Rattle.lru.specs.LruCache.{LruCache}
use Rattle.hg_disk.specs.declared.disk.Disk as disk
use Rattle.hg_cells.specs.declared.cell.Cell.{Cell}
use Rattle.hg_cells.specs.declared.cell.Cell.TheVariants.{New}
use Rattle.hg_pages.specs.Slots.{IsKnown}
use Rattle.hg_pages.specs.Tables as tables
use Rattle.hg_pages.specs.Tables.{IsNamed, slot_in}
use Rattle.hg_pages.proofs.Decoding.{stored}
use Rattle.hg_cache.specs.declared.frame.Frame.{Frame}
use Rattle.hg_pool.specs.Kept.{CellsFrom, IsWhole, Stays}
use Rattle.hg_pool.specs.Maps.{bytes_of, copy_in, frame_in, frozen_at, frozen_by, in_frame_or, in_slot}
use Rattle.hg_pool.specs.Shown.{ShownPool}
use Rattle.hg_pool.specs.Sound.{AreSound}
use Rattle.hg_pool.specs.Tables.{FindsBelow}
use Rattle.hg_pool.proofs.Changing.{FileStep, Here, LiveHere, Same, SlotsStay, live_by, still_file, went_by}
use Rattle.hg_pool.specs.OfWords.{ReadsTrue, went_on}
use Rattle.hg_cache.proofs.Lookups.{if_false, if_true, itself, same_number}

-- one page, and each other
pub each_page : (P : ℕ → Type 0) (page : ℕ) → P page → ((q : ℕ) → (page == q) ≡ false → P q) → (q : ℕ) → P q
each_page P page here apart q = by (page == q) refl
  where
    by : (b : Bool) → (page == q) ≡ b → P q
    by true test = subst P (same_number page q test) here
    by false test = apart q test

module _ {D : Type 0} (g : disk.Ghosts D) where
  -- a step that changes what is looked up at one page
  pub stays_at : (old new : ShownPool D) (page : ℕ) → FileStep g old new → SlotsStay g old new → ((q : ℕ) → (page == q) ≡ false → Same q old new)
      → (IsWhole g old → LiveHere g page old new) → (IsWhole g old → Here g page old new) → Stays g old new
  stays_at old new page file stay apart live here = record {
    went = went_by g old new file stay (each_page (λ q. Same q old new ⊎ (IsWhole g old → Here g q old new)) page (inr here) (λ q test. inl (apart q test)));
    live_is = live_by g old new stay (each_page (λ q. Same q old new ⊎ (IsWhole g old → LiveHere g q old new)) page (inr live) (λ q test. inl (apart q test)));
  }

  -- and one that changes nothing that is looked up
  pub stays_all : (old new : ShownPool D) → FileStep g old new → SlotsStay g old new → ((q : ℕ) → Same q old new) → Stays g old new
  stays_all old new file stay same = record {
    went = went_by g old new file stay (λ q. inl (same q));
    live_is = live_by g old new stay (λ q. inl (same q));
  }

  -- The frozen cells of a page are the same where its live ones are, and it waits and was copied as before.
  pub frozen_from_live : (q : ℕ) (old new : ShownPool D) → slot_in new.waiting q ≡ slot_in old.waiting q → copy_in new.copies q ≡ copy_in old.copies q
      → ((i : ℕ) → i < 256 → in_slot (bytes_of g new) (slot_in new.frozen q) i ≡ in_slot (bytes_of g old) (slot_in old.frozen q) i) → LiveHere g q old new
      → (i : ℕ) → i < 256 → frozen_at (bytes_of g new) new q i ≡ frozen_at (bytes_of g old) old q i
  frozen_from_live q old new waiting copies written live i lt k = frozen_by (waiting k) (copies k) (written i lt k) (live i lt k) i

-- other frames
pub sound_frames : (root : tables.ShownTable) (frozen : Option tables.ShownTable) (live waiting : tables.ShownTable) (copies : LruCache ℕ (List Cell)) (frames also : LruCache ℕ Frame) (slots : ℕ) (is_sealed : Bool) → AreSound root frozen live waiting copies frames slots is_sealed
    → also.cap ≡ frames.cap → ((page : ℕ) (f : Frame) → frame_in also.entries page ≡ Some f → page < 2 ^ 54)
    → ((page slot : ℕ) (f : Frame) → slot_in waiting.entries page ≡ Some slot → copy_in copies.entries page ≡ None → frame_in frames.entries page ≡ Some f → f.is_dirty ≡ true → (e : Frame) × (frame_in also.entries page ≡ Some e) × (e.is_dirty ≡ true))
    → AreSound root frozen live waiting copies also slots is_sealed
sound_frames root frozen live waiting copies frames also slots is_sealed s cap numbers dirty = record {
  picked = λ page slot waits.
      let was = s.picked page slot waits in
      record {
        not_root = was.not_root;
        not_frozen = was.not_frozen;
        not_live = was.not_live;
        unwritten = was.unwritten;
        present = λ none. let there = was.present none in dirty page slot there.0 waits none there.1 there.2;
        own = was.own;
        frozen_room = was.frozen_room;
        live_room = was.live_room;
        frozen_slots = was.frozen_slots;
        live_slots = was.live_slots;
        within = was.within;
        number = was.number;
      };
  copied = s.copied;
  few = let few = s.few in omega (arith, cap);
  most = s.most ∙ sym cap;
  numbers = numbers;
  sealed = s.sealed;
  most_frames = let most = s.most_frames in omega (arith, cap);
  least_frames = let least = s.least_frames in omega (arith, cap);
  most_slots = s.most_slots;
  root_below = s.root_below;
  frozen_below = s.frozen_below;
  live_below = s.live_below;
}

-- a page that waits without a copy is in a dirty frame; so one in a clean frame does not
pub clean_apart : (root : tables.ShownTable) (frozen : Option tables.ShownTable) (live waiting : tables.ShownTable) (copies : LruCache ℕ (List Cell)) (frames : LruCache ℕ Frame) (slots : ℕ) (is_sealed : Bool) (page q slot : ℕ) (f : Frame) → AreSound root frozen live waiting copies frames slots is_sealed
    → ((e : Frame) → frame_in frames.entries page ≡ Some e → e.is_dirty ≡ false) → frame_in frames.entries q ≡ Some f → f.is_dirty ≡ true → (page == q) ≡ false
clean_apart root frozen live waiting copies frames slots is_sealed page q slot f s clean is dirty = by (page == q) refl
  where
    by : (b : Bool) → (page == q) ≡ b → (page == q) ≡ false
    by true test = absurd (cc (sym dirty ∙ clean f (ap (λ (n : ℕ). frame_in frames.entries n) (same_number page q test) ∙ is)))
    by false test = test

-- a live table with more room
pub sound_room : (root : tables.ShownTable) (frozen : Option tables.ShownTable) (live also waiting : tables.ShownTable) (copies : LruCache ℕ (List Cell)) (frames : LruCache ℕ Frame) (slots : ℕ) (is_sealed : Bool) → AreSound root frozen live waiting copies frames slots is_sealed
    → also.entries ≡ live.entries → live.capacity ≤ also.capacity → live.slots ≤ also.slots → AreSound root frozen also waiting copies frames slots is_sealed
sound_room root frozen live also waiting copies frames slots is_sealed s entries more_room more_slots = record {
  picked = λ page slot waits.
      let was = s.picked page slot waits in
      record {
        not_root = was.not_root;
        not_frozen = was.not_frozen;
        not_live = subst (λ (es : List (ℕ × ℕ)). ¬ IsNamed es slot) (sym entries) was.not_live;
        unwritten = was.unwritten;
        present = was.present;
        own = was.own;
        frozen_room = was.frozen_room;
        live_room = let room = was.live_room in omega (arith, ap (λ (es : List (ℕ × ℕ)). length es) entries, more_room);
        frozen_slots = was.frozen_slots;
        live_slots = let lt = was.live_slots in omega (arith, more_slots);
        within = was.within;
        number = was.number;
      };
  copied = s.copied;
  few = s.few;
  most = s.most;
  numbers = s.numbers;
  sealed = s.sealed;
  most_frames = s.most_frames;
  least_frames = s.least_frames;
  most_slots = s.most_slots;
  root_below = s.root_below;
  frozen_below = s.frozen_below;
  live_below = subst (λ (es : List (ℕ × ℕ)). FindsBelow slots es) (sym entries) s.live_below;
}

copied_before : (b : Bool) (o : Option (List Cell)) (cells : List Cell) → (if b then Some cells else o) ≡ None → o ≡ None
copied_before true o cells is = absurd (cc is)
copied_before false o cells is = is

-- one copy more
pub sound_copy : (root : tables.ShownTable) (frozen : Option tables.ShownTable) (live waiting : tables.ShownTable) (copies also : LruCache ℕ (List Cell)) (frames : LruCache ℕ Frame) (slots : ℕ) (is_sealed : Bool) (page : ℕ) (cells : List Cell) → AreSound root frozen live waiting copies frames slots is_sealed
    → ((q : ℕ) → copy_in also.entries q ≡ (if page == q then Some cells else copy_in copies.entries q)) → is_some (slot_in waiting.entries page) ≡ true → also.cap ≡ copies.cap
    → AreSound root frozen live waiting also frames slots is_sealed
sound_copy root frozen live waiting copies also frames slots is_sealed page cells s look waits cap = record {
  picked = λ q slot picked.
      let was = s.picked q slot picked in
      record {
        not_root = was.not_root;
        not_frozen = was.not_frozen;
        not_live = was.not_live;
        unwritten = was.unwritten;
        present = λ none. was.present (copied_before (page == q) (copy_in copies.entries q) cells (sym (look q) ∙ none));
        own = was.own;
        frozen_room = was.frozen_room;
        live_room = was.live_room;
        frozen_slots = was.frozen_slots;
        live_slots = was.live_slots;
        within = was.within;
        number = was.number;
      };
  copied = λ q found is. by q found (page == q) refl (sym (look q) ∙ is);
  few = s.few;
  most = cap ∙ s.most;
  numbers = s.numbers;
  sealed = s.sealed;
  most_frames = s.most_frames;
  least_frames = s.least_frames;
  most_slots = s.most_slots;
  root_below = s.root_below;
  frozen_below = s.frozen_below;
  live_below = s.live_below;
}
  where
    by : (q : ℕ) (found : List Cell) (b : Bool) → (page == q) ≡ b → (if b then Some cells else copy_in copies.entries q) ≡ Some found → is_some (slot_in waiting.entries q) ≡ true
    by q found true test is = subst (λ (n : ℕ). is_some (slot_in waiting.entries n) ≡ true) (same_number page q test) waits
    by q found false test is = s.copied q found is

-- a page that waits, in its frame and in its copy
pub frozen_copied : (w : Option ℕ) (s : ℕ) (before after : Option (List Cell)) (frame : Option Frame) (f : Frame) (cells : List Cell) (written stored : Cell) (i : ℕ) → w ≡ Some s → before ≡ None → after ≡ Some cells → frame ≡ Some f → cells ≡ f.cells
    → frozen_by w after written (in_frame_or frame stored i) i ≡ frozen_by w before written (in_frame_or frame stored i) i
frozen_copied w s before after frame f cells written stored i waits none some there same =
    (λ k. frozen_by (waits k) (some k) written (in_frame_or (there k) stored i) i)
    ∙ ap (λ (l : List Cell). get_or l i New) same
    ∙ sym (λ k. frozen_by (waits k) (none k) written (in_frame_or (there k) stored i) i)

some_of : {X : Type 0} (o : Option X) → is_some o ≡ true → (x : X) × (o ≡ Some x)
some_of None is = absurd (cc is)
some_of (Some x) is = (x, refl)

pub the_some : {X : Type 0} (o : Option X) → is_some o ≡ true → (x : X) × (o ≡ Some x)
the_some o is = some_of o is

pub no_some : {X : Type 0} (o : Option X) → is_some o ≡ false → o ≡ None
no_some None is = refl
no_some (Some x) is = absurd (cc is)

-- a result is one or the other
pub either : {T E A B S : Type 0} (result : Result T E) → OnOk result A → OnErr result B → (A → S) → (B → S) → S
either (Ok value) a b ok err = ok a
either (Err error) a b ok err = err b

-- a pool that was not changed
pub stays_nowhere : {D : Type 0} (g : disk.Ghosts D) (p : ShownPool D) → Stays g p p
stays_nowhere g p = stays_all g p p (still_file g p p refl refl (λ q s there. there) (λ sealed. sealed) (λ sealed. refl) (refl, refl) (λ none. none)) (λ s b named has. has) (λ q. record { frames = refl; live = refl; frozen = refl; waiting = refl; copies = refl })

-- a copy more
pub stays_copied : {D : Type 0} (g : disk.Ghosts D) (old : ShownPool D) (copies : List (ℕ × List Cell)) (page slot : ℕ) (f : Frame) (cells : List Cell) → ((q : ℕ) → copy_in copies q ≡ (if page == q then Some cells else copy_in old.copies q))
    → slot_in old.waiting page ≡ Some slot → copy_in old.copies page ≡ None → frame_in old.frames page ≡ Some f → cells ≡ f.cells → Stays g old (record old { copies = copies })
stays_copied {D} g old copies page slot f cells look waits none there same =
    let new : ShownPool D = record old { copies = copies } in
    stays_at g old new page (still_file g old new refl refl (λ q s is. is) (λ sealed. sealed) (λ sealed. refl) (refl, refl) (λ none. none)) (λ s b named has. has)
    (λ q apart. record { frames = refl; live = refl; frozen = refl; waiting = refl; copies = look q ∙ if_false (page == q) (Some cells) (copy_in old.copies q) apart })
    (λ h i lt. refl)
    (λ h. record {
      frozen = λ i lt.
          frozen_copied (slot_in old.waiting page) slot (copy_in old.copies page) (copy_in copies page) (frame_in old.frames page) f cells (in_slot (bytes_of g old) (slot_in old.frozen page) i) (in_slot (bytes_of g old) (slot_in old.live page) i) i
          waits none (look page ∙ if_true (page == page) (Some cells) (copy_in old.copies page) (itself page)) there same;
      whole = record { live_page = (h.pages page).live_page; frozen_page = (h.pages page).frozen_page; clean = (h.pages page).clean };
    })

-- steps one after the other
pub stays_on : {D : Type 0} (g : disk.Ghosts D) (old mid new : ShownPool D) → Stays g old mid → Stays g mid new → Stays g old new
stays_on g old mid new one two = record { went = went_on g old mid new one.went two.went; live_is = λ h w. two.live_is (one.went.whole h) w ∙ one.live_is h w }

-- what can be read back still can be, where no word changes
pub true_on : {D : Type 0} (g : disk.Ghosts D) (old new : ShownPool D) (segments : ℕ) (sets : List (List ℕ)) → Stays g old new
    → ReadsTrue g old segments sets → ReadsTrue g new segments sets
true_on g old new segments sets stays h =
    (stays.went.whole h.0, λ w. subst (IsKnown segments sets) (sym (stays.live_is h.0 w)) (h.1 w))

-- another list of the live table's entries, which is the same
pub stays_live : {D : Type 0} (g : disk.Ghosts D) (old : ShownPool D) (live : List (ℕ × ℕ)) → live ≡ old.live → Stays g old (record old { live = live })
stays_live {D} g old live same = subst (λ (es : List (ℕ × ℕ)). Stays g old (record old { live = es })) (sym same) (stays_nowhere g old)

-- cells in memory
pub cells_same : (old new : List (ℕ × Frame)) → new ≡ old → CellsFrom old new
cells_same old new same q f is = (f, ap (λ (l : List (ℕ × Frame)). frame_in l q) (sym same) ∙ is, refl)

pub cells_on : (old mid new : List (ℕ × Frame)) → CellsFrom old mid → CellsFrom mid new → CellsFrom old new
cells_on old mid new one two q f is =
    let b = two q f is in
    let a = one q b.0 b.1 in
    (a.0, a.1, b.2 ∙ a.2)

pub cells_gone : (page : ℕ) (old new : List (ℕ × Frame)) → ((q : ℕ) → frame_in new q ≡ (if page == q then None else frame_in old q)) → CellsFrom old new
cells_gone page old new look q f is = by (page == q) (sym (look q) ∙ is)
  where
    by : (b : Bool) → (if b then None else frame_in old q) ≡ Some f → (e : Frame) × (frame_in old q ≡ Some e) × (f.cells ≡ e.cells)
    by true there = absurd (cc there)
    by false there = (f, there, refl)

pub cells_clean : (page : ℕ) (e : Frame) (old new : List (ℕ × Frame)) → frame_in old page ≡ Some e → ((q : ℕ) → frame_in new q ≡ (if page == q then Some (record e { is_dirty = false }) else frame_in old q)) → CellsFrom old new
cells_clean page e old new there look q f is = by (page == q) refl (sym (look q) ∙ is)
  where
    by : (b : Bool) → (page == q) ≡ b → (if b then Some (record e { is_dirty = false }) else frame_in old q) ≡ Some f → (x : Frame) × (frame_in old q ≡ Some x) × (f.cells ≡ x.cells)
    by true test found =
        let same : record e { is_dirty = false } ≡ f = cc found in
        (e, ap (λ (n : ℕ). frame_in old n) (sym (same_number page q test)) ∙ there, ap (λ (x : Frame). x.cells) (sym same))
    by false test found = (f, found, refl)
