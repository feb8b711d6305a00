-- A page that was written gets its slot, in the live table or in the frozen one.
use Rattle.std.proofs.Common.{◌≡◌, ◌⊎◌, inl, inr, ◌<◌, ◌≤◌, ◌+◌, ◌^◌, ◌==◌, ◌∙◌, ℕ, Bool, true, false, List, [], length, IsTrue, get_or, is_some, Option, Some, None, Result, Ok, Err, IsOk, OnOk, if◌then◌else◌, refl, sym, ap, subst, arith}
use Rattle.std.specs.Option.{unwrap_or}
use Rattle.lru.specs.LruCache.{LruCache}
use Rattle.hg_disk.specs.declared.disk.Disk as disk
use Rattle.hg_cells.specs.declared.cell.Cell.{Cell}
use Rattle.hg_cells.specs.declared.cell.Cell.TheVariants.{New}
use Rattle.hg_pages.specs.Slots.{HasSlot}
use Rattle.hg_pages.specs.Tables as tables
use Rattle.hg_pages.specs.Tables.{IsNamed, slot_in}
use Rattle.hg_pages.proofs.Decoding.{stored}
use Rattle.hg_cache.specs.declared.frame.Frame.{Frame}
use Rattle.hg_pool.specs.Kept.{Stays}
use Rattle.hg_pool.specs.Maps.{bytes_of, copy_in, frame_in, frozen_at, frozen_by, in_frame_or, in_slot, live_at}
use Rattle.hg_pool.specs.Shown.{ShownPool}
use Rattle.hg_pool.specs.Sound.{AreSound}
use Rattle.hg_pool.specs.Tables.{FindsBelow, IsSetAt}
use Rattle.hg_pool.proofs.Changing.{LiveHere, still_file}
use Rattle.hg_cache.proofs.Lookups.{if_false, if_true, itself, same_number}
use Rattle.hg_pool.proofs.Stepping.{frozen_from_live, stays_at}

ok_of : {T E A : Type 0} (result : Result T E) → IsOk result → OnOk result A → A
ok_of (Ok value) is a = a
ok_of (Err error) is a = absurd (cc is)

-- a table with room takes an entry
pub set_at : {T E : Type 0} (page slot : ℕ) (old new : tables.ShownTable) (result : Result T E) (waiting : tables.ShownTable) → length old.entries + length waiting.entries < old.capacity → slot < old.slots
    → OnOk result ((other : ℕ) → slot_in new.entries other ≡ (if page == other then Some slot else slot_in old.entries other)) → (length old.entries < old.capacity → slot < old.slots → IsOk result)
    → OnOk result (length new.entries ≡ length old.entries + (if is_some (slot_in old.entries page) then 0 else 1)) → (old.capacity ≤ new.capacity) × (old.slots ≤ new.slots) → IsSetAt page slot old new
set_at page slot old new result waiting room slots looks adds size more =
    let is = adds (omega (arith, room)) slots in
    record { looks = ok_of result is looks; size = ok_of result is size; capacity = more.0; slots = more.1 }

one_more : (b : Bool) (n m : ℕ) → m ≡ n + (if b then 0 else 1) → m ≤ n + 1
one_more true n m is = omega (arith, is)
one_more false n m is = omega (arith, is)

pub at_most_one : (page slot : ℕ) (old new : tables.ShownTable) → IsSetAt page slot old new → length new.entries ≤ length old.entries + 1
at_most_one page slot old new put = one_more (is_some (slot_in old.entries page)) (length old.entries) (length new.entries) put.size

-- which slots the table names then
pub names_no_other : (page slot other : ℕ) (old new : tables.ShownTable) → IsSetAt page slot old new → (slot ≡ other → ⊥) → ¬ IsNamed old.entries other → ¬ IsNamed new.entries other
names_no_other page slot other old new put apart not named = by (page == named.0) (sym (put.looks named.0) ∙ named.1)
  where
    by : (b : Bool) → (if b then Some slot else slot_in old.entries named.0) ≡ Some other → ⊥
    by true is = apart (cc is)
    by false is = not (named.0, is)

-- and which pages it has
set_below : (slots page slot : ℕ) (old new : tables.ShownTable) → IsSetAt page slot old new → page < 2 ^ 54 → slot < slots → FindsBelow slots old.entries → FindsBelow slots new.entries
set_below slots page slot old new put number within below q t is = by (page == q) refl (sym (put.looks q) ∙ is)
  where
    by : (b : Bool) → (page == q) ≡ b → (if b then Some slot else slot_in old.entries q) ≡ Some t → (q < 2 ^ 54) × (t < slots)
    by true test found = let same : slot ≡ t = cc found in (subst (λ (n : ℕ). n < 2 ^ 54) (same_number page q test) number, subst (λ (n : ℕ). n < slots) same within)
    by false test found = below q t found

-- the live table
pub sound_moved : (root : tables.ShownTable) (frozen : Option tables.ShownTable) (live also waiting : tables.ShownTable) (copies : LruCache ℕ (List Cell)) (frames after : LruCache ℕ Frame) (slots : ℕ) (is_sealed : Bool) (page slot : ℕ) (f : Frame) → AreSound root frozen live waiting copies frames slots is_sealed
    → IsSetAt page slot live also → frame_in frames.entries page ≡ Some f → ((q : ℕ) → frame_in after.entries q ≡ (if page == q then Some (record f { is_dirty = false }) else frame_in frames.entries q)) → after.cap ≡ frames.cap
    → ¬ IsNamed waiting.entries slot → (slot_in waiting.entries page ≡ None) ⊎ (is_some (copy_in copies.entries page) ≡ true) → length live.entries + length waiting.entries < live.capacity → slot < slots
    → AreSound root frozen also waiting copies after slots is_sealed
sound_moved root frozen live also waiting copies frames after slots is_sealed page slot f s put there look cap unpicked settled room within = record {
  picked = λ q t waits.
      let was = s.picked q t waits in
      record {
        not_root = was.not_root;
        not_frozen = was.not_frozen;
        not_live = names_no_other page slot t live also put (λ same. unpicked (q, waits ∙ ap (λ (n : ℕ). Some n) (sym same))) was.not_live;
        unwritten = was.unwritten;
        present = λ none. let found = was.present none in (found.0, look q ∙ if_false (page == q) (Some (record f { is_dirty = false })) (frame_in frames.entries q) (apart q t waits none settled (page == q) refl) ∙ found.1, found.2);
        own = was.own;
        frozen_room = was.frozen_room;
        live_room = omega (arith, room, at_most_one page slot live also put, put.capacity);
        frozen_slots = was.frozen_slots;
        live_slots = let lt = was.live_slots in omega (arith, put.slots);
        within = was.within;
        number = was.number;
      };
  copied = s.copied;
  few = let few = s.few in omega (arith, cap);
  most = s.most ∙ sym cap;
  numbers = λ q e is. number q e (page == q) refl (sym (look q) ∙ is);
  sealed = s.sealed;
  most_frames = let most = s.most_frames in omega (arith, cap);
  least_frames = let least = s.least_frames in omega (arith, cap);
  most_slots = s.most_slots;
  root_below = s.root_below;
  frozen_below = s.frozen_below;
  live_below = set_below slots page slot live also put (s.numbers page f there) within s.live_below;
}
  where
    apart : (q t : ℕ) → slot_in waiting.entries q ≡ Some t → copy_in copies.entries q ≡ None → (slot_in waiting.entries page ≡ None) ⊎ (is_some (copy_in copies.entries page) ≡ true) → (b : Bool) → (page == q) ≡ b → (page == q) ≡ false
    apart q t waits none (inl gone) true test = absurd (cc (sym gone ∙ ap (λ (n : ℕ). slot_in waiting.entries n) (same_number page q test) ∙ waits))
    apart q t waits none (inr kept) true test = absurd (cc (sym kept ∙ ap (λ (n : ℕ). is_some (copy_in copies.entries n)) (same_number page q test) ∙ ap is_some none))
    apart q t waits none either false test = test

    number : (q : ℕ) (e : Frame) (b : Bool) → (page == q) ≡ b → (if b then Some (record f { is_dirty = false }) else frame_in frames.entries q) ≡ Some e → q < 2 ^ 54
    number q e true test is = subst (λ (n : ℕ). n < 2 ^ 54) (same_number page q test) (s.numbers page f there)
    number q e false test is = s.numbers q e is

pub stays_moved : {D : Type 0} (g : disk.Ghosts D) (old : ShownPool D) (live : List (ℕ × ℕ)) (frames : List (ℕ × Frame)) (cap page slot : ℕ) (f : Frame) → ((q : ℕ) → slot_in live q ≡ (if page == q then Some slot else slot_in old.live q)) → frame_in old.frames page ≡ Some f
    → ((q : ℕ) → frame_in frames q ≡ (if page == q then Some (record f { is_dirty = false }) else frame_in old.frames q)) → cap ≡ old.most_frames → HasSlot slot page f.cells (bytes_of g old)
    → Stays g old (record old { live = live; frames = frames; most_frames = cap })
stays_moved {D} g old live frames cap page slot f look there frames_look same_cap stands =
    let new : ShownPool D = record old { live = live; frames = frames; most_frames = cap } in
    let clean : Frame = record f { is_dirty = false } in
    let here : frame_in frames page ≡ Some clean = frames_look page ∙ if_true (page == page) (Some clean) (frame_in old.frames page) (itself page) in
    let slot_here : slot_in live page ≡ Some slot = look page ∙ if_true (page == page) (Some slot) (slot_in old.live page) (itself page) in
    let same : LiveHere g page old new = λ i lt.
    (λ k. in_frame_or (here k) (in_slot (bytes_of g old) (slot_in live page) i) i) ∙ sym (λ k. in_frame_or (there k) (in_slot (bytes_of g old) (slot_in old.live page) i) i) in
    stays_at g old new page (still_file g old new refl refl (λ q s is. is) (λ sealed. sealed) (λ sealed. refl) (same_cap, refl) (λ none. none)) (λ s b named has. has)
    (λ q apart. record {
      frames = frames_look q ∙ if_false (page == q) (Some clean) (frame_in old.frames q) apart;
      live = look q ∙ if_false (page == q) (Some slot) (slot_in old.live q) apart;
      frozen = refl;
      waiting = refl;
      copies = refl;
    })
    (λ h. same)
    (λ h. record {
      frozen = frozen_from_live g page old new refl refl (λ i lt. refl) same;
      whole = record {
        live_page = λ s is. let at : slot ≡ s = cc (sym slot_here ∙ is) in (f.cells, subst (λ (n : ℕ). HasSlot n page f.cells (bytes_of g old)) at stands);
        frozen_page = (h.pages page).frozen_page;
        clean = λ e is tidy i lt.
            let at : clean ≡ e = cc (sym here ∙ is) in
            ap (λ (x : Frame). get_or x.cells i New) (sym at)
            ∙ sym (ap (λ (o : Option ℕ). in_slot (bytes_of g old) o i) slot_here ∙ stored slot page i f.cells (bytes_of g old) lt stands);
      };
    })

pub no_page_left : (b : Bool) (o : Option ℕ) (s : ℕ) → (if b then None else o) ≡ Some s → (b ≡ false) × (o ≡ Some s)
no_page_left true o s is = absurd (cc is)
no_page_left false o s is = (refl, is)

copy_left : (b : Bool) (o : Option (List Cell)) (cells : List Cell) → (if b then None else o) ≡ Some cells → (b ≡ false) × (o ≡ Some cells)
copy_left true o cells is = absurd (cc is)
copy_left false o cells is = (refl, is)

-- the frozen table
pub sound_released : (root : tables.ShownTable) (frozen : Option tables.ShownTable) (was_frozen now_frozen : tables.ShownTable) (live waiting rest : tables.ShownTable) (copies also : LruCache ℕ (List Cell)) (frames : LruCache ℕ Frame) (slots : ℕ) (is_sealed : Bool) (page slot : ℕ)
    → AreSound root frozen live waiting copies frames slots is_sealed → frozen ≡ Some was_frozen → IsSetAt page slot was_frozen now_frozen → slot_in waiting.entries page ≡ Some slot
    → ((q : ℕ) → slot_in rest.entries q ≡ (if page == q then None else slot_in waiting.entries q)) → length rest.entries + 1 ≡ length waiting.entries
    → ((q : ℕ) → copy_in also.entries q ≡ (if page == q then None else copy_in copies.entries q)) → also.cap ≡ copies.cap
    → ((q : ℕ) → slot_in waiting.entries q ≡ Some slot → page ≡ q)
    → AreSound root (Some now_frozen) live rest also frames slots is_sealed
sound_released root frozen was_frozen now_frozen live waiting rest copies also frames slots is_sealed page slot s own put waits look size copies_look cap once = record {
  picked = λ q t there.
      let left = no_page_left (page == q) (slot_in waiting.entries q) t (sym (look q) ∙ there) in
      let was = s.picked q t left.1 in
      let not : ¬ IsNamed was_frozen.entries t = subst (λ (o : Option tables.ShownTable). ¬ IsNamed (unwrap_or o root).entries t) own was.not_frozen in
      let other : slot ≡ t → ⊥ = λ same. let at = once q (left.1 ∙ ap (λ (n : ℕ). Some n) (sym same)) in absurd (cc (sym left.0 ∙ ap (λ (n : ℕ). page == n) (sym at) ∙ itself page)) in
      let none : slot_in was_frozen.entries q ≡ None = subst (λ (o : Option tables.ShownTable). slot_in (unwrap_or o root).entries q ≡ None) own was.unwritten in
      let room : length was_frozen.entries + length waiting.entries ≤ was_frozen.capacity = subst (λ (o : Option tables.ShownTable). length (unwrap_or o root).entries + length waiting.entries ≤ (unwrap_or o root).capacity) own was.frozen_room in
      let slots_room : t < was_frozen.slots = subst (λ (o : Option tables.ShownTable). t < (unwrap_or o root).slots) own was.frozen_slots in
      record {
        not_root = was.not_root;
        not_frozen = names_no_other page slot t was_frozen now_frozen put other not;
        not_live = was.not_live;
        unwritten = put.looks q ∙ if_false (page == q) (Some slot) (slot_in was_frozen.entries q) left.0 ∙ none;
        present = λ missing. was.present (sym (if_false (page == q) None (copy_in copies.entries q) left.0) ∙ sym (copies_look q) ∙ missing);
        own = refl;
        frozen_room = omega (arith, room, at_most_one page slot was_frozen now_frozen put, put.capacity, size);
        live_room = let room = was.live_room in omega (arith, size);
        frozen_slots = omega (arith, slots_room, put.slots);
        live_slots = was.live_slots;
        within = was.within;
        number = was.number;
      };
  copied = λ q cells is.
      let left = copy_left (page == q) (copy_in copies.entries q) cells (sym (copies_look q) ∙ is) in
      ap is_some (look q ∙ if_false (page == q) None (slot_in waiting.entries q) left.0) ∙ s.copied q cells left.1;
  few = let few = s.few in omega (arith, size);
  most = cap ∙ s.most;
  numbers = s.numbers;
  sealed = λ sealed. let none = s.sealed sealed in absurd (cc (sym waits ∙ ap (λ (es : List (ℕ × ℕ)). slot_in es page) none));
  most_frames = s.most_frames;
  least_frames = s.least_frames;
  most_slots = s.most_slots;
  root_below = s.root_below;
  frozen_below = let was = s.picked page slot waits in set_below slots page slot was_frozen now_frozen put was.number was.within (subst (λ (o : Option tables.ShownTable). FindsBelow slots (unwrap_or o root).entries) own s.frozen_below);
  live_below = s.live_below;
}

pub stays_released : {D : Type 0} (g : disk.Ghosts D) (old : ShownPool D) (frozen waiting : List (ℕ × ℕ)) (copies : List (ℕ × List Cell)) (page slot : ℕ) → ((q : ℕ) → slot_in frozen q ≡ (if page == q then Some slot else slot_in old.frozen q))
    → slot_in old.waiting page ≡ Some slot → slot_in old.frozen page ≡ None → ((q : ℕ) → slot_in waiting q ≡ (if page == q then None else slot_in old.waiting q)) → ((q : ℕ) → copy_in copies q ≡ (if page == q then None else copy_in old.copies q))
    → ((cells : List Cell) × HasSlot slot page cells (bytes_of g old) × ((i : ℕ) → i < 256 → get_or cells i New ≡ frozen_at (bytes_of g old) old page i))
    → (IsTrue old.is_sealed → old.waiting ≡ []) → Stays g old (record old { frozen = frozen; waiting = waiting; copies = copies })
stays_released {D} g old frozen waiting copies page slot look waits unwritten waiting_look copies_look stands none_waits =
    let new : ShownPool D = record old { frozen = frozen; waiting = waiting; copies = copies } in
    let slot_here : slot_in frozen page ≡ Some slot = look page ∙ if_true (page == page) (Some slot) (slot_in old.frozen page) (itself page) in
    let none_here : slot_in waiting page ≡ None = waiting_look page ∙ if_true (page == page) None (slot_in old.waiting page) (itself page) in
    stays_at g old new page (still_file g old new refl refl (λ q s is. by q s is (page == q) refl) (λ sealed. sealed) (λ sealed. absurd (cc (sym waits ∙ ap (λ (es : List (ℕ × ℕ)). slot_in es page) (none_waits sealed)))) (refl, refl) (λ none. absurd (cc (sym waits ∙ ap (λ (es : List (ℕ × ℕ)). slot_in es page) none)))) (λ s b named has. has)
    (λ q apart. record {
      frames = refl;
      live = refl;
      frozen = look q ∙ if_false (page == q) (Some slot) (slot_in old.frozen q) apart;
      waiting = waiting_look q ∙ if_false (page == q) None (slot_in old.waiting q) apart;
      copies = copies_look q ∙ if_false (page == q) None (copy_in old.copies q) apart;
    })
    (λ h i lt. refl)
    (λ h. record {
      frozen = λ i lt.
          ap (λ (o : Option ℕ). frozen_by o (copy_in copies page) (in_slot (bytes_of g old) (slot_in frozen page) i) (live_at (bytes_of g old) old page i) i) none_here
          ∙ ap (λ (o : Option ℕ). in_slot (bytes_of g old) o i) slot_here ∙ stored slot page i stands.0 (bytes_of g old) lt stands.1 ∙ stands.2 i lt;
      whole = record {
        live_page = (h.pages page).live_page;
        frozen_page = λ s is. let at : slot ≡ s = cc (sym slot_here ∙ is) in (stands.0, subst (λ (n : ℕ). HasSlot n page stands.0 (bytes_of g old)) at stands.1);
        clean = (h.pages page).clean;
      };
    })
  where
    by : (q s : ℕ) → slot_in old.frozen q ≡ Some s → (b : Bool) → (page == q) ≡ b → slot_in frozen q ≡ Some s
    by q s is true test = absurd (cc (sym unwritten ∙ ap (λ (n : ℕ). slot_in old.frozen n) (same_number page q test) ∙ is))
    by q s is false test = look q ∙ if_false (page == q) (Some slot) (slot_in old.frozen q) test ∙ is
