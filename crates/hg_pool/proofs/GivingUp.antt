-- A page is made new: it leaves its frame and the live table.
use Rattle.std.proofs.Common.{◌≡◌, ◌⊎◌, inl, inr, ⊎_elim, ◌<◌, ◌≤◌, ◌/◌, ◌%◌, ◌&&◌, ◌==◌, ◌∙◌, ℕ, nat_le, nat_lt, le-leb, lt-ltb, cond, Bool, true, false, List, length, is_some, Option, Some, None, if◌then◌else◌, refl, sym, ap, arith}
use Rattle.lru.specs.LruCache.{LruCache}
use Rattle.hg_disk.specs.declared.disk.Disk as disk
use Rattle.std.proofs.lemmas.Bool.{and_from}
use Rattle.hg_cells.specs.declared.cell.Cell.{Cell}
use Rattle.hg_cells.specs.declared.cell.Cell.TheVariants.{New}
use Rattle.hg_pages.specs.Tables as tables
use Rattle.hg_pages.specs.Tables.{IsNamed, slot_in}
use Rattle.hg_cache.specs.declared.frame.Frame.{Frame}
use Rattle.hg_pool.specs.Answers.{IsTaken}
use Rattle.hg_pool.specs.Kept.{AreWithin, IsWhole, Went}
use Rattle.hg_pool.specs.Maps.{bytes_of, copy_in, frame_in, in_frame_or, in_slot, live, live_at}
use Rattle.hg_pool.specs.Shown.{ShownPool}
use Rattle.hg_pool.specs.Sound.{AreSound}
use Rattle.hg_pool.proofs.Changing.{Here, Same, still_file, went_by}
use Rattle.hg_pool.proofs.Filled.{is_inside}
use Rattle.hg_pool.proofs.Filling.{not_present}
use Rattle.hg_pool.proofs.Stepping.{each_page}
use Rattle.hg_cache.proofs.Lookups.{if_false, if_true, itself, same_number, turned}

-- what is found without the page was found with it
kept : {X : Type 0} (b : Bool) (o : Option X) (x : X) → (if b then None else o) ≡ Some x → o ≡ Some x
kept true o x is = absurd (cc is)
kept false o x is = is

pub went_given_up : {D : Type 0} (g : disk.Ghosts D) (old : ShownPool D) (live : List (ℕ × ℕ)) (frames : List (ℕ × Frame)) (cap page : ℕ) → ((q : ℕ) → slot_in live q ≡ (if page == q then None else slot_in old.live q))
    → ((q : ℕ) → frame_in frames q ≡ (if page == q then None else frame_in old.frames q)) → cap ≡ old.most_frames
    → (slot_in old.waiting page ≡ None) ⊎ (is_some (copy_in old.copies page) ≡ true) → Went g old (record old { live = live; frames = frames; most_frames = cap })
went_given_up {D} g old live frames cap page lost look same_cap settled =
    let new : ShownPool D = record old { live = live; frames = frames; most_frames = cap } in
    let gone : frame_in frames page ≡ None = look page ∙ if_true (page == page) None (frame_in old.frames page) (itself page) in
    let unnamed : slot_in live page ≡ None = lost page ∙ if_true (page == page) None (slot_in old.live page) (itself page) in
    let at : IsWhole g old → Here g page old new = λ h. record {
      frozen = λ i lt. not_present (slot_in old.waiting page) (copy_in old.copies page) (in_slot (bytes_of g old) (slot_in old.frozen page) i) (live_at (bytes_of g old) new page i) (live_at (bytes_of g old) old page i) i settled;
      whole = record {
        live_page = λ slot is. absurd (cc (sym unnamed ∙ is));
        frozen_page = (h.pages page).frozen_page;
        clean = λ f is. absurd (cc (sym gone ∙ is));
      };
    } in
    went_by g old new (still_file g old new refl refl (λ q s is. is) (λ sealed. sealed) (λ sealed. refl) (same_cap, refl) (λ none. none)) (λ s b named has. has)
    (each_page (λ q. Same q old new ⊎ (IsWhole g old → Here g q old new)) page (inr at)
    (λ q apart. inl (record {
      frames = look q ∙ if_false (page == q) None (frame_in old.frames q) apart;
      live = lost q ∙ if_false (page == q) None (slot_in old.live q) apart;
      frozen = refl;
      waiting = refl;
      copies = refl;
    })))

pub sound_given_up : (root : tables.ShownTable) (frozen : Option tables.ShownTable) (live also waiting : tables.ShownTable) (copies : LruCache ℕ (List Cell)) (frames left : LruCache ℕ Frame) (slots : ℕ) (is_sealed : Bool) (page : ℕ) → AreSound root frozen live waiting copies frames slots is_sealed
    → left.cap ≡ frames.cap → ((q : ℕ) → frame_in left.entries q ≡ (if page == q then None else frame_in frames.entries q))
    → ((q : ℕ) → slot_in also.entries q ≡ (if page == q then None else slot_in live.entries q)) → also.capacity ≡ live.capacity → also.slots ≡ live.slots → length also.entries ≤ length live.entries
    → (slot_in waiting.entries page ≡ None) ⊎ (is_some (copy_in copies.entries page) ≡ true) → AreSound root frozen also waiting copies left slots is_sealed
sound_given_up root frozen live also waiting copies frames left slots is_sealed page s cap look lost capacity slots_same fewer settled = record {
  picked = λ q slot waits. let was = s.picked q slot waits in record {
    not_root = was.not_root;
    not_frozen = was.not_frozen;
    not_live = λ named. was.not_live (named.0, still named.0 slot named.1);
    unwritten = was.unwritten;
    present = λ none. let there = was.present none in (there.0, look q ∙ if_false (page == q) None (frame_in frames.entries q) (apart q slot (page == q) refl waits none) ∙ there.1, there.2);
    own = was.own;
    frozen_room = was.frozen_room;
    live_room = omega (arith, was.live_room, fewer, capacity);
    frozen_slots = was.frozen_slots;
    live_slots = omega (arith, was.live_slots, slots_same);
    within = was.within;
    number = was.number;
  };
  copied = s.copied;
  few = omega (arith, s.few, cap);
  most = s.most ∙ sym cap;
  numbers = λ q f is. s.numbers q f (kept (page == q) (frame_in frames.entries q) f (sym (look q) ∙ is));
  sealed = s.sealed;
  most_frames = omega (arith, s.most_frames, cap);
  least_frames = omega (arith, s.least_frames, cap);
  most_slots = s.most_slots;
  root_below = s.root_below;
  frozen_below = s.frozen_below;
  live_below = λ q slot is. s.live_below q slot (still q slot is);
}
  where
    still : (q slot : ℕ) → slot_in also.entries q ≡ Some slot → slot_in live.entries q ≡ Some slot
    still q slot is = kept (page == q) (slot_in live.entries q) slot (sym (lost q) ∙ is)

    apart : (q slot : ℕ) (b : Bool) → (page == q) ≡ b → slot_in waiting.entries q ≡ Some slot → copy_in copies.entries q ≡ None → b ≡ false
    apart q slot true test waits none =
        let same : page ≡ q = same_number page q test in
        absurd (⊎_elim (λ free. cc (sym free ∙ ap (λ (n : ℕ). slot_in waiting.entries n) same ∙ waits))
        (λ copied. cc (sym copied ∙ ap (λ (n : ℕ). is_some (copy_in copies.entries n)) same ∙ ap is_some none))
        settled)
    apart q slot false test waits none = refl

pub reached_given_up : {D : Type 0} (p : ShownPool D) (live : List (ℕ × ℕ)) (frames : List (ℕ × Frame)) (cap page was from : ℕ) → ((slot : ℕ) → slot < was → IsTaken p slot) → ((q : ℕ) → slot_in live q ≡ (if page == q then None else slot_in p.live q))
    → ((slot : ℕ) → slot < from → (slot < was) × (slot_in p.live page ≡ Some slot → IsNamed p.root slot ⊎ IsNamed p.frozen slot)) → (slot : ℕ) → slot < from → IsTaken (record p { live = live; frames = frames; most_frames = cap }) slot
reached_given_up {D} p live frames cap page was from reached lost begins slot lt =
    let at = begins slot lt in
    ⊎_elim (λ root. inl root)
    (⊎_elim (λ frozen. inr (inl frozen))
    (⊎_elim (λ named. by named.0 (page == named.0) refl named.1 at.1) (λ waiting. inr (inr (inr waiting)))))
    (reached slot at.0)
  where
    new : ShownPool D
    new = record p { live = live; frames = frames; most_frames = cap }

    saved : IsNamed p.root slot ⊎ IsNamed p.frozen slot → IsTaken new slot
    saved (inl root) = inl root
    saved (inr frozen) = inr (inl frozen)

    by : (q : ℕ) (b : Bool) → (page == q) ≡ b → slot_in p.live q ≡ Some slot → (slot_in p.live page ≡ Some slot → IsNamed p.root slot ⊎ IsNamed p.frozen slot) → IsTaken new slot
    by q true test is named = saved (named (ap (λ (n : ℕ). slot_in p.live n) (same_number page q test) ∙ is))
    by q false test is named = inr (inr (inl (q, lost q ∙ if_false (page == q) None (slot_in p.live q) test ∙ is)))

-- the cells of the frames that are left
pub within_left : (page : ℕ) (old new : List (ℕ × Frame)) → ((q : ℕ) → frame_in new q ≡ (if page == q then None else frame_in old q)) → (n m : ℕ) → AreWithin old n m → AreWithin new n m
within_left page old new look n m within q f is = within q f (kept (page == q) (frame_in old q) f (sym (look q) ∙ is))

inside : (w : ℕ) → (nat_le 0 (w % 256) && nat_lt (w % 256) 256) ≡ true
inside w = and_from (nat_le 0 (w % 256)) (nat_lt (w % 256) 256) (le-leb 0 (w % 256) (omega arith)) (lt-ltb (w % 256) 256 (omega arith))

-- the words of the page are new, and others as they were
pub live_given_up : {D : Type 0} (g : disk.Ghosts D) (page : ℕ) (old new : ShownPool D) → new ≡ record old { live = new.live; frames = new.frames } → ((q : ℕ) → slot_in new.live q ≡ (if page == q then None else slot_in old.live q))
    → ((q : ℕ) → frame_in new.frames q ≡ (if page == q then None else frame_in old.frames q)) → (w : ℕ) → live g new w ≡ cond (is_inside page 0 256 w) New (live g old w)
live_given_up {D} g page old new rest lost look w =
    ap (λ (p : ShownPool D). live g p w) rest
    ∙ (λ k. in_frame_or (look (w / 256) k) (in_slot (bytes_of g old) (lost (w / 256) k) (w % 256)) (w % 256))
    ∙ by (page == (w / 256)) refl
  where
    by : (b : Bool) → (page == (w / 256)) ≡ b
        → in_frame_or (cond b None (frame_in old.frames (w / 256))) (in_slot (bytes_of g old) (cond b None (slot_in old.live (w / 256))) (w % 256)) (w % 256) ≡ cond (is_inside page 0 256 w) New (live g old w)
    by true test =
        sym (ap (λ (b : Bool). cond (b && (nat_le 0 (w % 256) && nat_lt (w % 256) 256)) New (live g old w)) (turned (w / 256) page ∙ test)
        ∙ ap (λ (b : Bool). cond b New (live g old w)) (inside w))
    by false test = sym (ap (λ (b : Bool). cond (b && (nat_le 0 (w % 256) && nat_lt (w % 256) 256)) New (live g old w)) (turned (w / 256) page ∙ test))
