-- What is read of a slot.
use Rattle.std.proofs.Common.{◌≡◌, inl, ◌≢◌, ◌+◌, ◌*◌, ◌/◌, ◌%◌, ◌<◌, ◌≤◌, ◌∙◌, ◌==◌, ℕ, zero, suc, Bool, true, false, List, [], ◌∷◌, length, get_or, replicate, is_some, Option, Some, None, if◌then◌else◌, refl, sym, ap, subst, arith}
use Rattle.hg_model.specs.declared.verdict.Refusal.TheVariants as refusal
use Rattle.hg_disk.specs.declared.disk.Disk as disk
use Rattle.hg_disk.specs.State.{IsImage}
use Rattle.hg_disk.specs.Moments.{LeavesOnly}
use Rattle.hg_cells.specs.declared.cell.Cell.{Cell}
use Rattle.hg_cells.specs.declared.cell.Cell.TheVariants.{New, Exclusive, SharedRead, SharedModified}
use Rattle.hg_cells.specs.Cells.{IsWithin}
use Rattle.hg_pages.specs.declared.fault.SlotFault.{SlotFault}
use Rattle.hg_pages.specs.declared.fault.SlotFault.TheVariants as fault
use Rattle.hg_pages.specs.declared.slot_file.SlotFile.{SlotFile}
use Rattle.hg_pages.specs.Fault.{read_refusal}
use Rattle.hg_pages.specs.Files as files
use Rattle.hg_pages.specs.Slots.{AreKnown, HasBytes, HasPage, IsKnown}
use Rattle.hg_pages.specs.Tables.{slot_in}
use Rattle.hg_pages.proofs.Decoding.{stored}
use Rattle.hg_cache.specs.declared.frame.Frame.{Frame}
use Rattle.hg_pool.specs.Kept.{AreWithin, CellsFrom, HasSome, IsWhole, Stays}
use Rattle.hg_pool.specs.Maps.{bytes_of, disk_of, frame_in, in_frame_or, in_slot, is_broken, live}
use Rattle.hg_pool.specs.Shown.{ShownPool}
use Rattle.hg_pool.proofs.Changing.{quiet_file}
use Rattle.hg_pool.proofs.Stepping.{no_some, stays_all}

-- what is there is within the counts
known_within : (segments : ℕ) (sets : List (List ℕ)) (c : Cell) → IsKnown segments sets c → IsWithin segments (length sets) c
known_within segments sets New known = tt
known_within segments sets (Exclusive s) known = known
known_within segments sets (SharedRead t l) known = (known.0.known, known.1)
known_within segments sets (SharedModified t l) known = (known.0.known, known.1)

pub cells_within : (segments : ℕ) (sets : List (List ℕ)) (cells : List Cell) → AreKnown segments sets cells → (i : ℕ) → IsWithin segments (length sets) (get_or cells i New)
cells_within segments sets [] known i = tt
cells_within segments sets (c ∷ cells) known zero = known_within segments sets c known.0
cells_within segments sets (c ∷ cells) known (suc i) = cells_within segments sets cells known.1 i

pub new_cells : (n i : ℕ) → get_or (replicate n New) i New ≡ New
new_cells zero i = refl
new_cells (suc n) zero = refl
new_cells (suc n) (suc i) = new_cells n i

pub new_within : (n segments sets i : ℕ) → IsWithin segments sets (get_or (replicate n New) i New)
new_within n segments sets i = subst (λ (c : Cell). IsWithin segments sets c) (sym (new_cells n i)) tt

all_known : (segments : ℕ) (sets : List (List ℕ)) (cells : List Cell) → ((i : ℕ) → i < length cells → IsKnown segments sets (get_or cells i New)) → AreKnown segments sets cells
all_known segments sets [] each = tt
all_known segments sets (c ∷ cells) each = (each 0 (omega arith), all_known segments sets cells (λ i lt. each (suc i) (omega (arith, lt))))

pub no_damage : (f : SlotFault) → (f ≡ fault.Damaged → ⊥) → read_refusal f ≢ refusal.Damaged
no_damage fault.Broken not same = absurd (cc same)
no_damage fault.Damaged not same = not refl
no_damage fault.DeviceFault not same = absurd (cc same)
no_damage fault.OutOfMemory not same = absurd (cc same)

-- more segments and sets are no obstacle
pub within_more : (n m more_n more_m : ℕ) (c : Cell) → n ≤ more_n → m ≤ more_m → IsWithin n m c → IsWithin more_n more_m c
within_more n m more_n more_m New a b h = tt
within_more n m more_n more_m (Exclusive s) a b h = omega (arith, a, h)
within_more n m more_n more_m (SharedRead t l) a b h = (let x = h.0 in omega (arith, b), let y = h.1 in omega (arith, b))
within_more n m more_n more_m (SharedModified t l) a b h = (let x = h.0 in omega (arith, b), let y = h.1 in omega (arith, b))

pub frames_from : (old new : List (ℕ × Frame)) (n m : ℕ) → CellsFrom old new → AreWithin old n m → AreWithin new n m
frames_from old new n m from within q f is i =
    let was = from q f is in
    subst (λ (cells : List Cell). IsWithin n m (get_or cells i New)) (sym was.2) (within q was.0 was.1 i)

pub frames_with : (old new : List (ℕ × Frame)) (page n m : ℕ) (e : Frame) → ((q : ℕ) → frame_in new q ≡ (if page == q then Some e else frame_in old q)) → ((i : ℕ) → IsWithin n m (get_or e.cells i New)) → AreWithin old n m → AreWithin new n m
frames_with old new page n m e look each within q f is i = by (page == q) (sym (look q) ∙ is)
  where
    by : (b : Bool) → (if b then Some e else frame_in old q) ≡ Some f → IsWithin n m (get_or f.cells i New)
    by true found = let same : e ≡ f = cc found in subst (λ (x : Frame). IsWithin n m (get_or x.cells i New)) same (each i)
    by false found = within q f found i

module _ {D : Type 0} (g : disk.Ghosts D) where
  -- a call of the file that changes nothing that is known of it
  pub stays_read : (old : ShownPool D) (file : SlotFile D) → LeavesOnly g (disk_of old) (files.disk_of file) (IsImage (g.state (disk_of old))) → files.is_broken file ≡ is_broken old → g.failures (disk_of old) ≤ g.failures (files.disk_of file) → files.known g file ≡ bytes_of g old → Stays g old (record old { file = file })
  stays_read old file only works more known =
      let new : ShownPool D = record old { file = file } in
      stays_all g old new (quiet_file g old new only (λ now. sym works ∙ now) (more, inl works) refl (λ q s is. is) (λ sealed. sealed) (λ sealed. refl) (refl, refl) (λ none. none))
      (λ s bytes named has. subst (λ (l : List ℕ). HasBytes s bytes l) (sym known) has)
      (λ q. record { frames = refl; live = refl; frozen = refl; waiting = refl; copies = refl })

  -- a page that stands in its slot is not damaged
  pub stands_there : (p : ShownPool D) (page slot segments : ℕ) (sets : List (List ℕ)) → IsWhole g p → slot_in p.live page ≡ Some slot → ((i : ℕ) → i < 256 → IsKnown segments sets (in_slot (bytes_of g p) (slot_in p.live page) i))
      → ((cells : List Cell) → ¬ HasPage segments sets slot page cells (bytes_of g p)) → ⊥
  stands_there p page slot segments sets h is known none =
      let found = (h.pages page).live_page slot is in
      none found.0 (record {
        stands = found.1;
        known = all_known segments sets found.0 (λ i lt.
            let inside : i < 256 = omega (arith, lt, found.1.page_is.words) in
            subst (λ (c : Cell). IsKnown segments sets c) (ap (λ (o : Option ℕ). in_slot (bytes_of g p) o i) is ∙ stored slot page i found.0 (bytes_of g p) inside found.1) (known i inside));
      })

  pub read_there : (p : ShownPool D) (page slot i : ℕ) (cells : List Cell) (segments : ℕ) (sets : List (List ℕ)) (file : List ℕ) → i < 256 → slot_in p.live page ≡ Some slot → file ≡ bytes_of g p → HasPage segments sets slot page cells (bytes_of g p)
      → get_or cells i New ≡ in_slot file (slot_in p.live page) i
  read_there p page slot i cells segments sets file lt is same has =
      sym ((λ k. in_slot (same k) (is k) i) ∙ stored slot page i cells (bytes_of g p) lt has.stands)

  -- what is whole after such a call was so before
  pub whole_before : (old : ShownPool D) (file : SlotFile D) → files.known g file ≡ bytes_of g old → IsWhole g (record old { file = file }) → IsWhole g old
  whole_before old file known h = record {
    honest = h.honest;
    pages = λ q.
        let was = h.pages q in
        record {
          live_page = λ s is. subst (λ (l : List ℕ). HasSome s q l) known (was.live_page s is);
          frozen_page = λ s is. subst (λ (l : List ℕ). HasSome s q l) known (was.frozen_page s is);
          clean = λ f is clean i lt. was.clean f is clean i lt ∙ ap (λ (l : List ℕ). in_slot l (slot_in old.live q) i) known;
        };
  }

gone : (a b : Bool) → (a ≡ true → b ≡ true) → b ≡ false → a ≡ false
gone true b there is = absurd (cc (sym (there refl) ∙ is))
gone false b there is = refl

pub not_there : (old new : Option Frame) → (is_some new ≡ true → is_some old ≡ true) → is_some old ≡ false → new ≡ None
not_there old new there is = no_some new (gone (is_some new) (is_some old) there is)

-- what the live map has in a page that is not in memory stands in its slot
pub known_there : {D : Type 0} (g : disk.Ghosts D) (old new : ShownPool D) (page segments : ℕ) (sets : List (List ℕ)) → Stays g old new → IsWhole g old → frame_in new.frames page ≡ None
    → ((w : ℕ) → w / 256 ≡ page → IsKnown segments sets (live g old w)) → (i : ℕ) → i < 256 → IsKnown segments sets (in_slot (bytes_of g new) (slot_in new.live page) i)
known_there g old new page segments sets stays h none known i lt =
    let number : (256 * page + i) / 256 ≡ page = omega (arith, lt) in
    let place : (256 * page + i) % 256 ≡ i = omega (arith, lt) in
    subst (λ (c : Cell). IsKnown segments sets c)
    (sym (stays.live_is h (256 * page + i))
    ∙ (λ k. in_frame_or (frame_in new.frames (number k)) (in_slot (bytes_of g new) (slot_in new.live (number k)) (place k)) (place k))
    ∙ ap (λ (o : Option Frame). in_frame_or o (in_slot (bytes_of g new) (slot_in new.live page) i) i) none)
    (known (256 * page + i) number)
