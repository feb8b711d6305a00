-- What each image of a file of slots has in a slot, and what a write elsewhere leaves of it.
use Rattle.std.proofs.Common.{if◌then◌else◌, ◌≡◌, ◌≢◌, ◌⊎◌, ⊎_elim, ◌≤◌, ◌+◌, ◌*◌, ℕ, max, Bool, true, false, Result, Ok, OnOk, OnErr, List, ◌∷◌, ◌++◌, length, take, refl, sym, ◌∙◌, ap, subst, arith, length-drop, take-append-drop, drop}
use Rattle.std.proofs.lemmas.List.{length-take-le, places}
use Rattle.hg_disk.specs.declared.disk.Disk as disk
use Rattle.hg_disk.specs.State.{DiskState, IsImage, SameImages, overwritten, after_write}
use Rattle.hg_disk.specs.Laws.{Holds}
use Rattle.hg_disk.specs.Moments.{Leaves, LeavesOnly, WereTrueBefore}
use Rattle.hg_disk.proofs.Moments.{weaker, write_leaves}
use Rattle.hg_disk.proofs.Certain.{left_before, left_behind, left_long}
use Rattle.hg_disk.proofs.Keeping.{holds_write_before, holds_write_behind, holds_written, read_held}
use Rattle.hg_cells.specs.declared.cell.Cell.{Cell}
use Rattle.hg_pages.specs.Slots.{AreKnown, HasBytes, HasPage, IsSlot, slot_text}

-- two slots don't overlap
pub slots_apart : (slot other : ℕ) → other ≢ slot → (3080 * other + 3080 ≤ 3080 * slot) ⊎ (3080 * slot + 3080 ≤ 3080 * other)
slots_apart slot other apart = grind arith

left_elsewhere : (s : DiskState) (slot other at : ℕ) (written bytes : List ℕ) → IsImage s s.contents → at ≡ 3080 * slot → length written ≡ 3080 → length bytes ≡ 3080 → other ≢ slot → Leaves (λ image. Holds image (3080 * other) bytes) s
    → Leaves (λ image. Holds image (3080 * other) bytes) (after_write at written s)
left_elsewhere s slot other at written bytes now here size other_size apart each =
    ⊎_elim (λ (before : 3080 * other + 3080 ≤ 3080 * slot). left_behind at written s (3080 * other) bytes now (omega (arith, here, other_size, before)) each)
    (λ (behind : 3080 * slot + 3080 ≤ 3080 * other). left_before at written s (3080 * other) bytes now (omega (arith, here, size, behind)) each)
    (slots_apart slot other apart)

pub read_elsewhere : (file : List ℕ) (slot other at : ℕ) (written bytes : List ℕ) → at ≡ 3080 * slot → length written ≡ 3080 → other ≢ slot → HasBytes other bytes file → HasBytes other bytes (overwritten file at written)
read_elsewhere file slot other at written bytes here size apart was = (
  was.0,
  ⊎_elim (λ (before : 3080 * other + 3080 ≤ 3080 * slot). holds_write_behind file at written (3080 * other) bytes (omega (arith, here, was.0, before)) was.1)
      (λ (behind : 3080 * slot + 3080 ≤ 3080 * other). holds_write_before file at written (3080 * other) bytes (omega (arith, here, size, behind)) was.1)
      (slots_apart slot other apart),
)

pub written_slot : (file : List ℕ) (slot at : ℕ) (written : List ℕ) → at ≡ 3080 * slot → length written ≡ 3080 → HasBytes slot written (overwritten file at written)
written_slot file slot at written here size = (size, subst (λ (n : ℕ). Holds (overwritten file at written) n written) here (holds_written file at written))

module _ {D : Type 0} (g : disk.Ghosts D) (has_its_bytes : (d : D) → IsImage (g.state d) (g.state d).contents) where
  -- each image of a write has in another slot what each image had there before
  pub write_keeps : {T E : Type 0} (old new : D) (slot other at : ℕ) (written bytes : List ℕ) (result : Result T E) → at ≡ 3080 * slot → length written ≡ 3080 → other ≢ slot
      → OnOk result (g.state new ≡ after_write at written (g.state old)) → OnErr result (SameImages (after_write at written (g.state old)) (g.state new)) → g.past new ≡ (g.state old ∷ g.past old) → WereTrueBefore g old new
      → Leaves (HasBytes other bytes) (g.state old) → LeavesOnly g old new (HasBytes other bytes)
  write_keeps old new slot other at written bytes result here size apart ok err clock kept leaves =
      let other_size = (leaves (g.state old).contents (has_its_bytes old)).0 in
      weaker g old new (IsImage (after_write at written (g.state old))) (HasBytes other bytes) (write_leaves g old new at written result ok err clock kept)
      (λ image left. (other_size, left_elsewhere (g.state old) slot other at written bytes (has_its_bytes old) here size other_size apart (λ image is. (leaves image is).1) image left))

-- how long the file is then
pub length_written : (file : List ℕ) (slot at : ℕ) (written : List ℕ) → at ≡ 3080 * slot → length written ≡ 3080 → length (overwritten file at written) ≡ max (length file) (3080 * slot + 3080)
length_written file slot at written here size = grind (arith, places)

pub known_now : (broken : Bool) (before now : List ℕ) → broken ≡ false → (if broken then before else now) ≡ now
known_now true before now works = absurd (cc works)
known_now false before now works = refl

-- what a read of a slot gives
pub read_slot : (file : List ℕ) (slot at : ℕ) (bytes : List ℕ) → at ≡ 3080 * slot → 3080 * slot + 3080 ≤ length file → bytes ≡ take 3080 (drop at file) → HasBytes slot bytes file
read_slot file slot at bytes here within is =
    let found : bytes ≡ take 3080 (drop (3080 * slot) file) = is ∙ ap (λ (n : ℕ). take 3080 (drop n file)) here in
    let long : length (take 3080 (drop (3080 * slot) file)) ≡ 3080 = length-take-le 3080 (drop (3080 * slot) file) (omega (arith, within, length-drop (3080 * slot) file)) in (
      ap length found ∙ long,
      record {
        before = take (3080 * slot) file;
        after = drop 3080 (drop (3080 * slot) file);
        place = length-take-le (3080 * slot) file (omega (arith, within));
        whole = sym (take-append-drop (3080 * slot) file) ∙ ap (λ (l : List ℕ). take (3080 * slot) file ++ l) (sym (take-append-drop 3080 (drop (3080 * slot) file)) ∙ ap (λ (l : List ℕ). l ++ drop 3080 (drop (3080 * slot) file)) (sym found));
      },
    )

pub was_ok : {T E : Type 0} {A : Type 0} (result : Result T E) (value : T) → result ≡ Ok value → OnOk result A → A
was_ok {T} {E} {A} result value is = subst (λ (r : Result T E). OnOk r A) is

-- what is known of a file that works is what a read gives
pub as_known : (P : List ℕ → Type 0) (broken : Bool) (before now : List ℕ) → broken ≡ false → P now → P (if broken then before else now)
as_known P true before now works has = absurd (cc works)
as_known P false before now works has = has

pub as_read : (P : List ℕ → Type 0) (broken : Bool) (before now : List ℕ) → broken ≡ false → P (if broken then before else now) → P now
as_read P true before now works has = absurd (cc works)
as_read P false before now works has = has

module _ {D : Type 0} (g : disk.Ghosts D) where
  -- no image of a write is shorter than each image before it
  pub write_long : {T E : Type 0} (old new : D) (n at : ℕ) (written : List ℕ) (result : Result T E)
      → OnOk result (g.state new ≡ after_write at written (g.state old)) → OnErr result (SameImages (after_write at written (g.state old)) (g.state new)) → g.past new ≡ (g.state old ∷ g.past old) → WereTrueBefore g old new
      → Leaves (λ image. n ≤ length image) (g.state old) → LeavesOnly g old new (λ image. n ≤ length image)
  write_long old new n at written result ok err clock kept leaves =
      weaker g old new (IsImage (after_write at written (g.state old))) (λ image. n ≤ length image) (write_leaves g old new at written result ok err clock kept) (left_long at written (g.state old) n leaves)

-- a place of a file has one list of bytes of a length
pub one_at : (file : List ℕ) (at : ℕ) (a b : List ℕ) → length a ≡ length b → Holds file at a → Holds file at b → a ≡ b
one_at file at a b same one other = sym (read_held file at a one) ∙ ap (λ (n : ℕ). take n (drop at file)) same ∙ read_held file at b other

-- cells decoded from a slot stand in the file; if nothing is decoded, no page stands there
pub has_page : (file bytes : List ℕ) (segments slot page : ℕ) (sets : List (List ℕ)) (cells : List Cell) → HasBytes slot bytes file → IsSlot page cells bytes → AreKnown segments sets cells → HasPage segments sets slot page cells file
has_page file bytes segments slot page sets cells has is known =
    record { stands = record { page_is = is.page_is; bytes = subst (λ (l : List ℕ). HasBytes slot l file) is.spelling has }; known = known }

pub has_none : (file bytes : List ℕ) (segments slot page : ℕ) (sets : List (List ℕ)) → HasBytes slot bytes file → ((cells : List Cell) → IsSlot page cells bytes → ¬ AreKnown segments sets cells)
    → (cells : List Cell) → ¬ HasPage segments sets slot page cells file
has_none file bytes segments slot page sets has none cells found =
    let there = found.stands.bytes in
    none cells (record { page_is = found.stands.page_is; spelling = one_at file (3080 * slot) bytes (slot_text page cells) (has.0 ∙ sym there.0) has.1 there.1 }) found.known
