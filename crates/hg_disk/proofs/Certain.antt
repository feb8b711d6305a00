-- What each image has is on the disk.
use Rattle.std.proofs.Common.{◌≡◌, ◌⊎◌, inl, inr, ⊎_elim, ◌<◌, ◌≤◌, ◌+◌, ℕ, Bool, true, false, List, [], ◌∷◌, length, take, get_or, refl, sym, ◌∙◌, ap, subst, arith}
use Rattle.std.proofs.lemmas.Bool.{false≢true}
use Rattle.std.proofs.lemmas.List.{get_or-take, length-take-le, take_all}
use Rattle.hg_disk.specs.State.{Change, DiskState, IsImage, after_write, is_written, least, overwritten}
use Rattle.hg_disk.specs.State.Change.{CutTo, Written}
use Rattle.hg_disk.specs.Kept.{length-overwritten, overwritten_before, overwritten_behind}
use Rattle.hg_disk.specs.Laws.{Holds, KeepsBytes}
use Rattle.hg_disk.specs.Moments.{Leaves}
use Rattle.hg_disk.proofs.Keeping.{held_byte, held_end, holds_written, keeps_image, keeps_write_before, keeps_write_behind}

least_below : (since : List Change) (n : ℕ) → least since n ≤ n
least_below [] n = omega arith
least_below (Written first end ∷ earlier) n = least_below earlier n
least_below (CutTo to ∷ earlier) n = omega (arith, least_below earlier n)

-- the bytes of the sync may be left
synced_left : (s : DiskState) → IsImage s s.synced
synced_left s = record { clean = λ none. refl; long = least_below s.since (length s.synced); kept = λ i lt free. refl }

-- and so may those of them that no cut took away
front_left : (s : DiskState) → IsImage s (take (least s.since (length s.synced)) s.synced)
front_left s =
    let n = least s.since (length s.synced) in
    let size : length (take n s.synced) ≡ n = length-take-le n s.synced (least_below s.since (length s.synced)) in
    record {
      clean = λ none. ap (λ (since : List Change). take (least since (length s.synced)) s.synced) none ∙ take_all (length s.synced) s.synced (omega arith);
      long = omega (arith, size);
      kept = λ i lt free. get_or-take n s.synced i 0 lt;
    }

module _ (s : DiskState) (place byte : ℕ) (written : is_written s.since place ≡ true) where
  elsewhere : (i : ℕ) → is_written s.since i ≡ false → (i < place) ⊎ ((place ≡ i) ⊎ (place + 1 ≤ i)) → (i < place) ⊎ (place + 1 ≤ i)
  elsewhere i free (inl before) = inl before
  elsewhere i free (inr (inl here)) = absurd (false≢true (sym free ∙ ap (λ (n : ℕ). is_written s.since n) (sym here) ∙ written))
  elsewhere i free (inr (inr behind)) = inr behind

  apart : (i : ℕ) → (i < place) ⊎ ((place ≡ i) ⊎ (place + 1 ≤ i))
  apart i = grind arith

  -- where something was written, any byte may be left
  written_left : IsImage s (overwritten s.synced place (byte ∷ []))
  written_left = record {
    clean = λ none. absurd (false≢true (subst (λ (since : List Change). is_written since place ≡ true) none written));
    long = omega (arith, least_below s.since (length s.synced), length-overwritten s.synced place (byte ∷ []));
    kept = λ i lt free.
        let within : i < length s.synced = omega (arith, lt, least_below s.since (length s.synced)) in
        ⊎_elim (λ before. overwritten_before s.synced place (byte ∷ []) i before within) (λ behind. overwritten_behind s.synced place (byte ∷ []) i behind within) (elsewhere i free (apart i));
  }

module _ (s : DiskState) (at : ℕ) (bytes : List ℕ) (each : Leaves (λ image. Holds image at bytes) s) where
  -- so if each image has the same byte at a place, the place was not written
  not_written : (i : ℕ) → i < length bytes → (written : Bool) → is_written s.since (at + i) ≡ written → written ≡ false
  not_written i lt false is = refl
  not_written i lt true is =
      let other = get_or bytes i 0 + 1 in
      let image = overwritten s.synced (at + i) (other ∷ []) in
      let here : get_or image (at + i) 0 ≡ get_or bytes i 0 = held_byte image at bytes i (each image (written_left s (at + i) other is)) lt in
      let same : at + i ≡ (at + i) + 0 = omega arith in
      let there : get_or image (at + i) 0 ≡ other = ap (λ (n : ℕ). get_or image n 0) same ∙ held_byte image (at + i) (other ∷ []) 0 (holds_written s.synced (at + i) (other ∷ [])) (omega arith) in
      absurd (omega (arith, here, there))

  pub kept_by_images : IsImage s s.contents → KeepsBytes s at bytes
  kept_by_images now =
      let n = least s.since (length s.synced) in
      record {
        long = omega (arith, held_end (take n s.synced) at bytes (each (take n s.synced) (front_left s)), length-take-le n s.synced (least_below s.since (length s.synced)));
        held = held_end s.contents at bytes (each s.contents now);
        untouched = λ i lt. not_written i lt (is_written s.since (at + i)) refl;
        same = λ i lt. held_byte s.synced at bytes i (each s.synced (synced_left s)) lt;
      }

-- what each image has, each image of a write elsewhere has too
pub left_behind : (at : ℕ) (written : List ℕ) (s : DiskState) (place : ℕ) (bytes : List ℕ) → IsImage s s.contents → place + length bytes ≤ at → Leaves (λ image. Holds image place bytes) s
    → Leaves (λ image. Holds image place bytes) (after_write at written s)
left_behind at written s place bytes now le each image is = keeps_image (after_write at written s) place bytes image (keeps_write_behind at written s place bytes le (kept_by_images s place bytes each now)) is

pub left_before : (at : ℕ) (written : List ℕ) (s : DiskState) (place : ℕ) (bytes : List ℕ) → IsImage s s.contents → at + length written ≤ place → Leaves (λ image. Holds image place bytes) s
    → Leaves (λ image. Holds image place bytes) (after_write at written s)
left_before at written s place bytes now le each image is = keeps_image (after_write at written s) place bytes image (keeps_write_before at written s place bytes le (kept_by_images s place bytes each now)) is

-- no image of a write is shorter than each image was
pub left_long : (at : ℕ) (written : List ℕ) (s : DiskState) (n : ℕ) → Leaves (λ image. n ≤ length image) s → Leaves (λ image. n ≤ length image) (after_write at written s)
left_long at written s n each image is =
    omega (arith, each (take (least s.since (length s.synced)) s.synced) (front_left s), length-take-le (least s.since (length s.synced)) s.synced (least_below s.since (length s.synced)), is.long)
