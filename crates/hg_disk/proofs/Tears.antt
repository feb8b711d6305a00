-- Each tear gives an image.
use Rattle.std.proofs.Common.{◌≡◌, ⊎_elim, ◌<◌, ◌≤◌, ◌+◌, ◌==◌, ℕ, Bool, true, false, ◌||◌, if◌then◌else◌, List, [], ◌∷◌, length, take, refl, sym, ◌∙◌, ap, subst, arith}
use Rattle.std.proofs.lemmas.List.{ext_get_or, length-take, get_or-take}
use Rattle.hg_disk.specs.State.{DiskState, Change, IsImage, least, is_written, overwritten, after_write, after_cut}
use Rattle.hg_disk.specs.State.Change.{Written, CutTo}
use Rattle.hg_disk.specs.Event.{Event}
use Rattle.hg_disk.specs.History.{after_call, replay}
use Rattle.hg_disk.specs.Kept.{changed, outside, overwritten_before, overwritten_behind, length-overwritten, has_contents, image_of_write, image_of_cut, failed_write_image, failed_cut_image, settled_image}
use Rattle.hg_disk.specs.Tear.{IsFilled, IsTorn, front, front_by, left_of}
use Rattle.hg_disk.specs.declared.call.Call.{Call}
use Rattle.hg_disk.specs.declared.call.Call.TheVariants.{Read, Write, Cut, Sync}
use Rattle.hg_disk.specs.declared.call.Answer.{Answer}
use Rattle.hg_disk.specs.declared.call.Answer.TheVariants.{Done, Failed, Refused}
use Rattle.hg_disk.specs.declared.tear.Tear.{Tear}
use Rattle.hg_disk.specs.declared.tear.Tear.TheVariants.{Lost, Kept, Front, Fill}

least_le : (since : List Change) (n : ℕ) → least since n ≤ n
least_le [] n = omega arith
least_le (Written first end ∷ earlier) n = least_le earlier n
least_le (CutTo to ∷ earlier) n = let le = least_le earlier n in omega arith

or_false : (a b : Bool) → (a || b) ≡ false → (a ≡ false) × (b ≡ false)
or_false true b h = absurd (cc h)
or_false false b h = (refl, h)

pub lost_image : (s : DiskState) → IsImage s s.synced
lost_image s = record { clean = λ _. refl; long = least_le s.since (length s.synced); kept = λ i lt _. refl }

pub filled_image : (b : ℕ) (s : DiskState) (image : List ℕ) → IsImage s s.contents → IsFilled b s image → IsImage s image
filled_image b s image is has = record {
  clean = λ none.
      let all : least s.since (length s.synced) ≡ length s.synced = ap (λ (since : List Change). least since (length s.synced)) none in
      let size : length s.contents ≡ length s.synced = ap length (is.clean none) in
      ext_get_or 0 image s.contents has.size (λ i lt. has.certain i lt (omega (arith, all, size, has.size, lt)) (ap (λ (since : List Change). is_written since i) none)) ∙ is.clean none;
  long = omega (arith, has.size, is.long);
  kept = λ i lt h. has.certain i (omega (arith, has.size, is.long, lt)) lt h ∙ is.kept i lt h;
}

-- a write of the front of its bytes, onto an image
front_write_image : (at : ℕ) (bytes : List ℕ) (n : ℕ) (s : DiskState) (image : List ℕ) → IsImage s s.contents → IsImage s image → IsImage (after_write at bytes s) (overwritten image at (take n bytes))
front_write_image at bytes n s image read was = record {
  clean = changed;
  long = omega (arith, was.long, length-overwritten image at (take n bytes));
  kept = λ i lt h.
      let parts = or_false (is_written s.since i) _ h in
      let out = outside at (length s.contents) (at + length bytes) i parts.1 (omega (arith, lt, read.long)) in
      let within : i < length image = omega (arith, lt, was.long) in
      ⊎_elim (λ before. overwritten_before image at (take n bytes) i before within) (λ behind. overwritten_behind image at (take n bytes) i (omega (arith, behind, length-take n bytes)) within) out
      ∙ was.kept i lt parts.0;
}

front_cut_image : (to : ℕ) (s : DiskState) (image : List ℕ) → IsImage s image → IsImage (after_cut to s) (take to image)
front_cut_image to s image was = record {
  clean = changed;
  long = omega (arith, was.long, length-take to image);
  kept = λ i lt h. get_or-take to image i 0 (omega (arith, lt)) ∙ was.kept i (omega (arith, lt)) h;
}

either : (P : List ℕ → Type 0) (b : Bool) (x y : List ℕ) → P x → P y → P (if b then x else y)
either P true x y p q = p
either P false x y p q = q

front_call_image : (call : Call) (answer : Answer) (bytes : List ℕ) (left : ℕ) (s : DiskState) (file : List ℕ) → IsImage s s.contents → IsImage s file → IsImage (after_call call answer bytes s) (front_by call answer bytes left s.contents file)
front_call_image (Read at) answer bytes left s file read is = is
front_call_image (Write at len) Done bytes left s file read is =
    either (IsImage (after_write at bytes s)) (left == 0) file (overwritten file at (take left bytes)) (image_of_write at bytes s file is) (front_write_image at bytes left s file read is)
front_call_image (Write at len) Failed bytes left s file read is = failed_write_image at len s file is
front_call_image (Write at len) Refused bytes left s file read is = failed_write_image at len s file is
front_call_image (Cut to) Done bytes left s file read is = either (IsImage (after_cut to s)) (left == 0) file (take to file) (image_of_cut to s file is) (front_cut_image to s file is)
front_call_image (Cut to) Failed bytes left s file read is = failed_cut_image to s file is
front_call_image (Cut to) Refused bytes left s file read is = failed_cut_image to s file is
front_call_image Sync Done bytes left s file read is = settled_image s.contents
front_call_image Sync Failed bytes left s file read is = is
front_call_image Sync Refused bytes left s file read is = is

pub front_image : (n : ℕ) (start : List ℕ) (events : List Event) → IsImage (replay start events) (front n start events)
front_image n start [] = settled_image start
front_image n start (e ∷ earlier) = front_call_image e.told.call e.told.answer e.bytes (left_of n earlier) (replay start earlier) (front n start earlier) (has_contents start earlier) (front_image n start earlier)

pub torn_image : (tear : Tear) (start : List ℕ) (events : List Event) (image : List ℕ) → IsTorn tear start events image → IsImage (replay start events) image
torn_image Lost start events image is = subst (IsImage (replay start events)) (sym is) (lost_image (replay start events))
torn_image Kept start events image is = subst (IsImage (replay start events)) (sym is) (has_contents start events)
torn_image (Front n) start events image is = subst (IsImage (replay start events)) (sym is) (front_image n start events)
torn_image (Fill b) start events image is = filled_image b (replay start events) image (has_contents start events) is
