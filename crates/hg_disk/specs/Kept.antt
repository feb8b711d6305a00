-- What a read gives is one of the images.
use Rattle.std.proofs.Common.{◌≡◌, ◌⊎◌, ⊎_elim, ◌<◌, ◌≤◌, ◌+◌, ℕ, min, nat_lt, nat_le, Bool, true, false, ◌&&◌, ◌||◌, List, [], ◌∷◌, length, take, get_or, refl, ◌∙◌, arith}
use Rattle.std.proofs.lemmas.Bool.Decides.{nat_tests}
use Rattle.std.proofs.lemmas.List.{places}
use Rattle.hg_disk.specs.State.{DiskState, Change, IsImage, settled, overwritten, is_written, after_write, after_cut}
use Rattle.hg_disk.specs.Event.{Event}
use Rattle.hg_disk.specs.History.{after_failed_write, after_failed_cut, after_call, replay}
use Rattle.hg_disk.specs.declared.call.Call.{Call}
use Rattle.hg_disk.specs.declared.call.Call.TheVariants.{Read, Write, Cut, Sync}
use Rattle.hg_disk.specs.declared.call.Answer.{Answer}
use Rattle.hg_disk.specs.declared.call.Answer.TheVariants.{Done, Failed, Refused}

pub overwritten_before : (file : List ℕ) (at : ℕ) (bytes : List ℕ) (i : ℕ) → i < at → i < length file → get_or (overwritten file at bytes) i 0 ≡ get_or file i 0
overwritten_before file at bytes i lt within = grind (arith, places)

pub overwritten_behind : (file : List ℕ) (at : ℕ) (bytes : List ℕ) (i : ℕ) → at + length bytes ≤ i → i < length file → get_or (overwritten file at bytes) i 0 ≡ get_or file i 0
overwritten_behind file at bytes i le within = grind (arith, places)

pub length-overwritten : (file : List ℕ) (at : ℕ) (bytes : List ℕ) → length file ≤ length (overwritten file at bytes)
length-overwritten file at bytes = grind (arith, places)

-- a list with a change is not empty
pub changed : {A : Type 0} {c : Change} {earlier : List Change} → (c ∷ earlier) ≡ [] → A
changed h = absurd (cc h)

pub or_false : (a b : Bool) → (a || b) ≡ false → (a ≡ false) × (b ≡ false)
or_false true b h = absurd (cc h)
or_false false b h = (refl, h)

pub outside : (at len end i : ℕ) → (nat_le (min at len) i && nat_lt i end) ≡ false → i < len → (i < at) ⊎ (end ≤ i)
outside at len end i h lt = grind (arith, nat_tests)

pub untouched : (file : List ℕ) (at : ℕ) (bytes : List ℕ) (i : ℕ) → (nat_le (min at (length file)) i && nat_lt i (at + length bytes)) ≡ false → i < length file → get_or (overwritten file at bytes) i 0 ≡ get_or file i 0
untouched file at bytes i h lt =
    ⊎_elim (λ before. overwritten_before file at bytes i before lt) (λ behind. overwritten_behind file at bytes i behind lt) (outside at (length file) (at + length bytes) i h lt)

pub settled_image : (bytes : List ℕ) → IsImage (settled bytes) bytes
settled_image bytes = record { clean = λ _. refl; long = omega arith; kept = λ i lt _. refl }

-- what a crash may leave before a write, it may leave after it
pub image_of_write : (at : ℕ) (bytes : List ℕ) (s : DiskState) (image : List ℕ) → IsImage s image → IsImage (after_write at bytes s) image
image_of_write at bytes s image was = record {
  clean = changed;
  long = was.long;
  kept = λ i lt h. was.kept i lt (or_false (is_written s.since i) _ h).0;
}

pub image_of_cut : (to : ℕ) (s : DiskState) (image : List ℕ) → IsImage s image → IsImage (after_cut to s) image
image_of_cut to s image was = record { clean = changed; long = omega (arith, was.long); kept = λ i lt h. was.kept i (omega (arith, lt)) h }

pub write_image : (at : ℕ) (bytes : List ℕ) (s : DiskState) → IsImage s s.contents → IsImage (after_write at bytes s) (after_write at bytes s).contents
write_image at bytes s was = record {
  clean = changed;
  long = omega (arith, was.long, length-overwritten s.contents at bytes);
  kept = λ i lt h.
      let parts = or_false (is_written s.since i) _ h in
      untouched s.contents at bytes i parts.1 (omega (arith, was.long, lt)) ∙ was.kept i lt parts.0;
}

pub cut_image : (to : ℕ) (s : DiskState) → IsImage s s.contents → IsImage (after_cut to s) (after_cut to s).contents
cut_image to s was = record {
  clean = changed;
  long = let h = was.long in grind (arith, places);
  kept = λ i lt h. let small : i < to = omega (arith, lt) in let e : get_or (take to s.contents) i 0 ≡ get_or s.contents i 0 = grind (arith, places) in e ∙ was.kept i (omega (arith, lt)) h;
}

-- the images do not depend on what a read gives
pub failed_write_image : (at len : ℕ) (s : DiskState) (image : List ℕ) → IsImage s image → IsImage (after_failed_write at len s) image
failed_write_image at len s image was = record {
  clean = changed;
  long = was.long;
  kept = λ i lt h. was.kept i lt (or_false (is_written s.since i) _ h).0;
}

pub failed_cut_image : (to : ℕ) (s : DiskState) (image : List ℕ) → IsImage s image → IsImage (after_failed_cut to s) image
failed_cut_image to s image was = record { clean = changed; long = omega (arith, was.long); kept = λ i lt h. was.kept i (omega (arith, lt)) h }

call_image : (call : Call) (answer : Answer) (bytes : List ℕ) (s : DiskState) → IsImage s s.contents → IsImage (after_call call answer bytes s) (after_call call answer bytes s).contents
call_image (Read at) answer bytes s was = was
call_image (Write at len) Done bytes s was = write_image at bytes s was
call_image (Write at len) Failed bytes s was = failed_write_image at len s s.contents was
call_image (Write at len) Refused bytes s was = failed_write_image at len s s.contents was
call_image (Cut to) Done bytes s was = cut_image to s was
call_image (Cut to) Failed bytes s was = failed_cut_image to s s.contents was
call_image (Cut to) Refused bytes s was = failed_cut_image to s s.contents was
call_image Sync Done bytes s was = settled_image s.contents
call_image Sync Failed bytes s was = was
call_image Sync Refused bytes s was = was

pub has_contents : (start : List ℕ) (events : List Event) → IsImage (replay start events) (replay start events).contents
has_contents start [] = settled_image start
has_contents start (e ∷ earlier) = call_image e.told.call e.told.answer e.bytes (replay start earlier) (has_contents start earlier)
