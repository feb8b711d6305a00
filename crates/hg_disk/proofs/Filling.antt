-- A file in which each uncertain byte is the same, call by call.
use Rattle.std.proofs.Common.{◌≡◌, ◌⊎◌, inl, inr, ⊎_elim, ◌<◌, ◌≤◌, ◌+◌, ℕ, min, max, nat_lt, nat_le, Bool, true, false, ◌&&◌, ◌||◌, List, length, take, get_or, refl, sym, ◌∙◌, ap, arith}
use Rattle.std.proofs.lemmas.Bool.Decides.{nat_tests}
use Rattle.std.proofs.lemmas.List.{places, length-take, get_or-take}
use Rattle.hg_disk.specs.State.{DiskState, IsImage, least, is_written, overwritten, after_write, after_cut, after_sync}
use Rattle.hg_disk.specs.History.{after_failed_write, after_failed_cut}
use Rattle.hg_disk.specs.Kept.{untouched, outside}
use Rattle.hg_disk.specs.Tear.{IsFilled}
use Rattle.hg_disk.specs.Blots.{blotted, blotted_within, cut_off}

length-blotted : (file : List ℕ) (at len b : ℕ) (bytes : List ℕ) → length bytes ≡ len → length (blotted file at len b) ≡ length (overwritten file at bytes)
length-blotted file at len b bytes same = grind (arith, places)

blotted_outside : (file : List ℕ) (at len b i : ℕ) → i < length file → (i < at) ⊎ (at + len ≤ i) → get_or (blotted file at len b) i 0 ≡ get_or file i 0
blotted_outside file at len b i lt out = grind (arith, places)

blotted_inside : (file : List ℕ) (at len b i : ℕ) → at ≤ i → i < at + len → get_or (blotted file at len b) i 0 ≡ b
blotted_inside file at len b i le lt = grind (arith, places)

blotted_beyond : (file : List ℕ) (at len b i : ℕ) → length file ≤ i → i < length (blotted file at len b) → get_or (blotted file at len b) i 0 ≡ b
blotted_beyond file at len b i le lt = grind (arith, places)

length-overwritten_max : (file : List ℕ) (at : ℕ) (bytes : List ℕ) → length (overwritten file at bytes) ≡ max (length file) (at + length bytes)
length-overwritten_max file at bytes = grind (arith, places)

or_false : (a b : Bool) → (a || b) ≡ false → (a ≡ false) × (b ≡ false)
or_false true b h = absurd (cc h)
or_false false b h = (refl, h)

or_true : (a b : Bool) → (a || b) ≡ true → (a ≡ true) ⊎ (b ≡ true)
or_true true b h = inl refl
or_true false b h = inr h

from_range : (at size end i : ℕ) → (nat_le (min at size) i && nat_lt i end) ≡ true → i < size → at ≤ i
from_range at size end i h lt = grind (arith, nat_tests)

to_range : (at size end i : ℕ) → (nat_le (min at size) i && nat_lt i end) ≡ true → i < end
to_range at size end i h = grind (arith, nat_tests)

within_or_not : (n i : ℕ) → (i < n) ⊎ (n ≤ i)
within_or_not n i = grind arith

inside_or_not : (at end i : ℕ) → ((at ≤ i) × (i < end)) ⊎ ((i < at) ⊎ (end ≤ i))
inside_or_not at end i = grind arith

-- in a range, or uncertain before
range_or_before : (s : DiskState) (at end i : ℕ) → (least s.since (length s.synced) ≤ i) ⊎ ((is_written s.since i || (nat_le (min at (length s.contents)) i && nat_lt i end)) ≡ true)
    → i < length s.contents → ((at ≤ i) × (i < end)) ⊎ ((least s.since (length s.synced) ≤ i) ⊎ (is_written s.since i ≡ true))
range_or_before s at end i un lt =
    ⊎_elim (λ low. inr (inl low)) (λ both. ⊎_elim (λ old. inr (inr old)) (λ here. inl (from_range at (length s.contents) end i here lt, to_range at (length s.contents) end i here)) (or_true (is_written s.since i) _ both)) un

blot_uncertain : (b : ℕ) (s : DiskState) (image : List ℕ) (at len i : ℕ) → IsFilled b s image → i < length image
    → ((at ≤ i) × (i < at + len)) ⊎ ((least s.since (length s.synced) ≤ i) ⊎ (is_written s.since i ≡ true)) → get_or (blotted image at len b) i 0 ≡ b
blot_uncertain b s image at len i was lt un =
    ⊎_elim (λ inside. blotted_inside image at len b i inside.0 inside.1)
    (λ before. ⊎_elim (λ inside. blotted_inside image at len b i inside.0 inside.1) (λ out. blotted_outside image at len b i lt out ∙ was.uncertain i lt before) (inside_or_not at (at + len) i)) un

-- a write that took effect
pub filled_write : (b : ℕ) (s : DiskState) (image : List ℕ) (at : ℕ) (bytes : List ℕ) → IsImage s s.contents → IsFilled b s image → IsFilled b (after_write at bytes s) (blotted image at (length bytes) b)
filled_write b s image at bytes is was = record {
  size = length-blotted image at (length bytes) b bytes refl ∙ length-overwritten_max image at bytes ∙ ap (λ (n : ℕ). max n (at + length bytes)) was.size ∙ sym (length-overwritten_max s.contents at bytes);
  certain = λ i lt low h.
      let parts = or_false (is_written s.since i) _ h in
      let there : i < length s.contents = omega (arith, low, is.long) in
      let here : i < length image = omega (arith, there, was.size) in
      blotted_outside image at (length bytes) b i here (outside at (length s.contents) (at + length bytes) i parts.1 there)
      ∙ was.certain i here low parts.0 ∙ sym (untouched s.contents at bytes i parts.1 there);
  uncertain = λ i lt un.
      ⊎_elim (λ here. blot_uncertain b s image at (length bytes) i was here (range_or_before s at (at + length bytes) i un (omega (arith, here, was.size))))
      (λ beyond. blotted_beyond image at (length bytes) b i beyond lt) (within_or_not (length image) i);
}

-- a cut that took effect
pub filled_cut : (b : ℕ) (s : DiskState) (image : List ℕ) (to : ℕ) → IsFilled b s image → IsFilled b (after_cut to s) (take to image)
filled_cut b s image to was = record {
  size = let e = was.size in grind (arith, places);
  certain = λ i lt low h.
      let below : i < to = omega (arith, lt, length-take to image) in
      get_or-take to image i 0 below ∙ was.certain i (omega (arith, lt, length-take to image)) (omega (arith, low)) h ∙ sym (get_or-take to s.contents i 0 below);
  uncertain = λ i lt un.
      let below : i < to = omega (arith, lt, length-take to image) in
      let within : i < length image = omega (arith, lt, length-take to image) in
      get_or-take to image i 0 below ∙ was.uncertain i within (⊎_elim (λ low. inl (omega (arith, low, below))) (λ h. inr h) un);
}

length-blotted_within : (file : List ℕ) (at len b : ℕ) → length (blotted_within file at len b) ≡ length file
length-blotted_within file at len b = grind (arith, places)

within_outside : (file : List ℕ) (at len b i : ℕ) → i < length file → (i < at) ⊎ (at + len ≤ i) → get_or (blotted_within file at len b) i 0 ≡ get_or file i 0
within_outside file at len b i lt out = grind (arith, places)

within_inside : (file : List ℕ) (at len b i : ℕ) → i < length file → at ≤ i → i < at + len → get_or (blotted_within file at len b) i 0 ≡ b
within_inside file at len b i within le lt = grind (arith, places)

within_uncertain : (b : ℕ) (s : DiskState) (image : List ℕ) (at len i : ℕ) → IsFilled b s image → i < length image
    → ((at ≤ i) × (i < at + len)) ⊎ ((least s.since (length s.synced) ≤ i) ⊎ (is_written s.since i ≡ true)) → get_or (blotted_within image at len b) i 0 ≡ b
within_uncertain b s image at len i was lt un =
    ⊎_elim (λ inside. within_inside image at len b i lt inside.0 inside.1)
    (λ before. ⊎_elim (λ inside. within_inside image at len b i lt inside.0 inside.1) (λ out. within_outside image at len b i lt out ∙ was.uncertain i lt before) (inside_or_not at (at + len) i)) un

-- a write that failed
pub filled_failed_write : (b : ℕ) (s : DiskState) (image : List ℕ) (at len : ℕ) → IsFilled b s image → IsFilled b (after_failed_write at len s) (blotted_within image at len b)
filled_failed_write b s image at len was = record {
  size = length-blotted_within image at len b ∙ was.size;
  certain = λ i lt low h.
      let parts = or_false (is_written s.since i) _ h in
      let here : i < length image = omega (arith, lt, length-blotted_within image at len b) in
      within_outside image at len b i here (outside at (length s.contents) (at + len) i parts.1 (omega (arith, here, was.size))) ∙ was.certain i here low parts.0;
  uncertain = λ i lt un.
      let here : i < length image = omega (arith, lt, length-blotted_within image at len b) in
      within_uncertain b s image at len i was here (range_or_before s at (at + len) i un (omega (arith, here, was.size)));
}

length-cut_off : (file : List ℕ) (to b : ℕ) → length (cut_off file to b) ≡ length file
length-cut_off file to b = grind (arith, places)

cut_off_below : (file : List ℕ) (to b i : ℕ) → i < length file → i < to → get_or (cut_off file to b) i 0 ≡ get_or file i 0
cut_off_below file to b i lt below = grind (arith, places)

cut_off_above : (file : List ℕ) (to b i : ℕ) → i < length file → to ≤ i → get_or (cut_off file to b) i 0 ≡ b
cut_off_above file to b i lt above = grind (arith, places)

least_or_cut : (s : DiskState) (to i : ℕ) → (least (after_failed_cut to s).since (length s.synced) ≤ i) ⊎ (is_written s.since i ≡ true) → i < to → (least s.since (length s.synced) ≤ i) ⊎ (is_written s.since i ≡ true)
least_or_cut s to i un below = ⊎_elim (λ low. inl (omega (arith, low, below))) (λ h. inr h) un

-- a cut that failed
pub filled_failed_cut : (b : ℕ) (s : DiskState) (image : List ℕ) (to : ℕ) → IsFilled b s image → IsFilled b (after_failed_cut to s) (cut_off image to b)
filled_failed_cut b s image to was = record {
  size = length-cut_off image to b ∙ was.size;
  certain = λ i lt low h.
      let here : i < length image = omega (arith, lt, length-cut_off image to b) in
      cut_off_below image to b i here (omega (arith, low)) ∙ was.certain i here (omega (arith, low)) h;
  uncertain = λ i lt un.
      let here : i < length image = omega (arith, lt, length-cut_off image to b) in
      ⊎_elim (λ below. cut_off_below image to b i here below ∙ was.uncertain i here (least_or_cut s to i un below)) (λ above. cut_off_above image to b i here above) (within_or_not to i);
}

-- a sync that took effect
pub filled_sync : (b : ℕ) (s : DiskState) → IsFilled b (after_sync s) s.contents
filled_sync b s = record { size = refl; certain = λ i lt low h. refl; uncertain = λ i lt un. ⊎_elim (λ low. absurd (omega (arith, lt, low))) (λ h. absurd (cc h)) un }
