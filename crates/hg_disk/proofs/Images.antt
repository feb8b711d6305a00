-- What the images of a write keep.
use Rattle.std.proofs.Common.{◌≡◌, ◌⊎◌, inl, inr, ⊎_elim, ◌<◌, ◌≤◌, ◌+◌, ◌-◌, ℕ, List, ◌++◌, length, take, drop, replicate, get_or, sym, ◌∙◌, ap, arith, length-append, take-append-drop, length-drop}
use Rattle.std.proofs.lemmas.Bool.Decides.{nat_tests}
use Rattle.std.proofs.lemmas.List.{places, ext_get_or, get_or_append_left, get_or-append-add, get_or-drop, drop-drop, length-take-le, take_at, drop_at}
use Rattle.hg_disk.specs.State.{IsImage, settled, overwritten, after_write}
use Rattle.hg_disk.specs.Laws.{Begins, Torn}

-- what stands before a write or behind it stays
pub place_kept : (file : List ℕ) (at : ℕ) (bytes image : List ℕ) → IsImage (after_write at bytes (settled file)) image → (i : ℕ) → i < length file → (i < at) ⊎ (at + length bytes ≤ i) → get_or image i 0 ≡ get_or file i 0
place_kept file at bytes image is i lt out = is.kept i lt (⊎_elim (λ (before : i < at). grind (arith, nat_tests)) (λ (behind : at + length bytes ≤ i). grind (arith, nat_tests)) out)

-- a list that agrees with the front
pub begins_as : (front image : List ℕ) → length front ≤ length image → ((i : ℕ) → i < length front → get_or image i 0 ≡ get_or front i 0) → Begins front image
begins_as front image le same =
    let taken : take (length front) image ≡ front =
    ext_get_or 0 _ _ (length-take-le (length front) image le) (λ i lt.
    let inside : i < length front = omega (arith, lt, length-take-le (length front) image le) in
    let step : get_or (take (length front) image) i 0 ≡ get_or image i 0 = grind (arith, places) in step ∙ same i inside) in
    (drop (length front) image, sym (take-append-drop (length front) image) ∙ ap (λ l. l ++ drop (length front) image) taken)

-- a write behind it leaves the front
pub front_kept : (front rest : List ℕ) (at : ℕ) (bytes image : List ℕ) → length front ≤ at → IsImage (after_write at bytes (settled (front ++ rest))) image → Begins front image
front_kept front rest at bytes image le is =
    begins_as front image (omega (arith, is.long, length-append front rest)) (λ i lt.
    place_kept (front ++ rest) at bytes image is i (omega (arith, lt, length-append front rest)) (inl (omega (arith, lt, le))) ∙ get_or_append_left front rest 0 i lt)

tail_at : (front rest image : List ℕ) (n i : ℕ) → image ≡ front ++ rest → get_or (drop n rest) i 0 ≡ get_or image (length front + (n + i)) 0
tail_at front rest image n i is = get_or-drop n rest i 0 ∙ sym (get_or-append-add front rest (n + i) 0) ∙ ap (λ l. get_or l (length front + (n + i)) 0) (sym is)

size_of_rest : (front rest image : List ℕ) → image ≡ front ++ rest → length front + length rest ≡ length image
size_of_rest front rest image is = omega (arith, ap length is, length-append front rest)

torn_rest : (front rest behind image : List ℕ) (n : ℕ) → image ≡ front ++ rest → n ≤ length rest → Begins behind (drop n rest) → Torn front n behind image
torn_rest front rest behind image n is le back = record {
  torn = take n rest;
  extra = back.0;
  size = length-take-le n rest le;
  whole = is ∙ ap (λ l. front ++ l) (sym (take-append-drop n rest) ∙ ap (λ l. take n rest ++ l) back.1);
}

-- a list that agrees with the front and with what stands n places behind it
pub torn_as : (front behind image : List ℕ) (n : ℕ) → length front + (n + length behind) ≤ length image → Begins front image
    → ((i : ℕ) → i < length behind → get_or image (length front + (n + i)) 0 ≡ get_or behind i 0) → Torn front n behind image
torn_as front behind image n long head same =
    torn_rest front head.0 behind image n head.1 (omega (arith, long, size_of_rest front head.0 image head.1))
    (begins_as behind (drop n head.0) (omega (arith, long, size_of_rest front head.0 image head.1, length-drop n head.0)) (λ i lt.
    tail_at front head.0 image n i head.1 ∙ same i lt))

behind_at : (front old behind : List ℕ) (i : ℕ) → get_or (front ++ (old ++ behind)) (length front + (length old + i)) 0 ≡ get_or behind i 0
behind_at front old behind i = get_or-append-add front (old ++ behind) (length old + i) 0 ∙ get_or-append-add old behind i 0

whole_size : (front old behind : List ℕ) → length (front ++ (old ++ behind)) ≡ length front + (length old + length behind)
whole_size front old behind = omega (arith, length-append front (old ++ behind), length-append old behind)

-- a write in the middle leaves what stands on both sides
pub torn_middle : (front old behind : List ℕ) (at : ℕ) (bytes image : List ℕ) → at ≡ length front → length bytes ≡ length old → IsImage (after_write at bytes (settled (front ++ (old ++ behind)))) image → Torn front (length old) behind image
torn_middle front old behind at bytes image here same is =
    torn_as front behind image (length old) (omega (arith, is.long, whole_size front old behind))
    (front_kept front (old ++ behind) at bytes image (omega (arith, here)) is)
    (λ i lt.
    place_kept (front ++ (old ++ behind)) at bytes image is (length front + (length old + i)) (omega (arith, lt, whole_size front old behind)) (inr (omega (arith, here, same)))
    ∙ behind_at front old behind i)

-- what a read gives after a write at the end of the front
pub overwritten_at : (front rest : List ℕ) (at : ℕ) (bytes : List ℕ) → at ≡ length front → overwritten (front ++ rest) at bytes ≡ front ++ (bytes ++ drop (length bytes) rest)
overwritten_at front rest at bytes here =
    let no_gap : at - length (front ++ rest) ≡ 0 = omega (arith, here, length-append front rest) in
    let after : drop (at + length bytes) (front ++ rest) ≡ drop (length bytes) rest =
    sym (drop-drop (length bytes) at (front ++ rest)) ∙ ap (λ (l : List ℕ). drop (length bytes) l) (drop_at front rest at (sym here)) in
    λ i. take_at front rest at (sym here) i ++ (replicate (no_gap i) 0 ++ (bytes ++ after i))
