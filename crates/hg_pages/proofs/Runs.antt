-- Slots that lie side by side, read by one call.
use Rattle.std.proofs.Common.{◌≡◌, ◌<◌, ◌≤◌, ◌+◌, ◌-◌, ◌*◌, ◌∙◌, ℕ, Result, Ok, Err, OnOk, List, ◌++◌, length, take, drop, refl, sym, ap, subst, arith, length-drop}
use Rattle.std.proofs.lemmas.List.{drop-append-le, drop-drop, drop-take, take-append-le, take-take, take_all}
use Rattle.hg_pages.specs.Runs.{HasRun, bytes_in_run}
use Rattle.hg_pages.specs.Slots.{HasBytes, IsOutside}
use Rattle.hg_pages.proofs.Keeping.{read_slot}

-- what a read of several slots gives
pub read_slots : (file : List ℕ) (first count at : ℕ) (bytes : List ℕ) → at ≡ 3080 * first → 3080 * (first + count) ≤ length file → bytes ≡ take (count * 3080) (drop at file) → HasRun first count bytes file
read_slots file first count at bytes here within is k lt =
    let rest = 3080 * (count - k) in
    let parts : count * 3080 ≡ 3080 * k + rest = omega (arith, lt) in
    let place : at + 3080 * k ≡ 3080 * (first + k) = omega (arith, here) in
    let found : bytes_in_run bytes k ≡ take 3080 (drop (3080 * (first + k)) file) =
    ap (λ (l : List ℕ). take 3080 (drop (3080 * k) l)) (is ∙ ap (λ (n : ℕ). take n (drop at file)) parts)
    ∙ ap (λ (l : List ℕ). take 3080 l) (drop-take (3080 * k) rest (drop at file))
    ∙ take-take 3080 rest (drop (3080 * k) (drop at file)) (omega (arith, lt))
    ∙ ap (λ (l : List ℕ). take 3080 l) (drop-drop (3080 * k) at file ∙ ap (λ (n : ℕ). drop n file) place) in
    read_slot file (first + k) (3080 * (first + k)) (bytes_in_run bytes k) refl (omega (arith, lt, within)) found

-- one slot is a run of one
pub one_slot : (slot : ℕ) (bytes file : List ℕ) → length bytes ≡ 3080 → HasRun slot 1 bytes file → HasBytes slot bytes file
one_slot slot bytes file size has =
    let here : slot + 0 ≡ slot = omega arith in
    let all : take 3080 bytes ≡ bytes = take_all 3080 bytes (omega (arith, size)) in
    subst (λ (l : List ℕ). HasBytes slot l file) all (subst (λ (n : ℕ). HasBytes n (take 3080 bytes) file) here (has 0 (omega arith)))

pub one_outside : (slot : ℕ) (file : List ℕ) → IsOutside (slot + 1 - 1) file → IsOutside slot file
one_outside slot file outside = let here : slot + 1 - 1 ≡ slot = omega arith in subst (λ (n : ℕ). IsOutside n file) here outside

-- a slot in the front of a run
pub in_front : (front behind : List ℕ) (count k : ℕ) → length front ≡ count * 3080 → k < count → bytes_in_run (front ++ behind) k ≡ bytes_in_run front k
in_front front behind count k size lt =
    ap (λ (l : List ℕ). take 3080 l) (drop-append-le (3080 * k) front behind (omega (arith, size, lt)))
    ∙ take-append-le 3080 (drop (3080 * k) front) behind (omega (arith, size, lt, length-drop (3080 * k) front))

pub on_front : {T E : Type 0} (result : Result T E) (first count : ℕ) (front behind file : List ℕ) → length front ≡ count * 3080
    → OnOk result (HasRun first count front file) → OnOk result (HasRun first count (front ++ behind) file)
on_front (Ok value) first count front behind file size has = λ k lt. subst (λ (l : List ℕ). HasBytes (first + k) l file) (sym (in_front front behind count k size lt)) (has k lt)
on_front (Err e) first count front behind file size has = has

-- the part of a run that is its k-th slot
pub part_is : (run bytes : List ℕ) (k : ℕ) → bytes ≡ run → take (3080 * k + 3080 - 3080 * k) (drop (3080 * k) bytes) ≡ bytes_in_run run k
part_is run bytes k is =
    let size : 3080 * k + 3080 - 3080 * k ≡ 3080 = omega arith in
    ap (λ (n : ℕ). take n (drop (3080 * k) bytes)) size ∙ ap (λ (l : List ℕ). bytes_in_run l k) is
