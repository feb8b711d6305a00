-- Lists with a gap: a change, an insertion and a removal.
use Rattle.std.proofs.Common.{◌≡◌, ◌<◌, ◌≤◌, ◌+◌, ◌-◌, ℕ, zero, suc, List, [], ◌∷◌, ◌++◌, length, take, drop, set, refl, sym, ◌∙◌, ap, arith, add-one}
use Rattle.std.specs.List.{insert, remove}
use Rattle.std.proofs.lemmas.List.{append_assoc, append-nil, drop-drop, drop-set-add, drop-set-lt, drop_all, drop_at, length-append, length-drop, length-take-le, set-append_left, set-append_right, take-append-drop, take-set-le, take_at, take_more_set}
use Rattle.hg_pages.specs.Gaps.{without_gap}

-- a vector that was lent as a slice
pub whole : (n : ℕ) (new old : List (ℕ × ℕ)) → length new ≡ length old → length old ≡ n → take n (new ++ drop (length new) old) ≡ new
whole n new old len is = take_at new (drop (length new) old) n (len ∙ is)

take_set : (n i : ℕ) (es : List (ℕ × ℕ)) (v : ℕ × ℕ) → i < n → take n (set es i v) ≡ set (take n es) i v
take_set zero i es v lt = absurd (omega (arith, lt))
take_set (suc n) i [] v lt = refl
take_set (suc n) zero (x ∷ es) v lt = refl
take_set (suc n) (suc i) (x ∷ es) v lt = ap (λ (l : List (ℕ × ℕ)). x ∷ l) (take_set n i es v (omega (arith, lt)))

pub set_before : (from width i : ℕ) (es : List (ℕ × ℕ)) (v : ℕ × ℕ) → i < from → from + width ≤ length es → without_gap from width (set es i v) ≡ set (without_gap from width es) i v
set_before from width i es v lt within =
    (λ k. take_set from i es v lt k ++ drop-set-lt (from + width) es i v (omega (arith, lt)) k)
    ∙ sym (set-append_left (take from es) (drop (from + width) es) i v (omega (arith, lt, length-take-le from es (omega (arith, within)))))

pub set_behind : (from width i : ℕ) (es : List (ℕ × ℕ)) (v : ℕ × ℕ) → from ≤ i → from + width ≤ length es → without_gap from width (set es (i + width) v) ≡ set (without_gap from width es) i v
set_behind from width i es v le within =
    let place : i + width ≡ from + width + (i - from) = omega (arith, le) in
    (λ k. take-set-le from es (i + width) v (omega (arith, le)) k ++ drop (from + width) (set es (place k) v))
    ∙ ap (λ (l : List (ℕ × ℕ)). take from es ++ l) (drop-set-add (from + width) es (i - from) v)
    ∙ sym (set-append_right (take from es) (drop (from + width) es) from i v (length-take-le from es (omega (arith, within))) le)

pub removed : (i width : ℕ) (es : List (ℕ × ℕ)) → i + width ≤ length es → without_gap i (width + 1) es ≡ remove (without_gap i width es) i
removed i width es within =
    let l = without_gap i width es in
    let len = length-take-le i es (omega (arith, within)) in
    let next : i + width + 1 ≡ i + (width + 1) = omega arith in
    let behind : drop (suc i) l ≡ drop (i + (width + 1)) es =
    ap (λ (n : ℕ). drop n l) (sym (add-one i)) ∙ sym (drop-drop 1 i l) ∙ ap (drop 1) (drop_at (take i es) (drop (i + width) es) i len)
    ∙ drop-drop 1 (i + width) es ∙ ap (λ (n : ℕ). drop n es) next in
    sym (λ k. take_at (take i es) (drop (i + width) es) i len k ++ behind k)

pub inserted : (i width : ℕ) (es : List (ℕ × ℕ)) (v : ℕ × ℕ) → 0 < width → i + width ≤ length es → without_gap (i + 1) (width - 1) (set es i v) ≡ insert (without_gap i width es) i v
inserted i width es v some within =
    let len = length-take-le i es (omega (arith, within)) in
    let next : i + 1 + (width - 1) ≡ i + width = omega (arith, some) in
    (λ k. take_more_set es i v (omega (arith, some, within)) k ++ drop-set-lt (i + 1 + (width - 1)) es i v (omega arith) k)
    ∙ ap (λ (n : ℕ). (take i es ++ v ∷ []) ++ drop n es) next
    ∙ append_assoc (take i es) (v ∷ []) (drop (i + width) es)
    ∙ sym (λ k. take_at (take i es) (drop (i + width) es) i len k ++ v ∷ drop_at (take i es) (drop (i + width) es) i len k)

-- a gap of no places, and new places behind all
pub no_gap : (from : ℕ) (es : List (ℕ × ℕ)) → without_gap from 0 es ≡ es
no_gap from es = let nothing : from + 0 ≡ from = omega arith in ap (λ (n : ℕ). take from es ++ drop n es) nothing ∙ take-append-drop from es

pub widened : (n width : ℕ) (es fill : List (ℕ × ℕ)) → n ≡ length es → length fill ≡ width → without_gap n width (es ++ fill) ≡ es
widened n width es fill is len =
    (λ k. take_at es fill n (sym is) k ++ drop_all (n + width) (es ++ fill) (omega (arith, is, len, length-append es fill)) k)
    ∙ append-nil es

pub length_without : (from width : ℕ) (es : List (ℕ × ℕ)) → from + width ≤ length es → length (without_gap from width es) + width ≡ length es
length_without from width es within =
    omega (arith, within, length-append (take from es) (drop (from + width) es), length-take-le from es (omega (arith, within)), length-drop (from + width) es)
