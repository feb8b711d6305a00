-- The last numbers that are read of a list of sources add up to the events.
use Rattle.std.proofs.Common.{◌≡◌, ◌⊎◌, inl, inr, ℕ, zero, suc, ◌+◌, ◌≤◌, ◌<◌, Bool, cond, List, [], ◌∷◌, map, sum, refl, sym, ap, ◌∙◌, subst, arith}
use Rattle.std.specs.Prelude.{sum_by}
use Rattle.std.specs.List.{AllByRecursion, range_with_len}
use Rattle.std.proofs.lemmas.Bool.{cases_eq, eq-eqb, ne_eqb}
use Rattle.std.proofs.lemmas.List.Elements.{recursion_from_All}
use Rattle.std.proofs.lemmas.List.Sums.{sum_by-cons}
use Rattle.hg_model.proofs.Rising.{From, from_increasing}
use Rattle.hg_root.specs.declared.parts.SourceCount.{SourceCount}
use Rattle.hg_root.specs.Checking.{last_number}
use Rattle.hg_root.specs.Lawful as root
use Rattle.hg_contents.specs.Lawful.{HaveSent, sources}
use Rattle.hg_contents.proofs.lawful.Lists.{each_weaker}

-- the sources, and what each sent last
abbrev names : List SourceCount → List ℕ
names counts = map (λ s. s.source) counts

abbrev sent : List SourceCount → ℕ
sent counts = sum (map (λ s. s.last) counts)

-- a number that no source has
absent : (t : ℕ) (counts : List SourceCount) → AllByRecursion (λ s. s.source ≡ t → ⊥) counts → last_number counts t ≡ 0
absent t [] all = refl
absent t (s ∷ counts) all = ap (λ (b : Bool). cond b s.last (last_number counts t)) (ne_eqb s.source t all.0) ∙ absent t counts all.1

above : (t n : ℕ) (counts : List SourceCount) → t < n → From n (names counts) → AllByRecursion (λ s. s.source ≡ t → ⊥) counts
above t n [] lt from = tt
above t n (s ∷ counts) lt from = let least = from.0 in ((λ same. omega (arith, lt, least, same)), above t (suc s.source) counts (omega (arith, lt, least)) from.1)

-- past a source, the list is read as without it
behind : (s : SourceCount) (counts : List SourceCount) (a n : ℕ) → s.source < a → sum_by (last_number (s ∷ counts)) (range_with_len a n) ≡ sum_by (last_number counts) (range_with_len a n)
behind s counts a zero lt = refl
behind s counts a (suc n) lt =
    let here : last_number (s ∷ counts) a ≡ last_number counts a = ap (λ (b : Bool). cond b s.last (last_number counts a)) (ne_eqb s.source a (λ same. omega (arith, lt, same))) in
    let rest = behind s counts (a + 1) n (omega (arith, lt)) in
    let one = sum_by-cons (last_number (s ∷ counts)) a (range_with_len (a + 1) n) in
    let other = sum_by-cons (last_number counts) a (range_with_len (a + 1) n) in
    omega (arith, here, rest, one, other)

none_sent : (a n : ℕ) → sum_by (last_number []) (range_with_len a n) ≡ 0
none_sent a zero = refl
none_sent a (suc n) = let one = sum_by-cons (last_number []) a (range_with_len (a + 1) n) in let rest = none_sent (a + 1) n in omega (arith, one, rest)

all_sent : (a n : ℕ) (counts : List SourceCount) → From a (names counts) → AllByRecursion (λ s. s.source < a + n) counts → sum_by (last_number counts) (range_with_len a n) ≡ sent counts
all_sent a n [] from below = none_sent a n
all_sent a zero (s ∷ counts) from below = let least = from.0 in let most = below.0 in absurd (omega (arith, least, most))
all_sent a (suc n) (s ∷ counts) from below = pick (cases_eq a s.source) (all_sent (a + 1) n (s ∷ counts)) (all_sent (a + 1) n counts)
  where
    shifted : (xs : List SourceCount) → AllByRecursion (λ s. s.source < a + suc n) xs → AllByRecursion (λ s. s.source < a + 1 + n) xs
    shifted xs all = each_weaker (λ (s : SourceCount). s.source < a + suc n) (λ s. s.source < a + 1 + n) (λ s lt. omega (arith, lt)) xs all

    one : sum_by (last_number (s ∷ counts)) (range_with_len a (suc n)) ≡ last_number (s ∷ counts) a + sum_by (last_number (s ∷ counts)) (range_with_len (a + 1) n)
    one = sum_by-cons (last_number (s ∷ counts)) a (range_with_len (a + 1) n)

    total : sent (s ∷ counts) ≡ s.last + sent counts
    total = sum_by-cons (λ (n : ℕ). n) s.last (map (λ s. s.last) counts)

    pick : (a ≡ s.source) ⊎ (a ≡ s.source → ⊥) → (From (a + 1) (names (s ∷ counts)) → AllByRecursion (λ s. s.source < a + 1 + n) (s ∷ counts) → sum_by (last_number (s ∷ counts)) (range_with_len (a + 1) n) ≡ sent (s ∷ counts))
        → (From (a + 1) (names counts) → AllByRecursion (λ s. s.source < a + 1 + n) counts → sum_by (last_number counts) (range_with_len (a + 1) n) ≡ sent counts)
        → sum_by (last_number (s ∷ counts)) (range_with_len a (suc n)) ≡ sent (s ∷ counts)
    pick (inl same) later rest =
        let here : last_number (s ∷ counts) a ≡ s.last = ap (λ (b : Bool). cond b s.last (last_number counts a)) (eq-eqb s.source a (sym same)) in
        let up : suc s.source ≡ a + 1 = omega (arith, same) in
        let others = rest (subst (λ (m : ℕ). From m (names counts)) up from.1) (shifted counts below.1) in
        let past = behind s counts (a + 1) n (omega (arith, same)) in
        omega (arith, one, total, here, others, past)
    pick (inr other) later rest =
        let least = from.0 in
        let here = absent a (s ∷ counts) (above a (a + 1) (s ∷ counts) (omega arith) (omega (arith, least, other), from.1)) in
        let others = later (omega (arith, least, other), from.1) (shifted (s ∷ counts) below) in
        omega (arith, one, here, others)

pub have_sent : (counts : List SourceCount) (events : ℕ) → root.HaveSent events counts → HaveSent events (last_number counts)
unfolding sources
have_sent counts events have = record {
  sum = all_sent 0 1024 counts (from_increasing 0 (names counts) (λ some. omega arith) have.rising) (each_weaker (λ s. (s.source ≤ 1023) × (1 ≤ s.last)) (λ s. s.source < 0 + 1024) (λ s is. let small = is.0 in omega (arith, small)) counts each) ∙ have.sum;
  others = λ source big. absent source counts (each_weaker (λ s. (s.source ≤ 1023) × (1 ≤ s.last)) (λ s. s.source ≡ source → ⊥) (λ s is same. let small = is.0 in omega (arith, small, big, same)) counts each);
}
  where
    each : AllByRecursion (λ s. (s.source ≤ 1023) × (1 ≤ s.last)) counts
    each = recursion_from_All (λ (s : SourceCount). (s.source ≤ 1023) × (1 ≤ s.last)) counts have.each
