-- The sources that sent something, one after another.
use Rattle.std.proofs.Common.{◌≡◌, ◌+◌, ◌-◌, ◌<◌, ◌++◌, ◌∙◌, ℕ, suc, nat_lt, Bool, true, false, cond, List, [], ◌∷◌, map, filter, refl, ap, arith}
use Rattle.std.specs.List.{range_with_len}
use Rattle.hg_root.specs.declared.parts.SourceCount.{SourceCount}
use Rattle.hg_contents.specs.Heads.{source_counts}
use Rattle.hg_contents.specs.Lawful.{sources}
use Rattle.hg_checkpoint.specs.Capturing.{if_sent}

-- those from this number on, so many numbers
unfoldable pub sent_from : (ℕ → ℕ) → ℕ → ℕ → List SourceCount
sent_from last a n = map {B = SourceCount} (λ s. record { source = s; last = last s }) (filter (λ s. nat_lt 0 (last s)) (range_with_len a n))

pub all_sent : (last : ℕ → ℕ) → sent_from last 0 1024 ≡ source_counts last
unfolding sent_from sources
all_sent last = refl

one_more : (last : ℕ → ℕ) (a n : ℕ) → sent_from last a (suc n) ≡ if_sent a (last a) ++ sent_from last (a + 1) n
unfolding sent_from
one_more last a n = by (nat_lt 0 (last a))
  where
    by : (b : Bool) → map {B = SourceCount} (λ s. record { source = s; last = last s }) (cond b (a ∷ filter (λ s. nat_lt 0 (last s)) (range_with_len (a + 1) n)) (filter (λ s. nat_lt 0 (last s)) (range_with_len (a + 1) n)))
        ≡ (cond b (record { source = a; last = last a } ∷ []) []) ++ map {B = SourceCount} (λ s. record { source = s; last = last s }) (filter (λ s. nat_lt 0 (last s)) (range_with_len (a + 1) n))
    by true = refl
    by false = refl

pub next_sent : (last : ℕ → ℕ) (a n : ℕ) → a < n → sent_from last a (n - a) ≡ if_sent a (last a) ++ sent_from last (a + 1) (n - (a + 1))
next_sent last a n lt =
    let more : n - a ≡ suc (n - (a + 1)) = omega (arith, lt) in
    ap (λ (k : ℕ). sent_from last a k) more ∙ one_more last a (n - (a + 1))

pub none_sent : (last : ℕ → ℕ) (a : ℕ) → sent_from last a 0 ≡ []
unfolding sent_from
none_sent last a = refl
