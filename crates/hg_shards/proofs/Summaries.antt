-- What the shards of all parts know makes the summary.
use Rattle.std.proofs.Common.{◌≡◌, ℕ, ◌+◌, ◌<◌, List, [], ◌∷◌, length, map, take, sum, refl, ap, ◌∙◌, arith}
use Rattle.std.proofs.lemmas.Nat.{mod_below}
use Rattle.std.specs.Prelude.{fold}
use Rattle.std.specs.List.{range_with_len}
use Rattle.hg_model.specs.declared.event.Named.{Named}
use Rattle.hg_model.specs.declared.report.Report.{Report}
use Rattle.hg_model.specs.Contents.{Content, events_of, summary}
use Rattle.hg_model.specs.Reporting.{all_reports}
use Rattle.hg_shards.specs.Merging.{merged}
use Rattle.hg_shards.specs.Parts.{by_page}
use Rattle.hg_shards.specs.Sharding.{Knows, page_part, reports_of_group, words_of}
use Rattle.hg_shards.proofs.Rising.{reports_rise_lem}
use Rattle.hg_shards.proofs.Parts.{map_numbers, shares_make_the_whole_lem}

kept_of : (most : ℕ) (f : ℕ → List Report) (ks : List ℕ) → map (λ k. take most (f k)) ks ≡ map (take most) (map f ks)
kept_of most f [] = refl
kept_of most f (k ∷ ks) = ap (λ (lists : List (List Report)). take most (f k) ∷ lists) (kept_of most f ks)

sums_of : (f : ℕ → List Report) (a : ℕ) (ks : List ℕ) → fold (λ (b x : ℕ). b + x) a (map (λ k. length (f k)) ks) ≡ fold (λ (b : ℕ) (x : List Report). b + length x) a (map f ks)
sums_of f a [] = refl
sums_of f a (k ∷ ks) = sums_of f (a + length (f k)) ks

pub shards_make_the_whole_lem : (count : ℕ) (trace : List Named) (content_at : ℕ → Content) → 0 < count → ((k : ℕ) → k < count → Knows (words_of count k) trace (content_at k))
    → (take 65536 (merged (map (λ k. (content_at k).reports) (range_with_len 0 count))) ≡ (summary trace).reports) × (sum (map (λ k. (content_at k).total) (range_with_len 0 count)) ≡ (summary trace).total)
shards_make_the_whole_lem count trace content_at some knows =
    let numbers = range_with_len 0 count in
    let own : ℕ → List Report = λ k. reports_of_group (words_of count k) trace in
    let parts = shares_make_the_whole_lem count (by_page (page_part count)) (all_reports (events_of trace)) (λ w. mod_below _ count some) (reports_rise_lem (events_of trace)) in (
      ap (λ (lists : List (List Report)). take 65536 (merged lists)) (map_numbers (λ k. (content_at k).reports) (λ k. take 65536 (own k)) 0 count (λ k lt. (knows k (omega arith)).reports) ∙ kept_of 65536 own numbers)
          ∙ parts.kept 65536,
      ap (λ (totals : List ℕ). sum totals) (map_numbers (λ k. (content_at k).total) (λ k. length (own k)) 0 count (λ k lt. (knows k (omega arith)).total)) ∙ sums_of own 0 numbers ∙ parts.total,
    )
