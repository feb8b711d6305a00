-- No source sent more than all events, and those are few.
use Rattle.std.proofs.Common.{◌≡◌, ◌≤◌, ◌+◌, ◌==◌, ℕ, Bool, true, false, List, [], ◌∷◌, map, sum, cond, Result, Ok, Err, sym, subst, arith}
use Rattle.std.specs.Prelude.{IfOk}
use Rattle.std.proofs.lemmas.List.Sums.{sum_by-cons}
use Rattle.hg_model.specs.Change.{empty_content}
use Rattle.hg_cells.specs.declared.paged.PagedWords.{PagedWords}
use Rattle.hg_detect.specs.Memory.{content_of}
use Rattle.hg_detect.specs.Shown.{ShownDetector}
use Rattle.hg_sets.specs.declared.table.TheConstants.{MOST_SETS}
use Rattle.hg_root.specs.Checking.{last_number}
use Rattle.hg_root.specs.Lawful.{IsLawful}
use Rattle.hg_root.specs.Roots.{IsWhole, parts_of}
use Rattle.hg_root.specs.declared.parts.SourceCount.{SourceCount}
use Rattle.hg_root.specs.declared.root.Root.{Root}
use Rattle.hg_checkpoint.specs.Restoring.{detector_with}
use Rattle.hg_saved.specs.Saved.{IsNumbered}

abbrev sent : List SourceCount → ℕ
sent sources = sum (map (λ s. s.last) sources)

within_sum : (source : ℕ) (sources : List SourceCount) → last_number sources source ≤ sent sources
within_sum source [] = omega arith
within_sum source (s ∷ sources) =
    let rest = within_sum source sources in
    let total : sent (s ∷ sources) ≡ s.last + sent sources = sum_by-cons (λ (n : ℕ). n) s.last (map (λ s. s.last) sources) in
    elim (s.source == source) as (λ b. cond b s.last (last_number sources source) ≤ sent (s ∷ sources)) [ true ↦ omega (arith, total) | false ↦ omega (arith, total, rest) ]

numbered : (root : Root) (words : PagedWords) → IsLawful (parts_of root) → IsWhole root → IsNumbered (content_of (detector_with root MOST_SETS words))
numbered root words lawful whole =
    record {
      events = lawful.head.events;
      last = λ source. let is = whole.last source in let within = within_sum source root.sources.items in let all = lawful.head.sources.sum in omega (arith, is, within, all);
    }

-- a detector over the words of a root
pub is_numbered : {E : Type 0} (root : Root) (words : PagedWords) (result : Result (ShownDetector PagedWords) E) → IsLawful (parts_of root) → IsWhole root → IfOk result (λ d. d ≡ detector_with root MOST_SETS words)
    → IfOk result (λ d. IsNumbered (content_of d))
is_numbered root words (Ok d) lawful whole shown = subst (λ (d : ShownDetector PagedWords). IsNumbered (content_of d)) (sym shown) (numbered root words lawful whole)
is_numbered root words (Err e) lawful whole shown = tt

-- one of no events
pub empty_is_numbered : {E : Type 0} (result : Result (ShownDetector PagedWords) E) → IfOk result (λ d. content_of d ≡ empty_content) → IfOk result (λ d. IsNumbered (content_of d))
empty_is_numbered (Ok d) empty = subst IsNumbered (sym empty) (record { events = omega arith; last = λ source. omega arith })
empty_is_numbered (Err e) empty = tt
