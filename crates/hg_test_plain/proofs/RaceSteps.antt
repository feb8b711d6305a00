-- One step of the search for the first race.
use Rattle.std.proofs.Common.{◌≡◌, ℕ, ◌+◌, ◌<◌, false, cond, List, ◌∷◌, [], ◌++◌, length, get_or, take, drop, Some, sym, ap, ◌∙◌}
use Rattle.std.proofs.lemmas.List.{drop_more, take_more}
use Rattle.hg_model.specs.declared.word.HistoryItem.{HistoryItem}
use Rattle.hg_model.specs.Sharing.{is_race, first_race}

pub goes_on : (first : HistoryItem) (later : List HistoryItem) (n : ℕ) → n < length later → is_race (first ∷ (take (n + 1) later)) ≡ false → first_race (first ∷ (take n later)) (drop n later) ≡ first_race (first ∷ take (n + 1) later) (drop (n + 1) later)
goes_on first later n lt calm =
    let x = get_or later n first in
    let more = take_more later n first lt in
    ap (first_race (first ∷ take n later)) (drop_more later n first lt)
    ∙ (λ i. cond ((ap (λ q. is_race (first ∷ q)) (sym more) ∙ calm) i) (Some x.event) (first_race (first ∷ (take n later ++ x ∷ [])) (drop (n + 1) later)))
    ∙ ap (λ front. first_race (first ∷ front) (drop (n + 1) later)) (sym more)
