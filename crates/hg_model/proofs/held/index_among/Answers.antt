use Rattle.std.proofs.Common.{sym, subst, arith, ◌<◌, length, ◌≡◌, get_or, map, map-id, List, ℕ}
use Rattle.std.specs.List.{remove}
use Rattle.std.specs.List.Sorted.{IsStrictlyIncreasing}
use Rattle.hg_model.specs.Locks.{without_number}
use Rattle.hg_model.proofs.Rising.{From, removed, kept, from_increasing}
use Rattle.hg_model.proofs.held.index_among.Goals as goal
use Rattle.hg_model.proofs.held.index_among.Goals.{else-place-numbers-via-then-place-numbers+else-numbers-place, else-place-numbers-via-else-place-numbers}

rises : (ns : List ℕ) → IsStrictlyIncreasing ns → From 0 (map (λ (n : ℕ). n) ns)
rises ns h = from_increasing 0 _ (λ _. omega arith) (subst IsStrictlyIncreasing (sym (map-id ns)) h)

pub returns-then-numbers-place : goal.returns-then-numbers-place
returns-then-numbers-place c =
    let ns = c.args.numbers.now in
    let l = c.args.number in (
      c.if-place-numbers.true,
      subst (λ (i : ℕ). i < length ns → get_or ns i 0 ≡ l → remove ns i ≡ without_number l ns) (sym c.place_among-place.ensures.place)
          (removed (λ (n : ℕ). n) l 0 ns 0 (rises ns c.requires)) c.if-place-numbers.true c.if-numbers-place.true,
    )

pub returns-else-place-numbers : goal.returns-else-place-numbers
returns-else-place-numbers c =
    let ns = c.args.numbers.now in
    let l = c.args.number in
    subst (λ (i : ℕ). (i < length ns → get_or ns i 0 ≡ l → ⊥) → without_number l ns ≡ ns) (sym c.place_among-place.ensures.place)
    (kept (λ (n : ℕ). n) l 0 ns 0 (rises ns c.requires))
    (elim c.else-place-numbers.branch [
      | else-place-numbers-via-then-place-numbers+else-numbers-place w ↦ λ lt is. w.if-numbers-place.false is
      | else-place-numbers-via-else-place-numbers w ↦ λ lt is. absurd (omega arith)
    ])
