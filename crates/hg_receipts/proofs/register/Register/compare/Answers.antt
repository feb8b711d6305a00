use Rattle.std.proofs.Common.{◌∙◌, ap, arith, refl, sym}
use mathlib.Core.Option.{none}
use Rattle.hg_receipts.proofs.Moves.{compares, hands_out, takes_in}
use Rattle.hg_receipts.proofs.register.Register.compare.Goals as goal

pub split_seat-none-requires : goal.split_seat-none-requires
split_seat-none-requires g c =
    let i = c.self.invariant in
    let some_words = i.0 in
    let same = ap (λ t. t.words) i.1 in
    (i.2 ∙ sym i.1, omega (arith, some_words, same), hands_out _ _)

pub join_seat-requires : goal.join_seat-requires
join_seat-requires g c =
    let i = c.self.invariant in
    let some_words = i.0 in
    let same = ap (λ t. t.words) i.1 in
    let lent = c.replace-seat.ensures.value in (
      c.split_seat-none.ensures.0 ∙ (i.2 ∙ sym i.1),
      ap (λ s. s.table_id) lent ∙ (c.receipts.invariant.0 ∙ sym i.1),
      ap (λ s. s.me.1) lent ∙ ap (λ m. m.1) c.receipts.invariant.1,
      omega (arith, some_words, same),
      takes_in _ _ _ _,
    )

pub load-requires : goal.load-requires
load-requires g c =
    let i = c.self.invariant in
    let some_words = i.0 in
    let same = ap (λ t. t.words) i.1 in
    (c.join_seat.ensures.0 ∙ (c.split_seat-none.ensures.0 ∙ (i.2 ∙ sym i.1)), omega (arith, some_words, same), compares _ _ _ 0 (λ n. n) 0 0 none (λ n. refl))

pub split_seat-requires : goal.split_seat-requires
split_seat-requires g c =
    let i = c.self.invariant in
    let some_words = i.0 in
    let same = ap (λ t. t.words) i.1 in
    (c.load.ensures.0 ∙ (c.join_seat.ensures.0 ∙ (c.split_seat-none.ensures.0 ∙ (i.2 ∙ sym i.1))), omega (arith, some_words, same), hands_out _ _)
