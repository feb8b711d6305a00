use Rattle.std.proofs.Common.{◌∙◌, ap, arith, sym}
use prog.Atomic.{either}
use Rattle.std.specs.Prelude.{◌==◌}
use Rattle.hg_receipts.proofs.Moves.{hands_out, notes, takes_in}
use Rattle.hg_receipts.proofs.register.Register.note.Goals as goal

pub compare_exchange_with-requires : goal.compare_exchange_with-requires
compare_exchange_with-requires g c =
    let i = c.self.invariant in
    let some_words = i.0 in
    let same = ap (λ t. t.words) i.1 in
    (i.2 ∙ sym i.1, omega (arith, some_words, same), notes _ _ _ _ 0 (λ n. either (n == 0) 0 n) 0 0 _ i.3)

pub split_seat-one-requires : goal.split_seat-one-requires
split_seat-one-requires g c =
    let i = c.self.invariant in
    let some_words = i.0 in
    let same = ap (λ t. t.words) i.1 in
    (c.compare_exchange_with.ensures.0 ∙ (i.2 ∙ sym i.1), omega (arith, some_words, same), hands_out _ _)

pub join_seat-requires : goal.join_seat-requires
join_seat-requires g c =
    let i = c.self.invariant in
    let some_words = i.0 in
    let same = ap (λ t. t.words) i.1 in
    let one = c.split_seat-one.ensures in (
      c.receipts.invariant.0 ∙ sym i.1,
      one.3 ∙ (c.compare_exchange_with.ensures.0 ∙ (i.2 ∙ sym i.1)),
      ap (λ m. m.1) one.4,
      omega (arith, some_words, same),
      takes_in _ _ _ _,
    )
