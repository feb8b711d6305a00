use Rattle.std.proofs.Common.{◌∙◌, ap, arith, sym}
use Rattle.hg_receipts.proofs.Moves.{hands_out}
use Rattle.hg_receipts.proofs.register.Register.none.Goals as goal

pub split_seat-requires : goal.split_seat-requires
split_seat-requires g c =
    let i = c.self.invariant in
    let some_words = i.0 in
    let same = ap (λ t. t.words) i.1 in
    (i.2 ∙ sym i.1, omega (arith, some_words, same), hands_out _ _)
