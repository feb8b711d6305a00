use Rattle.std.proofs.Common.{ℕ, ◌-◌, ◌/◌, ◌%◌, ◌^◌, ◌≡◌, ◌∙◌, arith}
use Rattle.std.proofs.lemmas.List.{length-set}
use Rattle.std.proofs.lemmas.List.Edits.{fill_by_more}
use Rattle.std.proofs.lemmas.List.FromFn.{fill_by_all}
use Rattle.std.specs.Char.{digit_char}
use Rattle.hg_wire.proofs.PieceLemmas.{digit_of_shifted}
use Rattle.hg_wire.proofs.report.digits_of_address.Goals as goal

pub loop-i-preserved : goal.loop-i-preserved
loop-i-preserved c =
    let f : ℕ → ℕ = λ k. digit_char (c.args.address / 16 ^ (15 - k) % 16) in
    let digit : c.hexadecimal_digit.result ≡ f c.loop-i.i = c.hexadecimal_digit.ensures ∙ digit_of_shifted c.args.address c.loop-i.i c.loop-i-test.true in (
      length-set _ _ _ ∙ c.loop-i.invariant.0,
      λ k within. rw digit (fill_by_more f c.loop-i.digits c.loop-i.i 0 (omega arith) c.loop-i.invariant.1 k within),
    )

pub returns : goal.returns
returns c = fill_by_all (λ k. digit_char (c.args.address / 16 ^ (15 - k) % 16)) c.loop-i.digits 16 0 c.loop-i.invariant.0 (λ k within. c.loop-i.invariant.1 k (omega arith))
