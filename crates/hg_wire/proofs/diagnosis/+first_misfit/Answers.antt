use Rattle.std.proofs.Common.{rules, ◌≡◌, ◌∷◌, true, is_some, ◌∙◌, sym, ap}
use Rattle.hg_wire.specs.Lines.{operand_of, tokens_after}
use Rattle.hg_wire.proofs.DiagnosisLemmas.{misfit_at, misfit_with, values_with}
use Rattle.hg_wire.proofs.diagnosis.+first_misfit.Goals as goal

pub returns-in_err-later-clause-first : goal.returns-in_err-later-clause-first
returns-in_err-later-clause-first t c =
    let widths_are : c.args.widths.now ≡ c.in_ok-bits.bits.now ∷ c.in_ok-bits.others.now = search rules in
    let tokens_are : tokens_after c.args.tokens ≡ c.split_token.result.0.now ∷ tokens_after c.split_token.result.1 = ap tokens_after c.in_ok-tokens.was ∙ c.split_token.ensures.tokens in
    let here : is_some (operand_of c.in_ok-bits.bits.now c.split_token.result.0.now) ≡ true = sym c.is_operand.ensures ∙ c.if-not-is_operand.false in
    rw c.from_residual-in_err-later.ensures (values_with _ _ _ _ _ _ widths_are tokens_are here c.in_err-later.ensures.first)

pub returns-clause-first : goal.returns-clause-first
returns-clause-first t c =
    let widths_are : c.args.widths.now ≡ c.in_ok-bits.bits.now ∷ c.in_ok-bits.others.now = search rules in
    let tokens_are : tokens_after c.args.tokens ≡ c.split_token.result.0.now ∷ tokens_after c.split_token.result.1 = ap tokens_after c.in_ok-tokens.was ∙ c.split_token.ensures.tokens in
    let here : is_some (operand_of c.in_ok-bits.bits.now c.split_token.result.0.now) ≡ true = sym c.is_operand.ensures ∙ c.if-not-is_operand.false in
    misfit_with _ _ _ _ _ _ _ _ _ widths_are tokens_are here c.in_ok-later.ensures.first

pub returns-then-not-is_operand-clause-first : goal.returns-then-not-is_operand-clause-first
returns-then-not-is_operand-clause-first t c =
    let widths_are : c.args.widths.now ≡ c.in_ok-bits.bits.now ∷ c.in_ok-bits.others.now = search rules in
    let tokens_are : tokens_after c.args.tokens ≡ c.split_token.result.0.now ∷ tokens_after c.split_token.result.1 = ap tokens_after c.in_ok-tokens.was ∙ c.split_token.ensures.tokens in
    misfit_at _ _ _ _ _ _ widths_are tokens_are (sym c.is_operand.ensures ∙ c.if-not-is_operand.true)
