use Rattle.std.proofs.Common.{◌++◌, ◌∙◌, ap}
use Rattle.std.proofs.lemmas.Result.{on_ok_weaker}
use Rattle.hg_check.proofs.Lines.{word_text}
use Rattle.hg_check.proofs.explain.address.hold_word.Goals as goal

pub returns-clause-ok : goal.returns-clause-ok
returns-clause-ok c =
    on_ok_weaker c.hold_all.result
    (λ e. e ∙ ap (λ t. c.args.held.now.items ++ t) (word_text c.args.word _ _ _ c.as_slice.ensures (c.as_slice-2.ensures ∙ c.digits_of_address-digits.ensures) c.as_slice-3.ensures))
    c.hold_all.ensures.ok
