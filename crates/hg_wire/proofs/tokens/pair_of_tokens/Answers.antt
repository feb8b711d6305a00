use Rattle.std.proofs.Common.{sym, ◌∙◌, ap, Err}
use Rattle.std.proofs.lemmas.Bool.{cond-false}
use Rattle.std.proofs.lemmas.Result.{err_from_is_err_and}
use Rattle.hg_wire.proofs.CountLemmas.{first_of_two, none_of_err, ok_or_err, ok_or_ok, second_of_two, some_of_ok, two_spelled}
use Rattle.hg_wire.proofs.tokens.pair_of_tokens.Goals as goal

pub returns-in_err-first : goal.returns-in_err-first
returns-in_err-first c =
    let p = err_from_is_err_and c.from_residual.result c.from_residual.ensures.1 in
    let q = ok_or_err _ _ _ _ _ c.in_err-first.ensures.value c.two_tokens.ensures in
    rw p.1 (ap Err (p.2 ∙ q.0) ∙ sym (cond-false _ _ _ (q.1 16 16)))

pub returns-in_err-first-2 : goal.returns-in_err-first-2
returns-in_err-first-2 c =
    let p = err_from_is_err_and c.from_residual-in_err-first-2.result c.from_residual-in_err-first-2.ensures.1 in
    let two = ok_or_ok _ _ _ _ _ c.in_ok-first.ensures.value c.two_tokens.ensures in
    let first = none_of_err _ _ _ _ c.in_err-first-2.ensures.value c.short_of_token.ensures in
    rw p.1 (ap Err (p.2 ∙ first.0) ∙ first_of_two 16 16 _ _ _ two first.1)

pub returns-in_err-second : goal.returns-in_err-second
returns-in_err-second c =
    let p = err_from_is_err_and c.from_residual-in_err-second.result c.from_residual-in_err-second.ensures.1 in
    let two = ok_or_ok _ _ _ _ _ c.in_ok-first.ensures.value c.two_tokens.ensures in
    let first = some_of_ok _ _ _ _ c.in_ok-first-2.ensures.value c.short_of_token.ensures in
    let second = none_of_err _ _ _ _ c.in_err-second.ensures.value c.short_of_token-2.ensures in
    rw p.1 (ap Err (p.2 ∙ second.0) ∙ second_of_two 16 16 _ _ _ _ two first second.1)

pub returns : goal.returns
returns c =
    let two = ok_or_ok _ _ _ _ _ c.in_ok-first.ensures.value c.two_tokens.ensures in
    let first = some_of_ok _ _ _ _ c.in_ok-first-2.ensures.value c.short_of_token.ensures in
    let second = some_of_ok _ _ _ _ c.in_ok-second.ensures.value c.short_of_token-2.ensures in
    two_spelled 16 16 _ _ _ _ _ two first second
