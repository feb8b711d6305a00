use Rattle.std.proofs.Common.{sym, ◌∙◌, ap, Err}
use Rattle.std.proofs.lemmas.Bool.{cond-false}
use Rattle.std.proofs.lemmas.Result.{err_from_is_err_and}
use Rattle.hg_wire.proofs.CountLemmas.{first_of_three, none_of_err, ok_or_err, ok_or_ok, second_of_three, some_of_ok, third_of_three, three_spelled}
use Rattle.hg_wire.proofs.tokens.block_of_tokens.Goals as goal

pub returns-in_err-t : goal.returns-in_err-t
returns-in_err-t c =
    let p = err_from_is_err_and c.from_residual.result c.from_residual.ensures.1 in
    let q = ok_or_err _ _ _ _ _ c.in_err-t.ensures.value c.three_tokens.ensures in
    rw p.1 (ap Err (p.2 ∙ q.0) ∙ sym (cond-false _ _ _ (q.1 16 64 32)))

pub returns-in_err-t-2 : goal.returns-in_err-t-2
returns-in_err-t-2 c =
    let p = err_from_is_err_and c.from_residual-in_err-t-2.result c.from_residual-in_err-t-2.ensures.1 in
    let three = ok_or_ok _ _ _ _ _ c.in_ok-t.ensures.value c.three_tokens.ensures in
    let t = none_of_err _ _ _ _ c.in_err-t-2.ensures.value c.short_of_token.ensures in
    rw p.1 (ap Err (p.2 ∙ t.0) ∙ first_of_three 16 64 32 _ _ _ _ three t.1)

pub returns-in_err-at : goal.returns-in_err-at
returns-in_err-at c =
    let p = err_from_is_err_and c.from_residual-in_err-at.result c.from_residual-in_err-at.ensures.1 in
    let three = ok_or_ok _ _ _ _ _ c.in_ok-t.ensures.value c.three_tokens.ensures in
    let t = some_of_ok _ _ _ _ c.in_ok-t-2.ensures.value c.short_of_token.ensures in
    let at = none_of_err _ _ _ _ c.in_err-at.ensures.value c.number_of_token.ensures in
    rw p.1 (ap Err (p.2 ∙ at.0) ∙ second_of_three 16 64 32 _ _ _ _ _ three t at.1)

pub returns-in_err-len : goal.returns-in_err-len
returns-in_err-len c =
    let p = err_from_is_err_and c.from_residual-in_err-len.result c.from_residual-in_err-len.ensures.1 in
    let three = ok_or_ok _ _ _ _ _ c.in_ok-t.ensures.value c.three_tokens.ensures in
    let t = some_of_ok _ _ _ _ c.in_ok-t-2.ensures.value c.short_of_token.ensures in
    let at = some_of_ok _ _ _ _ c.in_ok-at.ensures.value c.number_of_token.ensures in
    let len = none_of_err _ _ _ _ c.in_err-len.ensures.value c.int_of_token.ensures in
    rw p.1 (ap Err (p.2 ∙ len.0) ∙ third_of_three 16 64 32 _ _ _ _ _ _ three t at len.1)

pub returns : goal.returns
returns c =
    let three = ok_or_ok _ _ _ _ _ c.in_ok-t.ensures.value c.three_tokens.ensures in
    let t = some_of_ok _ _ _ _ c.in_ok-t-2.ensures.value c.short_of_token.ensures in
    let at = some_of_ok _ _ _ _ c.in_ok-at.ensures.value c.number_of_token.ensures in
    let len = some_of_ok _ _ _ _ c.in_ok-len.ensures.value c.int_of_token.ensures in
    three_spelled 16 64 32 _ _ _ _ _ _ _ three t at len
