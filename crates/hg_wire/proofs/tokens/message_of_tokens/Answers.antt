use Rattle.std.proofs.Common.{sym, ◌∙◌, ap, Err}
use Rattle.std.proofs.lemmas.Bool.{cond-false}
use Rattle.std.proofs.lemmas.Result.{err_from_is_err_and}
use Rattle.hg_wire.proofs.CountLemmas.{first_of_two, none_of_err, ok_or_err, ok_or_ok, second_of_two, some_of_ok, two_spelled}
use Rattle.hg_wire.proofs.tokens.message_of_tokens.Goals as goal

pub returns-in_err-t : goal.returns-in_err-t
returns-in_err-t c =
    let p = err_from_is_err_and c.from_residual.result c.from_residual.ensures.1 in
    let q = ok_or_err _ _ _ _ _ c.in_err-t.ensures.value c.two_tokens.ensures in
    rw p.1 (ap Err (p.2 ∙ q.0) ∙ sym (cond-false _ _ _ (q.1 16 32)))

pub returns-in_err-t-2 : goal.returns-in_err-t-2
returns-in_err-t-2 c =
    let p = err_from_is_err_and c.from_residual-in_err-t-2.result c.from_residual-in_err-t-2.ensures.1 in
    let two = ok_or_ok _ _ _ _ _ c.in_ok-t.ensures.value c.two_tokens.ensures in
    let t = none_of_err _ _ _ _ c.in_err-t-2.ensures.value c.short_of_token.ensures in
    rw p.1 (ap Err (p.2 ∙ t.0) ∙ first_of_two 16 32 _ _ _ two t.1)

pub returns-in_err-k : goal.returns-in_err-k
returns-in_err-k c =
    let p = err_from_is_err_and c.from_residual-in_err-k.result c.from_residual-in_err-k.ensures.1 in
    let two = ok_or_ok _ _ _ _ _ c.in_ok-t.ensures.value c.two_tokens.ensures in
    let t = some_of_ok _ _ _ _ c.in_ok-t-2.ensures.value c.short_of_token.ensures in
    let k = none_of_err _ _ _ _ c.in_err-k.ensures.value c.int_of_token.ensures in
    rw p.1 (ap Err (p.2 ∙ k.0) ∙ second_of_two 16 32 _ _ _ _ two t k.1)

pub returns : goal.returns
returns c =
    let two = ok_or_ok _ _ _ _ _ c.in_ok-t.ensures.value c.two_tokens.ensures in
    let t = some_of_ok _ _ _ _ c.in_ok-t-2.ensures.value c.short_of_token.ensures in
    let k = some_of_ok _ _ _ _ c.in_ok-k.ensures.value c.int_of_token.ensures in
    two_spelled 16 32 _ _ _ _ _ two t k
