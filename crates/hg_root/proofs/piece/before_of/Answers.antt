use Rattle.std.proofs.Common.{◌≡◌, ◌∙◌, ℕ, ap, Some, List, rules}
use Rattle.std.proofs.lemmas.Result.{err_from_is_err_and}
use Rattle.hg_root.specs.Reading.{byte_at}
use Rattle.hg_root.proofs.Before.{first_fails, none_read, one_fails, one_read, second_fails, two_read}
use Rattle.hg_root.proofs.piece.before_of.Goals as goal

pub returns-in-0-default : goal.returns-in-0-default
returns-in-0-default c =
    let is : byte_at c.args.bytes.now ≡ Some (0, c.in_ok-rest.field-0.1.now) = search rules in
    none_read c.args.bytes.now c.in_ok-rest.field-0.1.now is ∙ ap (λ (xs : List ℕ). Some (xs, c.in_ok-rest.field-0.1.now)) (search rules)

pub returns-in_err-one-in-1-default : goal.returns-in_err-one-in-1-default
returns-in_err-one-in-1-default c =
    let is : byte_at c.args.bytes.now ≡ Some (1, c.in_ok-rest.field-0.1.now) = search rules in
    let p = err_from_is_err_and c.from_residual-in_err-one-in-1-default.result c.from_residual-in_err-one-in-1-default.ensures.1 in
    rw (p.1, p.2) (one_fails c.args.bytes.now c.in_ok-rest.field-0.1.now is c.in_err-one-in-1-default.field-0.0 c.in_err-one-in-1-default.ensures)

pub returns-in_ok-one-in-1-default : goal.returns-in_ok-one-in-1-default
returns-in_ok-one-in-1-default c =
    let is : byte_at c.args.bytes.now ≡ Some (1, c.in_ok-rest.field-0.1.now) = search rules in
    one_read c.args.bytes.now c.in_ok-rest.field-0.1.now is c.in_ok-one-in-1-default.one c.in_ok-one-in-1-default.rest.now c.in_ok-one-in-1-default.ensures
    ∙ ap (λ (xs : List ℕ). Some (xs, c.in_ok-one-in-1-default.rest.now)) (search rules)

pub returns-in_err-first-in-2-default : goal.returns-in_err-first-in-2-default
returns-in_err-first-in-2-default c =
    let is : byte_at c.args.bytes.now ≡ Some (2, c.in_ok-rest.field-0.1.now) = search rules in
    let p = err_from_is_err_and c.from_residual-in_err-first-in-2-default.result c.from_residual-in_err-first-in-2-default.ensures.1 in
    rw (p.1, p.2) (first_fails c.args.bytes.now c.in_ok-rest.field-0.1.now is c.in_err-first-in-2-default.field-0.0 c.in_err-first-in-2-default.ensures)

pub returns-in_err-second-in-2-default : goal.returns-in_err-second-in-2-default
returns-in_err-second-in-2-default c =
    let is : byte_at c.args.bytes.now ≡ Some (2, c.in_ok-rest.field-0.1.now) = search rules in
    let p = err_from_is_err_and c.from_residual-in_err-second-in-2-default.result c.from_residual-in_err-second-in-2-default.ensures.1 in
    rw (p.1, p.2) (second_fails c.args.bytes.now c.in_ok-rest.field-0.1.now is c.in_ok-first-in-2-default.first c.in_ok-first-in-2-default.rest.now c.in_ok-first-in-2-default.ensures
    c.in_err-second-in-2-default.field-0.0 c.in_err-second-in-2-default.ensures)

pub returns-in_ok-second-in-2-default : goal.returns-in_ok-second-in-2-default
returns-in_ok-second-in-2-default c =
    let is : byte_at c.args.bytes.now ≡ Some (2, c.in_ok-rest.field-0.1.now) = search rules in
    two_read c.args.bytes.now c.in_ok-rest.field-0.1.now is c.in_ok-first-in-2-default.first c.in_ok-first-in-2-default.rest.now c.in_ok-first-in-2-default.ensures
    c.in_ok-second-in-2-default.second c.in_ok-second-in-2-default.rest.now c.in_ok-second-in-2-default.ensures
    ∙ ap (λ (xs : List ℕ). Some (xs, c.in_ok-second-in-2-default.rest.now)) (search rules)
