use Rattle.std.proofs.Common.{◌≡◌, ◌≢◌, ◌-◌, ℕ, List, Some, None, true, length, nat_lt, arith, sym, ◌∙◌, ap, subst}
use Rattle.std.specs.List.{list_all}
use Rattle.hg_wire.specs.declared.line.LineFault.TheVariants.{TooLong}
use Rattle.hg_wire.specs.Diagnoses.{IsFirstMisfit}
use Rattle.hg_wire.specs.Lines.{values_of, verb_named, tokens_after, tokens_of}
use Rattle.hg_wire.specs.Numbers.{number_of}
use Rattle.hg_wire.specs.Verbs.{row_of}
use Rattle.hg_wire.proofs.LineLemmas.{fault_is_told}
use Rattle.hg_wire.proofs.DiagnosisLemmas.{Begins, counted_behind, empty_behind, has_misfit, is_behind, miscounted, none_of, other_count, read_as, read_counted, read_misfit, some_of, too_great, verb_is_filled}
use Rattle.hg_wire.proofs.diagnosis.diagnose.Goals as goal

pub returns-then-line-gt-MOST_LINE_BYTES-clause-fault : goal.returns-then-line-gt-MOST_LINE_BYTES-clause-fault
returns-then-line-gt-MOST_LINE_BYTES-clause-fault c = fault_is_told c.args.line.now TooLong (omega arith)

pub returns-in_default-clause-fault : goal.returns-in_default-clause-fault
returns-in_default-clause-fault c = read_as c.args.line.now _ _ None (omega arith) c.split_token.ensures.tokens (sym c.named.ensures ∙ c.in_default.is)

pub returns-in-Some-first_empty-clause-fault : goal.returns-in-Some-first_empty-clause-fault
returns-in-Some-first_empty-clause-fault c =
    let named : verb_named c.split_token.result.0.now ≡ Some c.in-Some.verb = sym c.named.ensures ∙ c.in-Some.is in
    let b : Begins c.args.line.now c.in-Some.verb (tokens_after c.split_token.result.1) = record { first = _; short = omega arith; split = c.split_token.ensures.tokens; named = named } in
    let wrong = empty_behind c.args.line.now b.first _ c.in-Some.verb c.in-Some-first_empty.place b.split (verb_is_filled _ _ _ b) c.in-Some-first_empty.ensures.first in
    miscounted c.args.line.now b.first _ c.in-Some.verb b.short b.split named wrong

pub returns-then-given-widths-clause-fault : goal.returns-then-given-widths-clause-fault
returns-then-given-widths-clause-fault c =
    let named : verb_named c.split_token.result.0.now ≡ Some c.in-Some.verb = sym c.named.ensures ∙ c.in-Some.is in
    let b : Begins c.args.line.now c.in-Some.verb (tokens_after c.split_token.result.1) = record { first = _; short = omega arith; split = c.split_token.ensures.tokens; named = named } in
    let given = counted_behind _ _ _ c.count_tokens-given.result b c.count_tokens-given.ensures.count in
    let wrong : c.count_tokens-given.result - 1 ≢ length (row_of c.in-Some.verb).widths = λ e. c.if-given-widths.true (e ∙ sym (ap length c.widths-widths.ensures)) in
    miscounted c.args.line.now b.first _ c.in-Some.verb b.short b.split named (other_count _ c.in-Some.verb _ given wrong)

pub returns-then-given-widths-clause-place : goal.returns-then-given-widths-clause-place
returns-then-given-widths-clause-place c =
    let named : verb_named c.split_token.result.0.now ≡ Some c.in-Some.verb = sym c.named.ensures ∙ c.in-Some.is in
    let b : Begins c.args.line.now c.in-Some.verb (tokens_after c.split_token.result.1) = record { first = _; short = omega arith; split = c.split_token.ensures.tokens; named = named } in
    let given = counted_behind _ _ _ c.count_tokens-given.result b c.count_tokens-given.ensures.count in
    (tokens_after c.split_token.result.1, (is_behind _ _ _ b, (given, λ e. c.if-given-widths.true (e ∙ sym (ap length c.widths-widths.ensures)))))

pub returns-in_err-place-clause-fault : goal.returns-in_err-place-clause-fault
returns-in_err-place-clause-fault c =
    let named : verb_named c.split_token.result.0.now ≡ Some c.in-Some.verb = sym c.named.ensures ∙ c.in-Some.is in
    let b : Begins c.args.line.now c.in-Some.verb (tokens_after c.split_token.result.1) = record { first = _; short = omega arith; split = c.split_token.ensures.tokens; named = named } in
    let given = counted_behind _ _ _ c.count_tokens-given.result b c.count_tokens-given.ensures.count in
    let same : length (tokens_after c.split_token.result.1) ≡ length (row_of c.in-Some.verb).widths = sym given ∙ (c.if-given-widths.false ∙ ap length c.widths-widths.ensures) in
    let filled : list_all (λ (token : List ℕ). nat_lt 0 (length token)) (tokens_of c.args.line.now) ≡ true = c.in_default-first_empty.ensures.first in
    let values : (values : List ℕ) × (values_of (row_of c.in-Some.verb).widths (tokens_after c.split_token.result.1) ≡ Some values) =
    subst (λ ws. (values : List ℕ) × (values_of ws (tokens_after c.split_token.result.1) ≡ Some values)) c.widths-widths.ensures c.in_err-place.ensures.first in
    rw c.from_residual.ensures ((row_of c.in-Some.verb).event values.0, read_counted _ _ _ (Some values.0) b same filled values.1)

pub returns-then-is_number-clause-fault : goal.returns-then-is_number-clause-fault
returns-then-is_number-clause-fault c =
    let named : verb_named c.split_token.result.0.now ≡ Some c.in-Some.verb = sym c.named.ensures ∙ c.in-Some.is in
    let b : Begins c.args.line.now c.in-Some.verb (tokens_after c.split_token.result.1) = record { first = _; short = omega arith; split = c.split_token.ensures.tokens; named = named } in
    let given = counted_behind _ _ _ c.count_tokens-given.result b c.count_tokens-given.ensures.count in
    let same : length (tokens_after c.split_token.result.1) ≡ length (row_of c.in-Some.verb).widths = sym given ∙ (c.if-given-widths.false ∙ ap length c.widths-widths.ensures) in
    let filled : list_all (λ (token : List ℕ). nat_lt 0 (length token)) (tokens_of c.args.line.now) ≡ true = c.in_default-first_empty.ensures.first in
    let first = subst (λ ws. IsFirstMisfit ws (tokens_after c.split_token.result.1) c.in_ok-place.field-0.place c.in_ok-place.field-0.token.now c.in_ok-place.field-0.bits) c.widths-widths.ensures c.in_ok-place.ensures.first in
    read_misfit _ _ _ _ _ _ b same filled first

pub returns-then-is_number-clause-place : goal.returns-then-is_number-clause-place
returns-then-is_number-clause-place c =
    let named : verb_named c.split_token.result.0.now ≡ Some c.in-Some.verb = sym c.named.ensures ∙ c.in-Some.is in
    let b : Begins c.args.line.now c.in-Some.verb (tokens_after c.split_token.result.1) = record { first = _; short = omega arith; split = c.split_token.ensures.tokens; named = named } in
    let first = subst (λ ws. IsFirstMisfit ws (tokens_after c.split_token.result.1) c.in_ok-place.field-0.place c.in_ok-place.field-0.token.now c.in_ok-place.field-0.bits) c.widths-widths.ensures c.in_ok-place.ensures.first in
    let n = some_of (number_of c.in_ok-place.field-0.token.now) (sym c.is_number.ensures ∙ c.if-is_number.true) in
    (has_misfit _ _ _ _ _ _ b first, (n.0, n.1, too_great c.in_ok-place.field-0.bits n.0 c.in_ok-place.field-0.token.now n.1 first.misfit))

pub returns-else-is_number-clause-fault : goal.returns-else-is_number-clause-fault
returns-else-is_number-clause-fault c =
    let named : verb_named c.split_token.result.0.now ≡ Some c.in-Some.verb = sym c.named.ensures ∙ c.in-Some.is in
    let b : Begins c.args.line.now c.in-Some.verb (tokens_after c.split_token.result.1) = record { first = _; short = omega arith; split = c.split_token.ensures.tokens; named = named } in
    let given = counted_behind _ _ _ c.count_tokens-given.result b c.count_tokens-given.ensures.count in
    let same : length (tokens_after c.split_token.result.1) ≡ length (row_of c.in-Some.verb).widths = sym given ∙ (c.if-given-widths.false ∙ ap length c.widths-widths.ensures) in
    let filled : list_all (λ (token : List ℕ). nat_lt 0 (length token)) (tokens_of c.args.line.now) ≡ true = c.in_default-first_empty.ensures.first in
    let first = subst (λ ws. IsFirstMisfit ws (tokens_after c.split_token.result.1) c.in_ok-place.field-0.place c.in_ok-place.field-0.token.now c.in_ok-place.field-0.bits) c.widths-widths.ensures c.in_ok-place.ensures.first in
    read_misfit _ _ _ _ _ _ b same filled first

pub returns-else-is_number-clause-place : goal.returns-else-is_number-clause-place
returns-else-is_number-clause-place c =
    let named : verb_named c.split_token.result.0.now ≡ Some c.in-Some.verb = sym c.named.ensures ∙ c.in-Some.is in
    let b : Begins c.args.line.now c.in-Some.verb (tokens_after c.split_token.result.1) = record { first = _; short = omega arith; split = c.split_token.ensures.tokens; named = named } in
    let first = subst (λ ws. IsFirstMisfit ws (tokens_after c.split_token.result.1) c.in_ok-place.field-0.place c.in_ok-place.field-0.token.now c.in_ok-place.field-0.bits) c.widths-widths.ensures c.in_ok-place.ensures.first in
    (c.in_ok-place.field-0.bits, has_misfit _ _ _ _ _ _ b first, none_of (number_of c.in_ok-place.field-0.token.now) (sym c.is_number.ensures ∙ c.if-is_number.false))
