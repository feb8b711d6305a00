use Rattle.std.proofs.Common.{◌≡◌, Some, codes, ◌∙◌, sym, ap}
use Rattle.clap.specs.Words.{first_of, found_of, rows_of}
use Rattle.clap.proofs.WalkLemmas.{first_value-rows}
use Rattle.hg_wire.specs.Lines.{operand_of}
use Rattle.hg_options.proofs.matches.word_at.Goals as goal

pub returns-in_default-clause-none : goal.returns-in_default-clause-none
returns-in_default-clause-none c = sym (c.in_default.ensures ∙ first_value-rows (found_of c.args.given.now) (codes "ADDRESS"))

pub returns-in-Some-number_of_token-clause-word : goal.returns-in-Some-number_of_token-clause-word
returns-in-Some-number_of_token-clause-word c =
    let is : Some c.in-Some.text.now ≡ first_of (codes "ADDRESS") (rows_of (found_of c.args.given.now)) = c.in-Some.ensures ∙ first_value-rows (found_of c.args.given.now) (codes "ADDRESS") in
    (c.in-Some.text.now, sym is, ap (operand_of 64) (sym c.as_bytes.ensures.value) ∙ (sym c.number_of_token.ensures ∙ c.in-Some-number_of_token.is))

pub returns-in-None-clause-none : goal.returns-in-None-clause-none
returns-in-None-clause-none c =
    let is : Some c.in-Some.text.now ≡ first_of (codes "ADDRESS") (rows_of (found_of c.args.given.now)) = c.in-Some.ensures ∙ first_value-rows (found_of c.args.given.now) (codes "ADDRESS") in
    (c.in-Some.text.now, sym is, ap (operand_of 64) (sym c.as_bytes.ensures.value) ∙ (sym c.number_of_token.ensures ∙ c.in-None.is))
