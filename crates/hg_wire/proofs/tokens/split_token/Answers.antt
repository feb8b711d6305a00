use Rattle.hg_wire.proofs.TokenLemmas.{no_space, first_token_ends}
use Rattle.hg_wire.proofs.tokens.split_token.Goals as goal

pub returns-in-None-clause-tokens : goal.returns-in-None-clause-tokens
returns-in-None-clause-tokens c = no_space c.args.line.now c.in-None.ensures

pub returns-in-Some-clause-tokens : goal.returns-in-Some-clause-tokens
returns-in-Some-clause-tokens c = first_token_ends c.args.line.now c.in-Some.at c.in-Some.ensures
