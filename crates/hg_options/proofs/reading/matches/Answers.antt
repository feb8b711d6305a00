use Rattle.std.proofs.Common.{◌≡◌, IfOk, true, refl, subst}
use Rattle.clap.specs.Words.{App, FailsBy, HasMatchesOf, fault_of, is_simple_and_free}
use Rattle.clap.proofs.OnLiterals.{clap_on_literals}
use Rattle.hg_options.specs.CommandLine as spec
use Rattle.hg_options.specs.Tools.{texts}
use Rattle.hg_options.proofs.reading.matches.Goals as goal

is_simple : is_simple_and_free spec.hgd ≡ true
unfolding clap_on_literals
is_simple = refl

pub returns-clause-matches : goal.returns-clause-matches
returns-clause-matches c =
    subst (λ (a : App). IfOk c.try_get_matches_from.result (HasMatchesOf a (texts c.args.words.now))) c.in_ok-hgd.ensures.app c.try_get_matches_from.ensures.matches

pub returns-clause-kinds : goal.returns-clause-kinds
returns-clause-kinds c =
    subst (λ (a : App). is_simple_and_free a ≡ true → FailsBy (fault_of a (texts c.args.words.now)) c.try_get_matches_from.result) c.in_ok-hgd.ensures.app c.try_get_matches_from.ensures.kinds is_simple
