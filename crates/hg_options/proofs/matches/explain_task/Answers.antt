use Rattle.std.proofs.Common.{codes, ◌∙◌, sym, refl}
use Rattle.clap.specs.Words.{found_of}
use Rattle.clap.proofs.WalkLemmas.{first_value-rows}
use Rattle.hg_options.proofs.matches.explain_task.Goals as goal

pub returns-in_ok-address-in-None : goal.returns-in_ok-address-in-None
returns-in_ok-address-in-None c =
    (refl, ((c.in-None.ensures, c.in_ok-address-in-None.ensures.word, sym (c.get_str.ensures ∙ first_value-rows (found_of c.args.given.now) (codes "DIR"))), c.is_set-all.ensures))
