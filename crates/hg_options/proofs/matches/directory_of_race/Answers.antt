use Rattle.std.proofs.Common.{◌≡◌, None, codes, ◌∙◌, sym, inl}
use Rattle.std.proofs.lemmas.Result.{IfOk-weaker}
use Rattle.clap.specs.Words.{first_of, found_of, rows_of}
use Rattle.clap.proofs.WalkLemmas.{first_value-rows}
use Rattle.hg_options.proofs.matches.directory_of_race.Goals as goal

pub returns-in-Some-clause-none : goal.returns-in-Some-clause-none
returns-in-Some-clause-none c = inl (c.in-Some._second.now, sym (c.in-Some.ensures ∙ first_value-rows (found_of c.args.given.now) (codes "DIR")))

pub returns-in-None-clause-store : goal.returns-in-None-clause-store
returns-in-None-clause-store c =
    let none : None ≡ first_of (codes "DIR") (rows_of (found_of c.args.given.now)) = c.in-None.ensures ∙ first_value-rows (found_of c.args.given.now) (codes "DIR") in
    IfOk-weaker c.first_directory.result _ _ (λ directory first. (sym none, first)) c.first_directory.ensures.first
