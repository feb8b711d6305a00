use Rattle.hg_options.proofs.commands.explain.Goals as goal

pub returns-clause-app : goal.returns-clause-app
returns-clause-app c =
    let of_word_is = c.with_argument-of_word.ensures.app c.address.ensures.local _ _ c.command-begun.ensures.app c.address.ensures.rule in
    let of_store_is = c.with_argument-of_store.ensures.app c.directory.ensures.local _ _ of_word_is c.directory.ensures.rule in
    let of_race_is = c.with_argument-of_race.ensures.app c.option.ensures.local _ _ of_store_is c.option.ensures.rule in
    c.with_argument.ensures.app c.flag.ensures.local _ _ of_race_is c.flag.ensures.rule

pub returns-clause-local : goal.returns-clause-local
returns-clause-local c =
    let of_word_is = c.with_argument-of_word.ensures.local c.command-begun.ensures.local c.address.ensures.local in
    let of_store_is = c.with_argument-of_store.ensures.local of_word_is c.directory.ensures.local in
    let of_race_is = c.with_argument-of_race.ensures.local of_store_is c.option.ensures.local in
    c.with_argument.ensures.local of_race_is c.flag.ensures.local
