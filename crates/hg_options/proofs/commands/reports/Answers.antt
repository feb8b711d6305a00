use Rattle.hg_options.proofs.commands.reports.Goals as goal

pub returns-clause-app : goal.returns-clause-app
returns-clause-app c =
    let of_store_is = c.with_argument-of_store.ensures.app c.directory.ensures.local _ _ c.command-begun.ensures.app c.directory.ensures.rule in
    let with_frames_is = c.with_argument-with_frames.ensures.app c.option.ensures.local _ _ of_store_is c.option.ensures.rule in
    let with_status_is = c.with_argument-with_status.ensures.app c.option-2.ensures.local _ _ with_frames_is c.option-2.ensures.rule in
    c.with_argument.ensures.app c.flag.ensures.local _ _ with_status_is c.flag.ensures.rule

pub returns-clause-local : goal.returns-clause-local
returns-clause-local c =
    let of_store_is = c.with_argument-of_store.ensures.local c.command-begun.ensures.local c.directory.ensures.local in
    let with_frames_is = c.with_argument-with_frames.ensures.local of_store_is c.option.ensures.local in
    let with_status_is = c.with_argument-with_status.ensures.local with_frames_is c.option-2.ensures.local in
    c.with_argument.ensures.local with_status_is c.flag.ensures.local
