use Rattle.hg_options.proofs.commands.feed.Goals as goal

pub returns-clause-app : goal.returns-clause-app
returns-clause-app c =
    let of_store_is = c.with_argument-of_store.ensures.app c.directory.ensures.local _ _ c.command-begun.ensures.app c.directory.ensures.rule in
    let from_source_is = c.with_argument-from_source.ensures.app c.number-source.ensures.local _ _ of_store_is c.number-source.ensures.rule in
    let with_checkpoint_is = c.with_argument-with_checkpoint.ensures.app c.flag.ensures.local _ _ from_source_is c.flag.ensures.rule in
    let with_frames_is = c.with_argument-with_frames.ensures.app c.option.ensures.local _ _ with_checkpoint_is c.option.ensures.rule in
    let with_jobs_is = c.with_argument-with_jobs.ensures.app c.option-2.ensures.local _ _ with_frames_is c.option-2.ensures.rule in
    c.with_argument.ensures.app c.flag-2.ensures.local _ _ with_jobs_is c.flag-2.ensures.rule

pub returns-clause-local : goal.returns-clause-local
returns-clause-local c =
    let of_store_is = c.with_argument-of_store.ensures.local c.command-begun.ensures.local c.directory.ensures.local in
    let from_source_is = c.with_argument-from_source.ensures.local of_store_is c.number-source.ensures.local in
    let with_checkpoint_is = c.with_argument-with_checkpoint.ensures.local from_source_is c.flag.ensures.local in
    let with_frames_is = c.with_argument-with_frames.ensures.local with_checkpoint_is c.option.ensures.local in
    let with_jobs_is = c.with_argument-with_jobs.ensures.local with_frames_is c.option-2.ensures.local in
    c.with_argument.ensures.local with_jobs_is c.flag-2.ensures.local
