use Rattle.hg_options.proofs.commands.check.Goals as goal

pub returns-clause-app : goal.returns-clause-app
returns-clause-app c =
    let with_jobs_is = c.with_argument-with_jobs.ensures.app c.option.ensures.local _ _ c.command-begun.ensures.app c.option.ensures.rule in
    let with_status_is = c.with_argument-with_status.ensures.app c.option-2.ensures.local _ _ with_jobs_is c.option-2.ensures.rule in
    c.with_argument.ensures.app c.flag.ensures.local _ _ with_status_is c.flag.ensures.rule

pub returns-clause-local : goal.returns-clause-local
returns-clause-local c =
    let with_jobs_is = c.with_argument-with_jobs.ensures.local c.command-begun.ensures.local c.option.ensures.local in
    let with_status_is = c.with_argument-with_status.ensures.local with_jobs_is c.option-2.ensures.local in
    c.with_argument.ensures.local with_status_is c.flag.ensures.local
