use Rattle.hg_options.proofs.commands.migrate.Goals as goal

pub returns-clause-app : goal.returns-clause-app
returns-clause-app c =
    c.with_argument.ensures.app c.directory.ensures.local _ _ c.command-begun.ensures.app c.directory.ensures.rule

pub returns-clause-local : goal.returns-clause-local
returns-clause-local c =
    c.with_argument.ensures.local c.command-begun.ensures.local c.directory.ensures.local
