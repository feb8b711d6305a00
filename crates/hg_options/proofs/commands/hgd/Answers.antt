use Rattle.hg_options.proofs.commands.hgd.Goals as goal

pub returns-clause-app : goal.returns-clause-app
returns-clause-app c =
    let checking_is = c.with_command-checking.ensures.app c.check.ensures.local _ _ c.start.ensures.app c.check.ensures.app in
    let graphing_is = c.with_command-graphing.ensures.app c.graph.ensures.local _ _ checking_is c.graph.ensures.app in
    let explaining_is = c.with_command-explaining.ensures.app c.explain.ensures.local _ _ graphing_is c.explain.ensures.app in
    let creating_is = c.with_command-creating.ensures.app c.create.ensures.local _ _ explaining_is c.create.ensures.app in
    let feeding_is = c.with_command-feeding.ensures.app c.feed.ensures.local _ _ creating_is c.feed.ensures.app in
    let reporting_is = c.with_command-reporting.ensures.app c.reports.ensures.local _ _ feeding_is c.reports.ensures.app in
    let serving_is = c.with_command-serving.ensures.app c.serve.ensures.local _ _ reporting_is c.serve.ensures.app in
    c.with_command.ensures.app c.migrate.ensures.local _ _ serving_is c.migrate.ensures.app

pub returns-clause-local : goal.returns-clause-local
returns-clause-local c =
    let checking_is = c.with_command-checking.ensures.local c.start.ensures.local c.check.ensures.local in
    let graphing_is = c.with_command-graphing.ensures.local checking_is c.graph.ensures.local in
    let explaining_is = c.with_command-explaining.ensures.local graphing_is c.explain.ensures.local in
    let creating_is = c.with_command-creating.ensures.local explaining_is c.create.ensures.local in
    let feeding_is = c.with_command-feeding.ensures.local creating_is c.feed.ensures.local in
    let reporting_is = c.with_command-reporting.ensures.local feeding_is c.reports.ensures.local in
    let serving_is = c.with_command-serving.ensures.local reporting_is c.serve.ensures.local in
    c.with_command.ensures.local serving_is c.migrate.ensures.local
