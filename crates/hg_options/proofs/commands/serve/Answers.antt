use Rattle.hg_options.proofs.commands.serve.Goals as goal

pub returns-clause-app : goal.returns-clause-app
returns-clause-app c =
    let of_store_is = c.with_argument-of_store.ensures.app c.directory.ensures.local _ _ c.introduced-begun.ensures.app c.directory.ensures.rule in
    let at_port_is = c.with_argument-at_port.ensures.app c.place.ensures.local _ _ of_store_is c.place.ensures.rule in
    let with_connections_is = c.with_argument-with_connections.ensures.app c.option.ensures.local _ _ at_port_is c.option.ensures.rule in
    let with_workers_is = c.with_argument-with_workers.ensures.app c.option-2.ensures.local _ _ with_connections_is c.option-2.ensures.rule in
    let with_frames_is = c.with_argument-with_frames.ensures.app c.option-3.ensures.local _ _ with_workers_is c.option-3.ensures.rule in
    let with_every_is = c.with_argument-with_every.ensures.app c.option-4.ensures.local _ _ with_frames_is c.option-4.ensures.rule in
    let with_silence_is = c.with_argument-with_silence.ensures.app c.option-5.ensures.local _ _ with_every_is c.option-5.ensures.rule in
    c.with_argument.ensures.app c.flag.ensures.local _ _ with_silence_is c.flag.ensures.rule

pub returns-clause-local : goal.returns-clause-local
returns-clause-local c =
    let of_store_is = c.with_argument-of_store.ensures.local c.introduced-begun.ensures.local c.directory.ensures.local in
    let at_port_is = c.with_argument-at_port.ensures.local of_store_is c.place.ensures.local in
    let with_connections_is = c.with_argument-with_connections.ensures.local at_port_is c.option.ensures.local in
    let with_workers_is = c.with_argument-with_workers.ensures.local with_connections_is c.option-2.ensures.local in
    let with_frames_is = c.with_argument-with_frames.ensures.local with_workers_is c.option-3.ensures.local in
    let with_every_is = c.with_argument-with_every.ensures.local with_frames_is c.option-4.ensures.local in
    let with_silence_is = c.with_argument-with_silence.ensures.local with_every_is c.option-5.ensures.local in
    c.with_argument.ensures.local with_silence_is c.flag.ensures.local
