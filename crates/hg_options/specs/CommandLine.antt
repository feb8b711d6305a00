-- The command line of `hgd`, as data: its commands, their arguments and options. What a text of such a command line means, by
-- the rules of options and arguments that its users know, is `subcommand_of` of the crate clap.
use Rattle.std.specs.Prelude.{Bool, true, false, Some, [], ◌∷◌, codes, pos}
use Rattle.clap.specs.Words.{App, Rule, Text, new_app, new_rule, with_rule, with_subcommand}
use Rattle.clap.specs.declared.builder.action.ArgAction.TheVariants.{SetTrue}
use Rattle.clap.specs.declared.builder.value_parser.ValueParser.TheVariants as parser
use Rattle.hg_model.specs.declared.limits.TheConstants.{GREATEST_SOURCE}
use Rattle.hg_options.specs.declared.limits.TheConstants.{GREATEST_STATUS, LEAST_FRAMES, MOST_CONNECTIONS, MOST_EVERY, MOST_FRAMES, MOST_JOBS, MOST_RACE, MOST_SILENCE, MOST_WORKERS}

-- a store's directory: any text but the empty one
abbrev pub directory : Bool → Rule
directory required = record (new_rule (codes "DIR")) {
  required = required;
  parser = Some parser.NonEmptyString;
}

-- a source: 0 to 1,023
abbrev pub source : Rule
source = record (new_rule (codes "SOURCE")) {
  required = true;
  parser = Some (parser.Signed (pos 0) (pos GREATEST_SOURCE));
}

-- a flag
abbrev pub flag : Text → Rule
flag name = record (new_rule name) {
  long = Some name;
  action = Some SetTrue;
}

-- an option that has a value
abbrev pub option : Text → Rule
option name = record (new_rule name) {
  long = Some name;
  value_names = 1;
}

-- that a checkpoint is made at the end
abbrev pub checkpoint : Rule
checkpoint = flag (codes "checkpoint")

-- how many pages of words may be in memory: 4 to 4,096, and 64 where nothing is said
abbrev pub frames : Rule
frames = record (option (codes "frames")) {
  parser = Some (parser.Signed (pos LEAST_FRAMES) (pos MOST_FRAMES));
  defaults = codes "64" ∷ [];
}

-- the port that a server listens on, or `unix`
abbrev pub port : Rule
port = record (new_rule (codes "PORT")) {
  required = true;
  parser = Some parser.NonEmptyString;
}

-- how many connections a server takes
abbrev pub connections : Rule
connections = record (option (codes "connections")) {
  required = true;
  parser = Some (parser.Signed (pos 1) (pos MOST_CONNECTIONS));
}

-- how many conversations it holds at once
abbrev pub workers : Rule
workers = record (option (codes "workers")) {
  required = true;
  parser = Some (parser.Signed (pos 1) (pos MOST_WORKERS));
}

-- after how many committed events a checkpoint begins: 1 to 1,048,576, and 4,096 where nothing is said
abbrev pub every : Rule
every = record (option (codes "every")) {
  parser = Some (parser.Signed (pos 1) (pos MOST_EVERY));
  defaults = codes "4096" ∷ [];
}

-- how many seconds a client may be silent
abbrev pub silence : Rule
silence = record (option (codes "silence")) {
  parser = Some (parser.Signed (pos 1) (pos MOST_SILENCE));
}

-- how many threads read a trace: 1 to 64, and 1 where nothing is said
abbrev pub jobs : Rule
jobs = record (option (codes "jobs")) {
  parser = Some (parser.Signed (pos 1) (pos MOST_JOBS));
  defaults = codes "1" ∷ [];
}

-- the status where races are counted: 1 to 255
abbrev pub error_exitcode : Rule
error_exitcode = record (option (codes "error-exitcode")) {
  parser = Some (parser.Signed (pos 1) (pos GREATEST_STATUS));
}

-- the address of a word, whose text is read as one of a trace; or, with `--race`, the directory of a store
abbrev pub address : Rule
address = record (new_rule (codes "ADDRESS")) {
  parser = Some parser.NonEmptyString;
}

-- the number of a report: 1 to 2 ^ 32 - 1
abbrev pub race : Rule
race = record (option (codes "race")) {
  parser = Some (parser.Signed (pos 1) (pos MOST_RACE));
}

-- that each line is printed
abbrev pub all : Rule
all = flag (codes "all")

-- that the last line is told in words
abbrev pub verbose : Rule
verbose = flag (codes "verbose")

abbrev pub check : App
check = with_rule (with_rule (with_rule (new_app (codes "check")) jobs) error_exitcode) verbose

abbrev pub graph : App
graph = with_rule (with_rule (with_rule (new_app (codes "graph")) (directory false)) jobs) verbose

abbrev pub explain : App
explain = with_rule (with_rule (with_rule (with_rule (new_app (codes "explain")) address) (directory false)) race) all

abbrev pub create : App
create = with_rule (new_app (codes "create")) (directory true)

abbrev pub reports : App
reports = with_rule (with_rule (with_rule (with_rule (new_app (codes "reports")) (directory true)) frames) error_exitcode) verbose

abbrev pub feed : App
feed = with_rule (with_rule (with_rule (with_rule (with_rule (with_rule (new_app (codes "feed")) (directory true)) source) checkpoint) frames) jobs) verbose

abbrev pub serve : App
serve = with_rule (with_rule (with_rule (with_rule (with_rule (with_rule (with_rule (with_rule (new_app (codes "serve")) (directory true)) port)
    connections) workers) frames) every) silence) verbose

abbrev pub migrate : App
migrate = with_rule (new_app (codes "migrate")) (directory true)

-- `hgd --version` tells the version, and one of the commands is wanted
abbrev pub start : App
start = let new = new_app (codes "hgd") in
    record new { top = record new.top { has_version = true; subcommand_required = true } }

-- `hgd` and its commands
abbrev pub hgd : App
hgd = with_subcommand (with_subcommand (with_subcommand (with_subcommand (with_subcommand (with_subcommand (with_subcommand
    (with_subcommand start check.top) graph.top) explain.top) create.top) feed.top) reports.top) serve.top) migrate.top
