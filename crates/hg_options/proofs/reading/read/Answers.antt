use Rattle.clap.specs.Words.{fault_of, subcommand_of}
use Rattle.hg_options.specs.CommandLine as spec
use Rattle.hg_options.specs.Tools.{texts}
use Rattle.hg_options.proofs.reading.read.Goals as goal

pub returns-in-Err : goal.returns-in-Err
returns-in-Err c =
    c.misread.ensures (fault_of spec.hgd (texts c.args.words.now)) (subcommand_of spec.hgd (texts c.args.words.now)) c.in-Err.ensures.kinds
