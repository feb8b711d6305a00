use Rattle.std.proofs.Common.{◌+◌, length}
use Rattle.hg_gate.specs.declared.based.TheConstants.{MAX_BASE}
use Rattle.hg_journals.specs.Attaching.{file_after}
use Rattle.hg_journals.proofs.Finding.{read_on}
use Rattle.hg_journals.proofs.count.read_file.Goals as goal

pub returns-in-Ok-Open-clause-disk : goal.returns-in-Ok-Open-clause-disk
returns-in-Ok-Open-clause-disk g c =
    read_on g.D.Disk (length (g.D.Disk.state c.args.disk).contents) (MAX_BASE + 2) c.args.disk (file_after c.read_open.result) c.in-Ok-Open.field-0 c.in-Ok-Open.base c.in-Ok-Open.journal c.in-Ok-Open.field-0-is c.in-Ok-Open.ensures.disk c.read_open.ensures.disk
