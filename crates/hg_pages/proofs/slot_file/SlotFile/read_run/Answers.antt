use Rattle.hg_pages.specs.Files.{known}
use Rattle.hg_pages.proofs.Runs.{on_front}
use Rattle.hg_pages.proofs.slot_file.SlotFile.read_run.Goals as goal

pub returns-clause-read : goal.returns-clause-read
returns-clause-read g c honest = on_front c.fill.result c.args.first c.args.count c.fill.new.bytes _ (known g.D.Disk c.args.self.now) c.fill.ensures.length (c.fill.ensures.read honest)
