use Rattle.hg_disk.proofs.Keeping.{read_held, holds_written, holds_write_behind, holds_write_before, holds_cut}
use Rattle.hg_disk.proofs.laws.places_read.Goals as goal

pub returns : goal.returns
returns c = record { read = read_held; written = holds_written; write_behind = holds_write_behind; write_before = holds_write_before; cut = holds_cut }
