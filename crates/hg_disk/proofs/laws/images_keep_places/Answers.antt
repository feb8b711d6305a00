use Rattle.hg_disk.proofs.Certain.{left_before, left_behind, left_long}
use Rattle.hg_disk.proofs.laws.images_keep_places.Goals as goal

pub returns-clause-write_behind : goal.returns-clause-write_behind
returns-clause-write_behind c = left_behind

pub returns-clause-write_before : goal.returns-clause-write_before
returns-clause-write_before c = left_before

pub returns-clause-long : goal.returns-clause-long
returns-clause-long c = left_long
