use Rattle.std.proofs.Common.{sym, ◌∙◌}
use Rattle.hg_records.proofs.RecordLemmas.{one_record}
use Rattle.hg_records.proofs.laws.records_are_unique.Goals as goal

pub returns : goal.returns
returns c bytes a b x y first second = one_record a b x y first.0 second.0 (sym first.1 ∙ second.1)
