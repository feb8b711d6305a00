use Rattle.hg_records.proofs.RecordLemmas.{one_list}
use Rattle.hg_records.proofs.laws.record_lists_are_unique.Goals as goal

pub returns : goal.returns
returns c = one_list
