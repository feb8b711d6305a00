use Rattle.hg_check.proofs.Races.{races_others, races_told}
use Rattle.hg_check.proofs.explain.laws.races_are_the_reports.Goals as goal

pub returns : goal.returns
returns c = record { told = races_told; others = races_others }
