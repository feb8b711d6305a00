-- How a run of a judge over a whole trace text ends.
use Rattle.std.specs.Prelude.{List, []}
use Rattle.hg_model.specs.Contents.{Content}
use Rattle.hg_sets.specs.Interning.{Table}
use Rattle.hg_streams.specs.declared.call.ReadCall.{ReadCall}
use Rattle.hg_streams.specs.declared.call.WriteCall.{WriteCall}
use Rattle.hg_streams.specs.Calls.{NoneFailedSince}
use Rattle.hg_streams.specs.Holding.{IsDue}
use Rattle.hg_streams.specs.Texts.{reports_text}
use Rattle.hg_reading.specs.declared.ending.Ending.{Ending}
use Rattle.hg_reading.specs.declared.ending.Ending.TheVariants.{Ended, Refused, Bad}
use Rattle.hg_shards.specs.declared.judge.Judge.{Judge}
use Rattle.hg_shards.specs.Judging.{HasReports}
use Rattle.hg_check.specs.Printing.{ReadsTo}
use Rattle.hg_parts.specs.declared.checking.PartsChecking.{PartsChecking}
use Rattle.hg_parts.specs.Going.{At}

-- The judge stands at this content, where the run came to the end of its input. Where a line ended the run, the judge has all reports of the
-- content, and may have gone further.
abbrev pub StandsBy : Ending → Content → Judge → Type 0
StandsBy Ended c j = (table : Table) × At c table j
StandsBy (Refused line r) c j = HasReports c j
StandsBy (Bad line) c j = HasReports c j

-- A run came to this end: no read failed, the bytes that were read lead there, and all reports were written since the calls `before`, or
-- are held.
pub record Came (reads_old reads_new : List ReadCall) (before now : List WriteCall) (s : PartsChecking) (end : Ending) : Type 0 where
  pub last : Content
  pub leads : ReadsTo reads_old reads_new last end
  pub stands : StandsBy end last s.judge
  pub due : IsDue before now s.held.items [] (reports_text 1 last.reports)
  pub intact : NoneFailedSince reads_old reads_new
