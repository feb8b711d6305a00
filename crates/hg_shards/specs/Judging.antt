-- All parts of a trace as one detector, which judges batches of events.
use Rattle.std.specs.Prelude.{◌≡◌, ◌⊎◌, ℕ, ◌+◌, ◌^◌, ◌<◌, ◌≤◌, Bool, false, nat_lt, List, [], ◌∷◌, ◌++◌, length, take, slice_get, Option, Some, None}
use Rattle.hg_model.specs.declared.event.Named.{Named}
use Rattle.hg_model.specs.declared.verdict.Refusal.TheVariants.{FullSets}
use Rattle.hg_model.specs.declared.verdict.Verdict.TheVariants as verdicts
use Rattle.hg_model.specs.Contents.{Content, events_of, summary}
use Rattle.hg_model.specs.Change.{after}
use Rattle.hg_model.specs.Verdicts.{IsAccepted, standing_of, verdict}
use Rattle.hg_sets.specs.Interning.{Table}
use Rattle.hg_sets.specs.declared.fault.SetFault.TheVariants.{Full}
use Rattle.hg_detect.specs.Making.{Asks, sets_asked}
use Rattle.hg_model.specs.declared.report.Report.{Report}
use Rattle.hg_shards.specs.declared.cursor.Cursor.{Cursor}
use Rattle.hg_shards.specs.declared.judge.Judge.{Judge}
use Rattle.hg_shards.specs.declared.shard.Shard.{Shard}
use Rattle.hg_shards.specs.declared.shards.Cause.{Cause}
use Rattle.hg_shards.specs.declared.shards.Cause.TheVariants as causes
use Rattle.hg_shards.specs.declared.shards.Stop.{Stop}
use Rattle.hg_model.specs.declared.event.Event.{Event}
use Rattle.hg_shards.specs.declared.routes.Routes.{Routes}
use Rattle.hg_shards.specs.Asking.{HasSets, anywhere, asked}
use Rattle.hg_shards.specs.Filling.{IsFirstFull}
use Rattle.hg_shards.specs.Following.{named}
use Rattle.hg_shards.specs.Pushing.{IsRouted}
use Rattle.hg_shards.specs.Stopping.{accepted_of, is_for_memory, one_stop}
use Rattle.hg_shards.specs.Reading.{HasRead, ReadsNext}
use Rattle.hg_shards.specs.Sharding.{Follows, GoesOn, HasOwnSets}
use Rattle.hg_shards.specs.Together.{HasTaken}

-- ---- one detector with one table of sets

-- From this content and table one detector accepts the events in order, and they lead to the last content and table: each is accepted
-- by the rules, and the table takes the sets that it asks for.
abbrev pub Accepts : List Named → Content → Table → Content → Table → Type 0
Accepts [] c table last filled = (last ≡ c) × (filled ≡ table)
Accepts (n ∷ events) c table last filled =
    (verdict (standing_of c) n ≡ verdicts.Accept) × (mid : Table) × Asks table (sets_asked c n.event) None mid × Accepts events (after c n) mid last filled

-- The rules accept the event after this content, and the table is full before it has all sets that the event asks for.
abbrev pub IsFullAt : Content → Table → Named → Type 0
IsFullAt c table n = (verdict (standing_of c) n ≡ verdicts.Accept) × (left : Table) × Asks table (sets_asked c n.event) (Some Full) left

-- After this content, with this table, one detector does not accept the event, for this cause. The rules decide first.
abbrev pub StopsFor : Content → Table → Named → Cause → Type 0
StopsFor c table n (causes.Duplicate last) = verdict (standing_of c) n ≡ verdicts.Duplicate last
StopsFor c table n (causes.Refused r) = (verdict (standing_of c) n ≡ verdicts.Refuse r) ⊎ ((r ≡ FullSets) × IsFullAt c table n)

-- ---- the shards of all parts

-- The shard is that of part k, of so many, and P holds of it.
pub record IsPart (P : Shard → Type 0) (count k : ℕ) (s : Shard) : Type 0 where
  pub count_is : s.count ≡ count
  pub part_is : s.part ≡ k
  pub has : P s

-- The shards are those of the parts from k on, of so many, in order, and P holds of each.
abbrev pub ArePartsFrom : (Shard → Type 0) → ℕ → ℕ → List Shard → Type 0
ArePartsFrom P count k [] = k ≡ count
ArePartsFrom P count k (s ∷ shards) = IsPart P count k s × ArePartsFrom P count (k + 1) shards

-- The shards are those of all parts, one at least, in order, and P holds of each.
abbrev pub AreAllParts : (Shard → Type 0) → List Shard → Type 0
AreAllParts P shards = (0 < length shards) × ArePartsFrom P (length shards) 0 shards

-- The shard follows the trace, and has its own sets of it.
abbrev pub KnowsTrace : ℕ → List Named → Shard → Type 0
KnowsTrace limit trace s = Follows trace s × HasOwnSets limit trace s

-- The judge was offered the accepted events of a trace. It counts these, and some of its shards may have gone further.
pub record HasJudged (trace : List Named) (j : Judge) : Type 0 where
  pub accepted : IsAccepted trace
  pub count : j.events ≡ length trace
  pub parts : AreAllParts (GoesOn trace) j.shards.shards.items

-- The judge stands at this content, as one detector with this table would: the content is that of a trace which each shard follows
-- to its end, and the table has the sets that this trace asks for. The sets that the judge took together are those that were made first.
pub record IsAt (c : Content) (table : Table) (j : Judge) : Type 0 where
  pub trace : List Named
  pub content : c ≡ summary trace
  pub judged : HasJudged trace j
  pub parts : AreAllParts (KnowsTrace j.limit trace) j.shards.shards.items
  pub sets : HasSets j.limit (asked anywhere (events_of trace)) table
  pub taken : HasTaken j.limit j.shards.shards.items j.taking

-- The judge has all reports of this content. Some of its shards may have gone further: then it can't go on.
pub record HasReports (c : Content) (j : Judge) : Type 0 where
  pub trace : List Named
  pub content : c ≡ summary trace
  pub judged : HasJudged trace j

-- ---- what a batch leads to

-- One detector accepts all events of the batch, and the judge stands where it does then.
pub record AcceptsAll (c : Content) (table : Table) (events : List Named) (new : Judge) : Type 0 where
  pub last : Content
  pub filled : Table
  pub accepts : Accepts events c table last filled
  pub is_at : IsAt last filled new

-- One detector accepts the events of the batch before the stop. It does not accept the event at the stop, for that cause.
pub record StopsAt (c : Content) (table : Table) (events : List Named) (stop : Stop) (new : Judge) : Type 0 where
  pub last : Content
  pub filled : Table
  pub accepts : Accepts (take stop.place events) c table last filled
  pub next : Named
  pub is_there : slice_get events stop.place ≡ Some next
  pub stops : StopsFor last filled next stop.cause
  pub reports : HasReports last new

-- what a batch leads to from this content and table
abbrev pub LeadsBy : Content → Table → List Named → Option Stop → Judge → Type 0
LeadsBy c table events None new = AcceptsAll c table events new
LeadsBy c table events (Some stop) new = StopsAt c table events stop new

-- A batch is offered to a judge: what one detector would answer where the judge stands is answered.
abbrev pub Judges : Judge → List Named → Option Stop → Judge → Type 0
Judges old events stop new = (c : Content) (table : Table) → IsAt c table old → LeadsBy c table events stop new

-- The stop of a batch of so many events, by the first stop of the shards that were offered it.
pub record Concludes (old : Judge) (count : ℕ) (first : Option Stop) (stop : Option Stop) (new : Judge) : Type 0 where
  pub found : Option ℕ
  pub full : HasTaken old.limit old.shards.shards.items old.taking → IsFirstFull old.limit old.shards.shards.items found
  pub taken : HasTaken old.limit old.shards.shards.items old.taking → HasTaken old.limit old.shards.shards.items new.taking
  pub stop_is : (events : List Named) → length events ≡ count → stop ≡ one_stop old.events events first found
  pub counts : (events : List Named) → length events ≡ count → old.events + accepted_of events stop < 2 ^ 64 → new.events ≡ old.events + accepted_of events stop
  pub no_memory : is_for_memory stop ≡ false

-- A batch in lists is offered to a judge, whose events the source numbers from `first` on: what one detector would answer is answered.
abbrev pub JudgesRoutes : Judge → ℕ → ℕ → Routes → Option Stop → Judge → Type 0
JudgesRoutes old source first routes stop new =
    (events : List Event) → IsRouted events routes → first + length events ≤ 2 ^ 64 → Judges old (named source first events) stop new

-- ---- the reports

-- how many parts a judge has
abbrev pub parts_of : Judge → ℕ
parts_of j = length j.shards.shards.items

-- A report is read of shards that follow a trace of so many events, or go further: the next one of those that one detector keeps.
abbrev pub ReadsFrom : List Shard → ℕ → Cursor → Option Report → Cursor → Type 0
ReadsFrom shards last old found new =
    (trace : List Named) (front rest : List Report) → last ≡ length trace → AreAllParts (GoesOn trace) shards → HasRead (length shards) front old
    → (summary trace).reports ≡ front ++ rest → ReadsNext (length shards) front rest found new

-- The same of a judge, whose content has the reports that were read, and these behind them.
abbrev pub NextReport : Judge → Cursor → Option Report → Cursor → Type 0
NextReport j old found new =
    (c : Content) (front rest : List Report) → HasReports c j → HasRead (parts_of j) front old → c.reports ≡ front ++ rest
    → ReadsNext (parts_of j) front rest found new

-- Shards that follow a trace of so many events, or go further, tell whether the trace has reports.
abbrev pub TellsRaces : List Shard → ℕ → Bool → Type 0
TellsRaces shards last answer = (trace : List Named) → last ≡ length trace → AreAllParts (GoesOn trace) shards → answer ≡ nat_lt 0 (summary trace).total
