-- What a root that was read stands for.
use Rattle.std.specs.Prelude.{◌≡◌, length}
use Rattle.hg_model.specs.Messages.{Agrees}
use Rattle.hg_sets.specs.Interning.{AreSets}
use Rattle.hg_sets.specs.declared.table.TheConstants.{MOST_SETS}
use Rattle.hg_root.specs.declared.root.Root.{Root}
use Rattle.hg_root.specs.Checking.{HaveLast}
use Rattle.hg_root.specs.Parts.{Parts}

-- its parts
abbrev pub parts_of : Root → Parts
parts_of r =
    record {
      number = r.number;
      events = r.state.events;
      segments = r.segments.items;
      threads = r.state.threads;
      sets = r.sets.sets;
      total = r.total;
      reports = r.reports.items;
      sources = r.sources.items;
      pages = r.pages.items;
    }

-- The trace state has the count and the messages of the segments and the last numbers of the sources, and the table of sets is one.
pub record IsWhole (r : Root) : Type 0 where
  pub segments : r.state.segments ≡ length r.segments.items
  pub messages : Agrees r.segments.items r.state.messages
  pub last : HaveLast r.sources.items r.state.last
  pub limit : r.sets.limit ≡ MOST_SETS
  pub sets : AreSets r.sets
