-- The content of a store that is fed, on the way of what was read.
use Rattle.std.proofs.Common.{◌≡◌, ℕ, List, [], refl, sym, subst}
use Rattle.hg_streams.specs.declared.call.ReadCall.{ReadCall}
use Rattle.hg_model.specs.Contents.{Content}
use Rattle.hg_sets.specs.Interning.{Table}
use Rattle.hg_wire.specs.Streams.{readings}
use Rattle.hg_commands.specs.FeedRunning.{LiesOnWayOfAny}

-- nothing was read yet
pub way_at_start : (source : ℕ) (table : Table) (first : Content) (reads : List ReadCall) → LiesOnWayOfAny source table first reads reads first
way_at_start source table first reads = record {
  later = [];
  since = refl;
  way = λ input last end room m l. record {
    passed = [];
    rest = readings input;
    all = refl;
    before = (refl, refl);
    between = table;
    behind = l;
  };
}

-- the content stayed since
pub way_same : (source : ℕ) (table : Table) (first c d : Content) (reads now : List ReadCall) → d ≡ c → LiesOnWayOfAny source table first reads now c → LiesOnWayOfAny source table first reads now d
way_same source table first c d reads now same way = subst (λ (x : Content). LiesOnWayOfAny source table first reads now x) (sym same) way
