-- The table and the log of a shard, which grow at their ends.
use Rattle.std.proofs.Common.{ℕ, ◌<◌, List, [], ◌++◌, sym, ap, ◌∙◌, arith, append-nil, append_assoc}
use Rattle.hg_shards.specs.declared.shard.Shard.{Shard}
use Rattle.hg_shards.specs.Sharding.{GrowsTo}
use Rattle.hg_shards.proofs.Logging.{all_both, all_weaker}

pub grows_not : (s : Shard) → GrowsTo s s
grows_not s =
    record { events = omega arith; more_sets = []; sets = sym (append-nil s.detector.sets.sets); more_events = []; log = sym (append-nil s.log.events); later = tt }

pub grows_on : (first mid last : Shard) → GrowsTo first mid → GrowsTo mid last → GrowsTo first last
grows_on first mid last g h =
    record {
      events = let one = g.events in let two = h.events in omega (arith, one, two);
      more_sets = g.more_sets ++ h.more_sets;
      sets = h.sets ∙ ap (λ (sets : List (List ℕ)). sets ++ h.more_sets) g.sets ∙ append_assoc first.detector.sets.sets g.more_sets h.more_sets;
      more_events = g.more_events ++ h.more_events;
      log = h.log ∙ ap (λ (events : List ℕ). events ++ h.more_events) g.log ∙ append_assoc first.log.events g.more_events h.more_events;
      later = all_both (λ e. first.detector.parts.events < e) g.more_events h.more_events g.later
          (all_weaker (λ e. mid.detector.parts.events < e) (λ e. first.detector.parts.events < e) h.more_events (λ e lt. let le = g.events in omega (arith, le, lt)) h.later);
    }
