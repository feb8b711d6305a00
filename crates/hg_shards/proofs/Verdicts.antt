-- The verdict on an event after traces that agree.
use Rattle.std.proofs.Common.{◌≡◌, ℕ, ◌+◌, Bool, cond, nat_eq, List, [], ◌∷◌, length, map, refl, sym, ap, ◌∙◌, count_by}
use Rattle.std.proofs.lemmas.List.{length-map}
use Rattle.std.specs.List.{fold}
use Rattle.hg_model.specs.declared.event.Named.{Named}
use Rattle.hg_model.specs.Messages.{was_sent, was_received}
use Rattle.hg_model.specs.Contents.{events_of, last_of_source, summary}
use Rattle.hg_model.specs.Verdicts.{standing_of, verdict}
use Rattle.hg_shards.specs.Alike.{AgreeByName, ContentsAgree}
use Rattle.hg_shards.proofs.Rules.{same_length, same_segments, same_threads}
use Rattle.hg_shards.proofs.Lives.{same_state}

counted_from : (source n : ℕ) (ms : List Named) → fold (λ a m. a + cond (nat_eq m.source source) 1 0) n ms ≡ fold (λ a k. a + cond (nat_eq k source) 1 0) n (map (λ m. m.source) ms)
counted_from source n [] = refl
counted_from source n (m ∷ ms) = counted_from source (n + cond (nat_eq m.source source) 1 0) ms

counted : (source : ℕ) (ms : List Named) → last_of_source ms source ≡ count_by (λ k. nat_eq k source) (map (λ m. m.source) ms)
counted source ms = counted_from source 0 ms

same_count : (within : ℕ → Bool) (ms ns : List Named) → AgreeByName within ms ns → length ms ≡ length ns
same_count within ms ns h =
    sym (length-map ms (λ (n : Named). n.event)) ∙ same_length within (events_of ms) (events_of ns) h.events ∙ length-map ns (λ (n : Named). n.event)

same_source : (within : ℕ → Bool) (ms ns : List Named) → AgreeByName within ms ns → (source : ℕ) → last_of_source ms source ≡ last_of_source ns source
same_source within ms ns h source = counted source ms ∙ ap (count_by (λ k. nat_eq k source)) h.sources ∙ sym (counted source ns)

same_standing : (within : ℕ → Bool) (ms ns : List Named) → AgreeByName within ms ns → standing_of (summary ms) ≡ standing_of (summary ns)
same_standing within ms ns h = λ i.
    record {
      events = same_count within ms ns h i;
      segments = length (same_segments within (events_of ms) (events_of ns) h.events i);
      threads = same_threads within (events_of ms) (events_of ns) h.events i;
      last = λ source. same_source within ms ns h source i;
      sent = was_sent (same_segments within (events_of ms) (events_of ns) h.events i);
      received = was_received (same_segments within (events_of ms) (events_of ns) h.events i);
    }

pub same_verdict : (within : ℕ → Bool) (ms ns : List Named) → AgreeByName within ms ns → (n : Named) → verdict (standing_of (summary ms)) n ≡ verdict (standing_of (summary ns)) n
same_verdict within ms ns h n = ap (λ s. verdict s n) (same_standing within ms ns h)

pub same_summary : (within : ℕ → Bool) (ms ns : List Named) → AgreeByName within ms ns → ContentsAgree within (summary ms) (summary ns)
same_summary within ms ns h =
    record {
      events = same_count within ms ns h;
      segments = same_segments within (events_of ms) (events_of ns) h.events;
      threads = same_threads within (events_of ms) (events_of ns) h.events;
      words = λ w inside. same_state within w inside (events_of ms) (events_of ns) h.events;
    }
