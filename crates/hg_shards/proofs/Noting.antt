-- What an offered event does to the log of a shard.
use Rattle.std.proofs.Common.{◌≡◌, ◌⊎◌, ℕ, ◌+◌, ◌-◌, ◌<◌, ◌≤◌, Bool, true, false, List, [], ◌∷◌, ◌++◌, length, replicate, Result, Ok, Err, Option, Some, None, Contains, refl, sym, ap, ◌∙◌, subst, ⊎_elim, arith, append-nil, append_assoc, length-append}
use Rattle.std.proofs.lemmas.Bool.{false≢true}
use Rattle.std.proofs.lemmas.List.{length-replicate}
use Rattle.std.specs.Prelude.{if◌then◌else◌}
use Rattle.std.specs.List.{AllByRecursion}
use Rattle.hg_model.specs.declared.event.Event.{Event}
use Rattle.hg_model.specs.declared.event.Event.TheVariants.{Read, Write}
use Rattle.hg_model.specs.declared.event.Access.{Access}
use Rattle.hg_model.specs.declared.event.Named.{Named}
use Rattle.hg_model.specs.declared.verdict.Refusal.{Refusal}
use Rattle.hg_model.specs.declared.verdict.Refusal.TheVariants.{FullSets, OutOfMemory}
use Rattle.hg_model.specs.declared.verdict.Verdict.{Verdict}
use Rattle.hg_model.specs.declared.verdict.Verdict.TheVariants.{Accept, Duplicate, Refuse}
use Rattle.hg_model.specs.Change.{after}
use Rattle.hg_model.specs.Contents.{Content, events_of}
use Rattle.hg_sets.specs.Interning.{Table, Interns, Adds, StandsAt}
use Rattle.hg_sets.specs.declared.fault.SetFault.{SetFault}
use Rattle.hg_sets.specs.declared.fault.SetFault.TheVariants as faults
use Rattle.hg_cells.specs.declared.paged.PagedWords.{PagedWords}
use Rattle.hg_cells.specs.declared.words.Words as words
use Rattle.hg_detect.specs.declared.detector.Answer.{Answer}
use Rattle.hg_detect.specs.declared.detector.Answer.TheVariants as answers
use Rattle.hg_detect.specs.declared.detector.Detector.{Detector}
use Rattle.hg_detect.specs.Answering.{AnswersOffer, AnswersPass, Applies, after_passing, done, is_accepted}
use Rattle.hg_detect.specs.Engine.{AtPresent}
use Rattle.hg_detect.specs.Making.{Asks, AsksBy, sets_asked}
use Rattle.hg_detect.specs.Shown.{ShownDetector, content, verdict_on}
use Rattle.hg_shards.specs.Asking.{HasSets, asked, has_set}
use Rattle.hg_shards.specs.Logging.{Log, made_by, noted}
use Rattle.hg_shards.specs.Sharding.{AtEachEvent, GrowsTo, HasMade, HasOwnSets, IsLogOf, LogGoes, LogsOwnSets, made_in, own_words}
use Rattle.hg_shards.specs.declared.shard.Shard.{Shard}
use Rattle.hg_shards.proofs.Logging.{all_both, all_repeat, all_weaker, made_all, made_before, made_within, rises_with}

-- ---- a table that is asked grows at its end

pub record Grows (old new : Table) : Type 0 where
  pub more : List (List ℕ)
  pub sets : new.sets ≡ old.sets ++ more
  pub limit : new.limit ≡ old.limit

stays : (old new : Table) → new ≡ old → Grows old new
stays old new is = record { more = []; sets = ap (λ (t : Table). t.sets) is ∙ sym (append-nil old.sets); limit = ap (λ (t : Table). t.limit) is }

onward : (first mid last : Table) → Grows first mid → Grows mid last → Grows first last
onward first mid last g h =
    record {
      more = g.more ++ h.more;
      sets = h.sets ∙ ap (λ (sets : List (List ℕ)). sets ++ h.more) g.sets ∙ append_assoc first.sets g.more h.more;
      limit = h.limit ∙ g.limit;
    }

adds_more : (old new : Table) (set : List ℕ) (result : Result ℕ SetFault) → Adds old set result new → Grows old new
adds_more old new set (Ok id) h = record { more = set ∷ []; sets = ap (λ (t : Table). t.sets) h.2; limit = ap (λ (t : Table). t.limit) h.2 }
adds_more old new set (Err faults.Full) h = stays old new h.1
adds_more old new set (Err faults.OutOfMemory) h = stays old new h.1

interns_more : (old new : Table) (set : List ℕ) (result : Result ℕ SetFault) → Interns old set result new → Grows old new
interns_more old new set result h =
    ⊎_elim
    (λ (there : (id : ℕ) × StandsAt old.sets set id × (result ≡ Ok id) × (new ≡ old)). stays old new there.3)
    (λ (absent : (Contains old.sets set → ⊥) × Adds old set result new). adds_more old new set result absent.1)
    h

asks_more : (asked : List (List ℕ)) (refused : Option SetFault) (old new : Table) → Asks old asked refused new → Grows old new
asks_more [] None old new h = stays old new h
asks_more [] (Some fault) old new h = absurd h
asks_more (set ∷ asked) refused old new h =
    ⊎_elim
    (λ (went : (id : ℕ) × (mid : Table) × Interns old set (Ok id) mid × Asks mid asked refused new).
    onward old went.1 new (interns_more old went.1 set (Ok went.0) went.2) (asks_more asked refused went.1 new went.3))
    (λ (refusal : (fault : SetFault) × Interns old set (Err fault) new × (refused ≡ Some fault)). interns_more old new set (Err refusal.0) refusal.1)
    h

by_memory : (asked : List (List ℕ)) (r : Refusal) (old new : Table) → (new ≡ old) ⊎ ((r ≡ OutOfMemory) × (Asks old asked None new ⊎ Asks old asked (Some faults.OutOfMemory) new)) → Grows old new
by_memory asked r old new h =
    ⊎_elim (λ (same : new ≡ old). stays old new same)
    (λ (out : (r ≡ OutOfMemory) × (Asks old asked None new ⊎ Asks old asked (Some faults.OutOfMemory) new)).
    ⊎_elim (λ a. asks_more asked None old new a) (λ a. asks_more asked (Some faults.OutOfMemory) old new a) out.1)
    h

asks_by_more : (asked : List (List ℕ)) (answer : Result Answer Refusal) (old new : Table) → AsksBy old asked (done answer) new → Grows old new
asks_by_more asked (Ok a) old new h = asks_more asked None old new h
asks_by_more asked (Err FullSets) old new h = asks_more asked (Some faults.Full) old new h
asks_by_more asked (Err r) old new h = by_memory asked r old new h

-- ---- the detector after an offer

-- the count of events after an offer
abbrev pub Counts : {W : Type 0} → ShownDetector W → Result Answer Refusal → ShownDetector W → Type 0
Counts old answer new = new.parts.events ≡ (if is_accepted answer then old.parts.events + 1 else old.parts.events)

pub accepted_answer : (answer : Result Answer Refusal) → is_accepted answer ≡ true → answer ≡ Ok answers.Accepted
accepted_answer (Ok answers.Accepted) h = refl
accepted_answer (Ok (answers.Duplicate last)) h = absurd (false≢true h)
accepted_answer (Err r) h = absurd (false≢true h)

pub accept_of : (v : Verdict) (may_refuse : Refusal → Type 0) → Applies v may_refuse (Ok answers.Accepted) → v ≡ Accept
accept_of Accept may_refuse h = refl
accept_of (Duplicate k) may_refuse h = absurd (cc)
accept_of (Refuse r) may_refuse h = absurd (cc)

module _ {W : Type 0} (g : words.Ghosts W) (old : ShownDetector W) (n : Named) (answer : Result Answer Refusal) (new : ShownDetector W) where
  pub offer_grows : AtPresent g.is_faithful old → AnswersOffer g old n answer new → Grows old.sets new.sets
  offer_grows faithful h = by (verdict_on g.cell_of old n) refl
    where
      other : (verdict_on g.cell_of old n ≡ Accept → ⊥) → Grows old.sets new.sets
      other not = stays old.sets new.sets (ap (λ (d : ShownDetector W). d.sets) (h.same not))

      by : (v : Verdict) → verdict_on g.cell_of old n ≡ v → Grows old.sets new.sets
      by Accept is = asks_by_more (sets_asked (content g.cell_of old) n.event) answer old.sets new.sets (h.sets faithful is)
      by (Duplicate last) is = other (λ accepts. absurd (cc (sym is ∙ accepts)))
      by (Refuse r) is = other (λ accepts. absurd (cc (sym is ∙ accepts)))

  pub offer_counts : AtPresent g.is_faithful old → AnswersOffer g old n answer new → Counts old answer new
  offer_counts faithful h = by (is_accepted answer) (h.content faithful)
    where
      by : (b : Bool) → content g.cell_of new ≡ (if b then after (content g.cell_of old) n else content g.cell_of old) → new.parts.events ≡ (if b then old.parts.events + 1 else old.parts.events)
      by true is = ap (λ (c : Content). c.events) is
      by false is = ap (λ (c : Content). c.events) is

  -- an event that asks for no sets leaves the table
  pub offer_keeps : AtPresent g.is_faithful old → AnswersOffer g old n answer new → sets_asked (content g.cell_of old) n.event ≡ [] → is_accepted answer ≡ true → new.sets ≡ old.sets
  offer_keeps faithful h none accepted =
      let is = accepted_answer answer accepted in
      let accepts = accept_of (verdict_on g.cell_of old n) (g.may_refuse new.words) (subst (λ (r : Result Answer Refusal). Applies (verdict_on g.cell_of old n) (g.may_refuse new.words) r) is h.answered) in
      subst (λ (sets : List (List ℕ)). AsksBy old.sets sets (Ok tt) new.sets) none
      (subst (λ (r : Result Answer Refusal). AsksBy old.sets (sets_asked (content g.cell_of old) n.event) (done r) new.sets) is (h.sets faithful accepts))

module _ {W : Type 0} (g : words.Ghosts W) (old : ShownDetector W) (source number : ℕ) (a : Access) (answer : Result Answer Refusal) (new : ShownDetector W) where
  pub pass_keeps : AnswersPass g old source number a answer new → new.sets ≡ old.sets
  pass_keeps h = ap (λ (d : ShownDetector W). d.sets) h.rest

  pub pass_grows : AnswersPass g old source number a answer new → Grows old.sets new.sets
  pass_grows h = stays old.sets new.sets (pass_keeps h)

  pub pass_counts : AnswersPass g old source number a answer new → Counts old answer new
  pass_counts h = by (is_accepted answer) h.content
    where
      by : (b : Bool) → content g.cell_of new ≡ (if b then after_passing (content g.cell_of old) source else content g.cell_of old) → new.parts.events ≡ (if b then old.parts.events + 1 else old.parts.events)
      by true is = ap (λ (c : Content). c.events) is
      by false is = ap (λ (c : Content). c.events) is

-- an event of no access asks for no sets
pub asks_none_of : (c : Content) (e : Event) → ((a : Access) → e ≡ Read a → ⊥) → ((a : Access) → e ≡ Write a → ⊥) → sets_asked c e ≡ []
asks_none_of c (Read a) no_read no_write = absurd (no_read a refl)
asks_none_of c (Write a) no_read no_write = absurd (no_write a refl)
asks_none_of c e no_read no_write = refl

-- ---- the log after an offer

pub at_each : (P Q : List Named → Type 0) (k : ℕ) (trace : List Named) → length trace ≤ k → ((past : List Named) → length past ≤ k → P past → Q past) → AtEachEvent P trace → AtEachEvent Q trace
at_each P Q k [] le f h = f [] le h
at_each P Q k (n ∷ past) le f h = (f (n ∷ past) le h.0, at_each P Q k past (omega arith) f h.1)

module _ (old : Shard) (d : Detector PagedWords) (l : Log) (answer : Result Answer Refusal) (is_log : IsLogOf old.detector old.log) (grows : Grows old.detector.sets d.sets) (counts : Counts old.detector answer d)
    (goes : LogGoes old answer (record old { detector = d; log = l })) where
  abbrev pub now : Shard
  now = record old { detector = d; log = l }

  abbrev Stays : Type 0
  Stays = (l ≡ old.log) × (is_accepted answer ≡ true → d.sets ≡ old.detector.sets)

  abbrev Notes : Type 0
  Notes = (is_accepted answer ≡ true) × (l ≡ record old.log { events = noted old.log.events (length d.sets.sets) d.parts.events })

  pub counted : old.detector.parts.events ≤ d.parts.events
  counted = by (is_accepted answer) counts
    where
      by : (b : Bool) → d.parts.events ≡ (if b then old.detector.parts.events + 1 else old.detector.parts.events) → old.detector.parts.events ≤ d.parts.events
      by true is = omega arith
      by false is = omega arith

  counted_one : is_accepted answer ≡ true → d.parts.events ≡ old.detector.parts.events + 1
  counted_one accepted = counts ∙ ap (λ b. if b then old.detector.parts.events + 1 else old.detector.parts.events) accepted

  grown : length old.detector.sets.sets ≤ length d.sets.sets
  grown = let e = ap (λ (sets : List (List ℕ)). length sets) grows.sets ∙ length-append old.detector.sets.sets grows.more in omega (arith, e)

  noted_length : length old.log.events ≤ length d.sets.sets → length (noted old.log.events (length d.sets.sets) d.parts.events) ≡ length d.sets.sets
  noted_length le =
      let e = length-append old.log.events (replicate (length d.sets.sets - length old.log.events) d.parts.events) in
      let f = length-replicate (length d.sets.sets - length old.log.events) d.parts.events in
      omega (arith, e, f, le)

  pub log_is : IsLogOf d l
  log_is =
      ⊎_elim
      (λ (s : Stays).
      subst (λ (x : Log). IsLogOf d x) (sym s.0)
      (record {
        limit = is_log.limit ∙ sym grows.limit;
        within = let le = is_log.within in let more = grown in omega (arith, le, more);
        rises = is_log.rises;
        past = all_weaker (λ e. e ≤ old.detector.parts.events) (λ e. e ≤ d.parts.events) old.log.events (λ e le. let c = counted in omega (arith, le, c)) is_log.past;
      }))
      (λ (s : Notes).
      subst (λ (x : Log). IsLogOf d x) (sym s.1)
      (record {
        limit = is_log.limit ∙ sym grows.limit;
        within = let le = is_log.within in let more = grown in let e = noted_length (omega (arith, le, more)) in omega (arith, e);
        rises = rises_with old.log.events (length d.sets.sets - length old.log.events) d.parts.events is_log.rises past;
        past = all_both (λ e. e ≤ d.parts.events) old.log.events (replicate (length d.sets.sets - length old.log.events) d.parts.events) past (all_repeat (λ e. e ≤ d.parts.events) (length d.sets.sets - length old.log.events) d.parts.events (omega arith));
      }))
      goes
    where
      past : AllByRecursion (λ e. e ≤ d.parts.events) old.log.events
      past = all_weaker (λ e. e ≤ old.detector.parts.events) (λ e. e ≤ d.parts.events) old.log.events (λ e le. let c = counted in omega (arith, le, c)) is_log.past

  -- what was made up to an event that was counted before
  pub made_same : (k : ℕ) → k ≤ old.detector.parts.events → made_in k now ≡ made_in k old
  made_same k le =
      ⊎_elim
      (λ (s : Stays). ap (λ (x : Log). made_by k d.sets.sets x.events) s.0 ∙ within)
      (λ (s : Notes).
      ap (λ (x : Log). made_by k d.sets.sets x.events) s.1
      ∙ made_before k (length d.sets.sets - length old.log.events) d.parts.events d.sets.sets old.log.events (let e = counted_one s.0 in omega (arith, e, le))
      ∙ within)
      goes
    where
      within : made_by k d.sets.sets old.log.events ≡ made_in k old
      within = ap (λ (sets : List (List ℕ)). made_by k sets old.log.events) grows.sets ∙ made_within k old.detector.sets.sets grows.more old.log.events is_log.within

  pub grows_to : GrowsTo old now
  grows_to =
      ⊎_elim
      (λ (s : Stays).
      record {
        events = counted;
        more_sets = grows.more;
        sets = grows.sets;
        more_events = [];
        log = ap (λ (x : Log). x.events) s.0 ∙ sym (append-nil old.log.events);
        later = tt;
      })
      (λ (s : Notes).
      record {
        events = counted;
        more_sets = grows.more;
        sets = grows.sets;
        more_events = replicate (length d.sets.sets - length old.log.events) d.parts.events;
        log = ap (λ (x : Log). x.events) s.1;
        later = all_repeat (λ e. old.detector.parts.events < e) (length d.sets.sets - length old.log.events) d.parts.events (let e = counted_one s.0 in omega (arith, e));
      })
      goes

  pub log_stays : (trace : List Named) → length trace ≡ old.detector.parts.events → LogsOwnSets trace old → LogsOwnSets trace now
  log_stays trace all =
      at_each (HasMade old) (HasMade now) old.detector.parts.events trace (omega (arith, all))
      (λ past le has set. ap (λ (sets : List (List ℕ)). has_set sets set) (made_same (length past) le) ∙ has set)

  all_logged : length old.log.events ≡ length old.detector.sets.sets → is_accepted answer ≡ true → length l.events ≡ length d.sets.sets
  all_logged same accepted =
      ⊎_elim
      (λ (s : Stays). ap (λ (x : Log). length x.events) s.0 ∙ same ∙ ap (λ (t : Table). length t.sets) (sym (s.1 accepted)))
      (λ (s : Notes). ap (λ (x : Log). length x.events) s.1 ∙ noted_length (let more = grown in omega (arith, same, more)))
      goes

  pub sets_stay : (limit : ℕ) (trace : List Named) (n : Named) → length trace ≡ old.detector.parts.events → HasOwnSets limit trace old → is_accepted answer ≡ true
      → HasSets limit (asked (own_words old) (events_of (n ∷ trace))) d.sets → HasOwnSets limit (n ∷ trace) now
  sets_stay limit trace n all own accepted has =
      let logged = all_logged own.logged accepted in
      let one = counted_one accepted in
      record {
        sets = has;
        logged = logged;
        log = (
          λ set.
              ap (λ (sets : List (List ℕ)). has_set sets set)
              (made_all (length (n ∷ trace)) d.sets.sets l.events logged (subst (λ (k : ℕ). AllByRecursion (λ e. e ≤ k) l.events) (one ∙ ap (λ k. k + 1) (sym all) ∙ (let e : length trace + 1 ≡ length (n ∷ trace) = omega arith in e)) log_is.past))
              ∙ has.members set,
          log_stays trace all own.log,
        );
      }
