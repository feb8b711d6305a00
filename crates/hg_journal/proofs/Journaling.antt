-- The calls of a journal over those of its log.
use Rattle.std.proofs.Common.{◌≡◌, ◌⊎◌, inl, inr, ◌≤◌, ◌+◌, ℕ, zero, suc, List, [], ◌∷◌, ◌++◌, length, map, Result, Err, Bool, MatchBool, true, false, refl, sym, ◌∙◌, ap, subst, arith, append_assoc, length-append}
use Rattle.std.proofs.lemmas.Bool.{true≢false}
use Rattle.std.proofs.lemmas.List.{append-nil}
use Rattle.std.proofs.lemmas.Grind.{flat_map-append}
use Rattle.std.specs.List.{AllByRecursion}
use Rattle.hg_model.specs.declared.event.Named.{Named}
use Rattle.hg_records.specs.Lengths.{HasRecord}
use Rattle.hg_records.specs.Records.{BeginsWith, RecordFits, record_text}
use Rattle.hg_disk.specs.declared.disk.Disk as disk
use Rattle.hg_disk.specs.Moments.{Leaves, LeavesOnly}
use Rattle.hg_disk.proofs.Moments.{weaker}
use Rattle.hg_gate.specs.Batches.{IsBody, IsLog, IsBeforeOrAfter}
use Rattle.hg_gate.specs.declared.fault.GateFault.{GateFault}
use Rattle.hg_gate.specs.declared.fault.GateFault.TheVariants as fault
use Rattle.hg_model.specs.declared.verdict.Refusal.{Refusal}
use Rattle.hg_model.specs.declared.verdict.Refusal.TheVariants as refusal
use Rattle.hg_gate.specs.Log.{Has}
use Rattle.hg_gate.specs.Reading.{RefusesIfBroken}
use Rattle.hg_gate.specs.Turning.{IsReadTo, IsTurned}
use Rattle.hg_gate.proofs.Appending.{each_image}
use Rattle.hg_gate.proofs.Turning.{stays_on_append}
use Rattle.hg_journal.specs.declared.journal.Journal.{Journal}
use Rattle.hg_journal.specs.declared.journal.JournalReader.{JournalReader}
use Rattle.hg_journal.specs.Journal.{IsJournalBehind, batch_text, of_gate}
use Rattle.hg_journal.specs.Reading.{IsAtBehind, KeepsBehind, Passes, StaysBehind, disk_of, is_broken, rest_of}
use Rattle.hg_journal.proofs.Journals.{Turned, bytes_of, events_of, events_push, fits_back, fits_join, front_of, no_journal, pushed, text_push, turned}

body_within : (bodies : List (List ℕ)) (body : List ℕ) (later : List (List ℕ)) → AllByRecursion IsBody (bodies ++ body ∷ later) → IsBody body
body_within [] body later each = each.0
body_within (b ∷ bodies) body later each = body_within bodies body later each.1

-- the events that were passed over
passed_text : (count : ℕ) (first rest : List ℕ) → Passes count first rest → (more : List Named) × (length more ≡ count) × AllByRecursion RecordFits more × (first ≡ batch_text more ++ rest)
passed_text zero first rest is = ([], refl, tt, sym is)
passed_text (suc n) first rest is =
    let p = passed_text n first is.0 is.1 in
    let named = is.2 in
    let begins = is.3 in (
      p.0 ++ named ∷ [],
      length-append p.0 (named ∷ []) ∙ ap (λ (k : ℕ). k + 1) p.1 ∙ omega arith,
      fits_join p.0 (named ∷ []) p.2 (begins.0, tt),
      p.3 ∙ ap (λ (l : List ℕ). batch_text p.0 ++ l) begins.1 ∙ sym (append_assoc (batch_text p.0) (record_text named) rest)
          ∙ ap (λ (l : List ℕ). l ++ rest) (ap (λ (l : List ℕ). batch_text p.0 ++ l) (sym (append-nil (record_text named))) ∙ sym (flat_map-append record_text p.0 (named ∷ []))),
    )

-- one record more was passed
pub pass_one : (n : ℕ) (first mid rest : List ℕ) → Passes n first mid → HasRecord mid rest → Passes (n + 1) first rest
pass_one n first mid rest passes has = let more : suc n ≡ n + 1 = omega arith in subst (λ (k : ℕ). Passes k first rest) more (mid, passes, has.0, has.1)

gate_broken : (f : GateFault) → of_gate f ≡ refusal.Broken → f ≡ fault.Broken
gate_broken fault.Broken is = refl
gate_broken fault.Damaged is = absurd (cc is)
gate_broken fault.DeviceFault is = absurd (cc is)
gate_broken fault.OutOfMemory is = absurd (cc is)

err_is : {T E : Type 0} (x y : E) → ◌≡◌ {A = Result T E} (Err x) (Err y) → x ≡ y
err_is x y is = cc

-- what a broken log answers its journal answers
pub broken_on : {V W T S : Type 0} (broken : Bool) (f : GateFault) (r : Refusal) (old new : V) (j k : W) → r ≡ of_gate f → RefusesIfBroken {T = T} broken fault.Broken old new (Err f) → broken ≡ false
    → RefusesIfBroken {T = S} broken refusal.Broken j k (Err r)
broken_on {V} {W} {T} {S} broken f r old new j k told h works = record {
  broken = λ is. h.broken (ap (λ (e : GateFault). Err e) (gate_broken f (sym told ∙ err_is {T = S} r refusal.Broken is)));
  refuses = λ is. absurd (true≢false (sym is ∙ works));
  same = λ is. absurd (true≢false (sym is ∙ works));
}

module _ {D : Type 0} (g : disk.Ghosts D) (lead : List ℕ) where
  -- ---- what a journal keeps

  -- its bytes now
  pub bytes_now : (j : Journal D g) (events : List Named) → KeepsBehind lead j events → IsJournalBehind lead (g.state (disk_of j)).contents events
  bytes_now j events k = record { batches = k.batches; log = k.has.reads.has; fits = k.fits; whole = k.whole }

  -- and after a crash
  pub each_image_has : (j : Journal D g) (events : List Named) → KeepsBehind lead j events → Leaves (λ (image : List ℕ). IsJournalBehind lead image events) (g.state (disk_of j))
  each_image_has j events k image is = record {
    batches = k.batches;
    log = each_image g lead j.log (map batch_text k.batches) k.has [] image is;
    fits = k.fits;
    whole = k.whole;
  }

  pub works : (j : Journal D g) (events : List Named) → KeepsBehind lead j events → is_broken j ≡ false
  works j events k = k.has.reads.works

  -- ---- appending

  module _ (past new : List Named) (batches : List (List Named)) (whole : past ≡ events_of batches) (fits : AllByRecursion RecordFits past) (again : AllByRecursion RecordFits new) where
    pub keeps_pushed : (j : Journal D g) → Has lead j.log (map batch_text batches ++ batch_text new ∷ []) → KeepsBehind lead j (past ++ new)
    keeps_pushed j has = record {
      batches = batches ++ new ∷ [];
      has = subst (λ (l : List (List ℕ)). Has lead j.log l) (sym (text_push batches new)) has;
      fits = fits_join past new fits again;
      whole = ap (λ (l : List Named). l ++ new) whole ∙ sym (events_push batches new);
    }

    pub before_or_after : (image : List ℕ) → IsBeforeOrAfter lead (map batch_text batches) (batch_text new) image → IsJournalBehind lead image past ⊎ IsJournalBehind lead image (past ++ new)
    before_or_after image is = elim is [
      | inl before ↦ inl (record { batches = batches; log = before; fits = fits; whole = whole })
      | inr after ↦ inr (pushed lead image past new batches whole fits again after)
    ]

    pub moments : (old now : D) → LeavesOnly g old now (IsBeforeOrAfter lead (map batch_text batches) (batch_text new)) → LeavesOnly g old now (λ (image : List ℕ). IsJournalBehind lead image past ⊎ IsJournalBehind lead image (past ++ new))
    moments old now has = weaker g old now (IsBeforeOrAfter lead (map batch_text batches) (batch_text new)) (λ (image : List ℕ). IsJournalBehind lead image past ⊎ IsJournalBehind lead image (past ++ new)) has before_or_after

  -- ---- reading

  -- before the first event
  pub at_first : (j : Journal D g) (r : JournalReader) (bodies : List (List ℕ)) → Has lead j.log bodies → ((left : List (List ℕ)) → IsReadTo r.batches [] left) → rest_of r ≡ [] → IsAtBehind lead j r []
  at_first j r bodies has place none = record {
    past = [];
    present = [];
    later = bodies;
    read = [];
    has = has;
    place = place bodies;
    one = omega arith;
    split = sym none;
    fits = tt;
    whole = refl;
  }

  module _ (old : Journal D g) (r : JournalReader) (seen : List Named) (h : IsAtBehind lead old r seen) where
    -- batches were added to the journal
    pub added : (new : Journal D g) (more : List (List ℕ)) → Has lead new.log (((map batch_text h.past ++ h.present) ++ h.later) ++ more) → IsAtBehind lead new r seen
    added new more has =
        let bodies = map batch_text h.past ++ h.present in
        record {
          past = h.past;
          present = h.present;
          later = h.later ++ more;
          read = h.read;
          has = subst (λ (l : List (List ℕ)). Has lead new.log l) (append_assoc bodies h.later more) has;
          place = stays_on_append r.batches bodies h.later more h.place;
          one = h.one;
          split = h.split;
          fits = h.fits;
          whole = h.whole;
        }

    -- the present batch was read to its end
    pub behind : rest_of r ≡ [] → Turned h.past h.present seen
    behind none = turned h.past h.present h.read seen h.one (h.split ∙ ap (λ (l : List ℕ). batch_text h.read ++ l) none ∙ append-nil (batch_text h.read)) h.whole

    -- the next one is there
    pub on : (new : Journal D g) (s : JournalReader) → rest_of r ≡ [] → Has lead new.log ((map batch_text h.past ++ h.present) ++ h.later) → IsTurned s.batches (map batch_text h.past ++ h.present) h.later
        → IsAtBehind lead new s seen × (1 ≤ length (rest_of s))
    on new s none has turned =
        let body = rest_of s in
        let later = turned.later in
        let t = behind none in
        let bodies = map batch_text h.past ++ h.present in
        let moved : Has lead new.log (bodies ++ body ∷ later) = subst (λ (l : List (List ℕ)). Has lead new.log (bodies ++ l)) turned.first has in
        let is_body : IsBody body = body_within bodies body later moved.reads.has.each in (
          record {
            past = t.batches;
            present = body ∷ [];
            later = later;
            read = [];
            has = subst (λ (l : List (List ℕ)). Has lead new.log l) (sym (append_assoc (map batch_text t.batches) (body ∷ []) later)) (subst (λ (l : List (List ℕ)). Has lead new.log (l ++ body ∷ later)) (sym t.bodies) moved);
            place = subst (λ (l : List (List ℕ)). IsReadTo s.batches (l ++ body ∷ []) later) (sym t.bodies) turned.at;
            one = omega arith;
            split = append-nil body;
            fits = h.fits;
            whole = t.whole ∙ sym (append-nil (events_of t.batches));
          },
          is_body.0,
        )

    -- there is none
    pub at_last : (new : Journal D g) → rest_of r ≡ [] → h.later ≡ [] → Has lead new.log ((map batch_text h.past ++ h.present) ++ h.later) → KeepsBehind lead new seen
    at_last new none last has =
        let t = behind none in
        let bodies = map batch_text h.past ++ h.present in
        let all : bodies ++ h.later ≡ map batch_text t.batches = ap (λ (l : List (List ℕ)). bodies ++ l) last ∙ append-nil bodies ∙ sym t.bodies in
        record { batches = t.batches; has = subst (λ (l : List (List ℕ)). Has lead new.log l) all has; fits = h.fits; whole = t.whole }

    -- one of the two, as the log answered
    pub found_next : (new : Journal D g) (s : JournalReader) (found : Bool) → rest_of r ≡ [] → Has lead new.log ((map batch_text h.past ++ h.present) ++ h.later)
        → MatchBool found (IsTurned s.batches (map batch_text h.past ++ h.present) h.later) (h.later ≡ []) → MatchBool found (IsAtBehind lead new s seen × (1 ≤ length (rest_of s))) (KeepsBehind lead new seen)
    found_next new s true none has turned = on new s none has turned
    found_next new s false none has last = at_last new none last has

    -- one event more
    pub step : (s : JournalReader) (named : Named) → BeginsWith (rest_of r) named (rest_of s) → StaysBehind r s → IsAtBehind lead old s (seen ++ named ∷ [])
    step s named begins stays = record {
      past = h.past;
      present = h.present;
      later = h.later;
      read = h.read ++ named ∷ [];
      has = h.has;
      place = stays (map batch_text h.past ++ h.present) h.later h.place;
      one = h.one;
      split = h.split ∙ ap (λ (l : List ℕ). batch_text h.read ++ l) begins.1 ∙ sym (append_assoc (batch_text h.read) (record_text named) (rest_of s))
          ∙ ap (λ (l : List ℕ). l ++ rest_of s) (ap (λ (l : List ℕ). batch_text h.read ++ l) (sym (append-nil (record_text named))) ∙ sym (flat_map-append record_text h.read (named ∷ [])));
      fits = fits_join seen (named ∷ []) h.fits (begins.0, tt);
      whole = ap (λ (l : List Named). l ++ named ∷ []) h.whole ∙ append_assoc (events_of h.past) h.read (named ∷ []);
    }

    -- some events more
    pub steps : (s : JournalReader) (count : ℕ) → Passes count (rest_of r) (rest_of s) → StaysBehind r s → (more : List Named) × (length more ≡ count) × IsAtBehind lead old s (seen ++ more)
    steps s count passes stays =
        let p = passed_text count (rest_of r) (rest_of s) passes in (
          p.0,
          p.1,
          record {
            past = h.past;
            present = h.present;
            later = h.later;
            read = h.read ++ p.0;
            has = h.has;
            place = stays (map batch_text h.past ++ h.present) h.later h.place;
            one = h.one;
            split = h.split ∙ ap (λ (l : List ℕ). batch_text h.read ++ l) p.3 ∙ sym (append_assoc (batch_text h.read) (batch_text p.0) (rest_of s))
                ∙ ap (λ (l : List ℕ). l ++ rest_of s) (sym (flat_map-append record_text h.read p.0));
            fits = fits_join seen p.0 h.fits p.2;
            whole = ap (λ (l : List Named). l ++ p.0) h.whole ∙ append_assoc (events_of h.past) h.read p.0;
          },
        )

    -- no record where bytes are left: the bytes are none of a journal
    pub none_of : 1 ≤ length (rest_of r) → ((named : Named) (tail : List ℕ) → BeginsWith (rest_of r) named tail → ⊥) → (events : List Named) → IsJournalBehind lead (g.state (disk_of old)).contents events → ⊥
    none_of some none = by_present h.present h.one h.split h.has.reads.has
      where
        by_present : (present : List (List ℕ)) → length present ≤ 1 → bytes_of present ≡ batch_text h.read ++ rest_of r → IsLog lead (g.state (disk_of old)).contents ((map batch_text h.past ++ present) ++ h.later)
            → (events : List Named) → IsJournalBehind lead (g.state (disk_of old)).contents events → ⊥
        by_present [] one split has events is = absurd (omega (arith, some, ap length split, length-append (batch_text h.read) (rest_of r)))
        by_present (b ∷ []) one split has events is =
            let body : b ≡ batch_text h.read ++ rest_of r = sym (append-nil b) ∙ split in
            no_journal lead (g.state (disk_of old)).contents (map batch_text h.past) h.read (rest_of r) h.later
            (subst (λ (l : List ℕ). IsLog lead (g.state (disk_of old)).contents ((map batch_text h.past ++ l ∷ []) ++ h.later)) body has)
            (fits_back (events_of h.past) h.read (subst (AllByRecursion RecordFits) h.whole h.fits)) some none events is
        by_present (b ∷ c ∷ present) one split has events is = absurd (omega (arith, one))

    -- what was read is the front of what is there
    pub more : (events : List Named) → IsJournalBehind lead (g.state (disk_of old)).contents events → (left : List Named) × (events ≡ seen ++ left)
    more events is = front_of lead (g.state (disk_of old)).contents h.past h.present h.later h.read seen events (rest_of r) h.has.reads.has h.split h.fits h.whole is

-- a fault that is told as damage is damage
pub told_damaged : (f : GateFault) → of_gate f ≡ refusal.Damaged → f ≡ fault.Damaged
told_damaged fault.Broken same = absurd cc
told_damaged fault.Damaged same = refl
told_damaged fault.DeviceFault same = absurd cc
told_damaged fault.OutOfMemory same = absurd cc

-- none more
pub no_more : {D : Type 0} {g : disk.Ghosts D} (lead : List ℕ) (j : Journal D g) (r : JournalReader) (seen more : List Named) → length more ≡ 0 → IsAtBehind lead j r (seen ++ more) → IsAtBehind lead j r seen
no_more lead j r seen [] none at = subst (λ (events : List Named). IsAtBehind lead j r events) (append-nil seen) at
no_more lead j r seen (n ∷ more) none at = absurd (omega (arith, none))
