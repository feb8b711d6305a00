-- A journal behind another front, and what it gives.
use Rattle.std.proofs.Common.{◌≡◌, inl, inr, ◌≤◌, ◌-◌, ℕ, zero, suc, List, [], ◌∷◌, ◌++◌, length, take, drop, map, Option, Some, None, refl, sym, ◌∙◌, ap, subst, arith, append_assoc}
use Rattle.std.specs.Prelude.{IfSome}
use Rattle.std.specs.List.{AllByRecursion, flat_map}
use Rattle.std.proofs.lemmas.List.{append-nil, drop_at, take_at}
use Rattle.hg_model.specs.declared.event.Named.{Named}
use Rattle.hg_model.specs.Contents.{Content}
use Rattle.hg_model.specs.Change.{followed}
use Rattle.hg_records.specs.Records.{RecordFits}
use Rattle.hg_gate.specs.Batches.{IsClosed, IsLog, base_front, batch, header}
use Rattle.hg_gate.specs.Scan.{IsTail}
use Rattle.hg_gate.specs.declared.based.TheConstants.{MAX_BASE}
use Rattle.hg_gate.proofs.Basing.{based_is_open, front_of, same_number}
use Rattle.hg_gate.proofs.Opening.{not_closed}
use Rattle.hg_gate.proofs.Reading.{behind}
use Rattle.hg_journal.specs.File.{IsJournalFile, JournalFile, Open, Spare}
use Rattle.hg_journal.specs.Journal.{IsJournalBehind, batch_text}
use Rattle.hg_journals.specs.Journals.{AreJournals, HaveJournals}
use Rattle.hg_root.specs.Checkpoints.{Checkpoint, HasPages, root_of}
use Rattle.hg_root.specs.Lawful.{IsLawful}
use Rattle.hg_root.specs.Newest.{IsNewest, IsRootFile}
use Rattle.hg_root.specs.Parts.{Parts}
use Rattle.hg_contents.specs.Images.{start_of}
use Rattle.hg_contents.specs.Images as former
use Rattle.hg_contents.specs.States.{IsLawfulState}
use Rattle.hg_contents.proofs.Following.{counted}
use Rattle.hg_contents.proofs.lawful.Roots.{root_state}
use Rattle.hg_contents.proofs.lawful.Staying.{first, followed_stay}
use Rattle.hg_images.specs.Images as images
use Rattle.hg_migration.specs.Laws.{ContentIsKept, ContentsStay, EventsStay, former_image}

-- ---- the same batches behind another front

log_moved : (front other tail more : List ℕ) (bodies : List (List ℕ)) → IsLog front (front ++ tail) bodies → IsLog other (other ++ (tail ++ more)) bodies
log_moved front other tail more bodies has =
    let t : IsTail tail bodies = subst (λ (l : List ℕ). IsTail l bodies) (drop_at front tail (length front) refl) (behind front (front ++ tail) bodies has) in
    record {
      gate = t.gate;
      rest = t.rest ++ more;
      spelling = ap (λ (l : List ℕ). other ++ (l ++ more)) t.spelling ∙ ap (λ (l : List ℕ). other ++ l) (append_assoc (flat_map batch bodies) (t.gate ∷ t.rest) more)
          ∙ sym (append_assoc other (flat_map batch bodies) (t.gate ∷ (t.rest ++ more)));
      closed = t.closed;
      each = t.each;
    }

events_moved : (front other tail more : List ℕ) (events : List Named) → IsJournalBehind front (front ++ tail) events → IsJournalBehind other (other ++ (tail ++ more)) events
events_moved front other tail more events has = record {
  batches = has.batches;
  log = log_moved front other tail more (map batch_text has.batches) has.log;
  fits = has.fits;
  whole = has.whole;
}

events_same : (front other tail : List ℕ) (events : List Named) → IsJournalBehind front (front ++ tail) events → IsJournalBehind other (other ++ tail) events
events_same front other tail events has = subst (λ (l : List ℕ). IsJournalBehind other (other ++ l) events) (append-nil tail) (events_moved front other tail [] events has)

-- ---- two files

together : (bytes0 spare : List ℕ) (events : List Named) → IsJournalBehind (base_front 0) bytes0 events → IsClosed spare → length events ≤ MAX_BASE → HaveJournals 0 events bytes0 spare
together bytes0 spare events has closed fits = record {
  one = Open 0 events;
  other = Spare;
  one_is = (omega arith, has);
  other_is = closed;
  are = (refl, refl);
  fits = omega (arith, fits);
}

base_is_zero : (base : ℕ) (batches : List ℕ) (events : List Named) → base ≤ MAX_BASE → IsJournalBehind (base_front base) (base_front 0 ++ batches) events → base ≡ 0
base_is_zero base batches events fits has =
    let file = base_front 0 ++ batches in
    same_number base 0 (omega (arith, fits)) (omega arith)
    (ap (λ (l : List ℕ). take 8 (drop 9 l)) (sym (front_of base file (map batch_text has.batches) has.log) ∙ take_at (base_front 0) batches 17 refl))

apart : (one other : JournalFile) (base : ℕ) (batches spare : List ℕ) (events : List Named) → IsJournalFile (base_front 0 ++ batches) one → IsJournalFile spare other → AreJournals one other base events → IsClosed spare
    → (base ≡ 0) × IsJournalBehind (base_front 0) (base_front 0 ++ batches) events
apart Spare other base batches spare events one_is other_is are closed = absurd (not_closed (base_front 0 ++ batches) refl one_is)
apart (Open n xs) (Open m ys) base batches spare events one_is other_is are closed = absurd (not_closed spare (based_is_open m spare (map batch_text other_is.1.batches) other_is.1.log) closed)
apart (Open n xs) Spare base batches spare events one_is other_is are closed =
    let zero_base : n ≡ 0 = base_is_zero n batches xs one_is.0 one_is.1 in
    (are.0 ∙ zero_base, subst (λ (es : List Named). IsJournalBehind (base_front 0) (base_front 0 ++ batches) es) (sym are.1) (subst (λ (k : ℕ). IsJournalBehind (base_front k) (base_front 0 ++ batches) xs) zero_base one_is.1))

pub events_stay : EventsStay
events_stay batches spare events closed = (
  λ has. together (base_front 0 ++ batches) spare events (events_same header (base_front 0) batches events has.0) closed has.1,
  λ have. (events_same (base_front 0) header batches events (apart have.one have.other 0 batches spare events have.one_is have.other_is have.are closed).1, omega (arith, have.fits)),
)

-- ---- contents

root_is_lawful : (parts : Parts) (bytes : List ℕ) → IsRootFile bytes (Some parts) → IsLawful parts
root_is_lawful parts bytes is = is.2.lawful

newest_is_lawful : (parts : Parts) (root former : Option Parts) (one other : List ℕ) → root ≡ Some parts → IsNewest root former one other → IsLawful parts
newest_is_lawful parts root former one other is newest = elim newest.either [
  | inl a ↦ root_is_lawful parts other (subst (IsRootFile other) is a.1)
  | inr a ↦ root_is_lawful parts one (subst (IsRootFile one) is a.0)
]

starts_lawful : (checkpoint : Option Checkpoint) (former : Option Parts) (one other slots : List ℕ) → IsNewest (root_of checkpoint) former one other → IfSome checkpoint (HasPages slots) → IsLawfulState (start_of checkpoint)
starts_lawful None former one other slots newest pages = first
starts_lawful (Some c) former one other slots newest pages = root_state c slots (newest_is_lawful c.root (Some c.root) former one other refl newest) pages

rest_fits : (n : ℕ) (events : List Named) → AllByRecursion RecordFits events → AllByRecursion RecordFits (drop n events)
rest_fits zero events each = each
rest_fits (suc n) [] each = each
rest_fits (suc n) (e ∷ events) each = rest_fits n events each.1

-- a content counts no more events than a base may
few_events : (image : former.Image) (c : Content) (has : former.HasContent image c) → length has.events ≤ MAX_BASE
few_events image c has =
    let start = start_of has.checkpoint in
    let lawful = starts_lawful has.checkpoint has.stands.former image.root0 image.root1 image.slots has.stands.newest has.stands.stand.0 in
    let after = followed_stay start c (drop start.events has.events) lawful (rest_fits start.events has.events has.journal.fits) has.gives.leads in
    omega (arith, counted start c has.events has.gives, after.lawful.events)

forth : (batches : List ℕ) (image : images.Image) (c : Content) (has : former.HasContent (former_image (header ++ batches) image) c) → IsJournalBehind (base_front 0) image.journal0 has.events → IsClosed image.journal1
    → images.HasContent image c
forth batches image c has moved closed =
    let start = start_of has.checkpoint in
    let same : start.events - 0 ≡ start.events = omega arith in
    record {
      checkpoint = has.checkpoint;
      stands = has.stands;
      base = 0;
      events = has.events;
      journals = together image.journal0 image.journal1 has.events moved closed (few_events (former_image (header ++ batches) image) c has);
      gives = record {
        reaches = omega arith;
        enough = omega (arith, has.gives.enough);
        leads = ap (λ (n : ℕ). followed start (drop n has.events)) same ∙ has.gives.leads;
      };
    }

back : (batches : List ℕ) (image : images.Image) (c : Content) → image.journal0 ≡ base_front 0 ++ batches → IsClosed image.journal1 → images.HasContent image c
    → former.HasContent (former_image (header ++ batches) image) c
back batches image c is closed has =
    let start = start_of has.checkpoint in
    let have = has.journals in
    let first_is = subst (λ (l : List ℕ). IsJournalFile l have.one) is have.one_is in
    let alone = apart have.one have.other has.base batches image.journal1 has.events first_is have.other_is have.are closed in
    let same : start.events - has.base ≡ start.events = omega (arith, alone.0) in
    record {
      checkpoint = has.checkpoint;
      stands = has.stands;
      events = has.events;
      journal = events_same (base_front 0) header batches has.events alone.1;
      gives = record {
        enough = omega (arith, has.gives.enough, alone.0);
        leads = ap (λ (n : ℕ). followed start (drop n has.events)) (sym same) ∙ has.gives.leads;
      };
    }

pub contents_stay : ContentsStay
contents_stay batches image is closed c = (
  λ has. forth batches image c has (subst (λ (l : List ℕ). IsJournalBehind (base_front 0) l has.events) (sym is) (events_same header (base_front 0) batches has.events has.journal)) closed,
  back batches image c is closed,
)

pub content_is_kept : ContentIsKept
content_is_kept batches more image c is closed has =
    forth batches image c has
    (subst (λ (l : List ℕ). IsJournalBehind (base_front 0) l has.events) (sym (is ∙ append_assoc (base_front 0) batches more)) (events_moved header (base_front 0) batches more has.events has.journal)) closed
